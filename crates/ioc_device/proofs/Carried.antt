-- The relation of a boxed device, transported along an equation of boxes.
use Rattle.std.proofs.Common.{◌≡◌, refl, subst}

-- A relation that holds for a value with one method table holds with an equal one.
pub carried :
    {I : Type 0} {F : I → Type 0} {B : Type 0}
    (P : (i : I) → F i → F i → Type 0)
    (made : (i : I) → F i → B)
    (p q : (i : I) × F i)
    → p ≡ q
    → (w : F p.0)
    → P p.0 p.1 w
    → (x : F q.0) × P q.0 q.1 x × (made p.0 w ≡ made q.0 x)
carried {I} {F} P made p q e w h =
    subst (λ (q : (i : I) × F i). (x : F q.0) × P q.0 q.1 x × (made p.0 w ≡ made q.0 x)) e (w, h, refl)
