-- A link field is among the link fields of its record.
use Rattle.std.proofs.Common.{◌≡◌, ℕ, zero, suc, List, [], ◌∷◌, Option, Some, None, Bool, true, false, cond, get_or, refl, sym, ap, ◌∙◌, subst, ⊎_elim, arith}
use Rattle.std.specs.Prelude.{Contains, slice_get, filter, is_some}
use Rattle.std.proofs.lemmas.List.Elements.{Contains-append_left, Contains-append_right, Contains-append_cases}
use Rattle.ioc_fields.specs.declared.field_no.FieldNo.{FieldNo}
use Rattle.ioc_fields.specs.LinkFields.{place}
use Rattle.ioc_fields.specs.Names.{all_fields}
use Rattle.ioc_fields.specs.Table.{is_link}
use Rattle.ioc_dbcommon.specs.declared.link_field.LinkField.{LinkField}
use Rattle.ioc_dbcommon.specs.Links.{named_by_field, named_by_all}
use Rattle.ioc_record.specs.RecordRules.{RecordRules}
use Rattle.ioc_record.specs.Laws.{IsLawful}

lone : {X : Type 0} (x : X) (xs : List X) → Contains (x ∷ xs) x
lone x xs = (0, omega arith, refl)

same_Some : {X : Type 0} (x y : X) → Some x ≡ Some y → x ≡ y
same_Some x y e = cc

none_some : {X : Type 0} (x : X) → None ≡ Some x → ⊥
none_some x e = cc

more : {X : Type 0} (b : Bool) (x y : X) (xs : List X) → Contains xs y → Contains (cond b (x ∷ xs) xs) y
more true x y xs c = Contains-append_right (x ∷ []) xs y c
more false x y xs c = c

passed : {X : Type 0} (b : Bool) (x : X) (xs : List X) → b ≡ true → Contains (cond b (x ∷ xs) xs) x
passed true x xs e = lone x xs
passed false x xs e = absurd (let f : false ≡ true = e in cc)

in_filter : {X : Type 0} (p : X → Bool) (xs : List X) (n : ℕ) (x : X) → slice_get xs n ≡ Some x → p x ≡ true → Contains (filter p xs) x
in_filter p [] n x e h = absurd (none_some x e)
in_filter p (y ∷ xs) zero x e h = let s = same_Some y x e in subst (λ z. Contains (filter p (y ∷ xs)) z) s (passed (p y) y (filter p xs) (ap p s ∙ h))
in_filter p (y ∷ xs) (suc n) x e h = more (p y) y x (filter p xs) (in_filter p xs n x e h)

pub field_there : {R : Type 0} (k : RecordRules R) → IsLawful k → (r : R) (f : FieldNo) → is_some (k.link r f) ≡ true → Contains (k.link_fields r) f
field_there k lawful r f has =
    let at = place f in
    subst (λ (fs : List FieldNo). Contains fs f) (sym (lawful.link_fields_are r)) (in_filter (is_link (k.record_type r)) all_fields at.0 f at.1 (sym (lawful.link_there r f) ∙ has))

-- The record that a link names is among those that all links name.
pub named_among : (link : FieldNo → Option LinkField) (fs : List FieldNo) (f : FieldNo) (t : ℕ) → Contains fs f → Contains (named_by_field (link f)) t → Contains (named_by_all link fs) t
named_among link [] f t c d = absurd (let l = c.1 in omega arith)
named_among link (g ∷ fs) f t c d =
    ⊎_elim
    (λ here. Contains-append_left (named_by_field (link g)) (named_by_all link fs) t (subst (λ (h : FieldNo). Contains (named_by_field (link h)) t) (sym (only g f here)) d))
    (λ there. Contains-append_right (named_by_field (link g)) (named_by_all link fs) t (named_among link fs f t there d))
    (Contains-append_cases (g ∷ []) fs f c)
  where
    only : (x y : FieldNo) → Contains (x ∷ []) y → x ≡ y
    only x y (i, l, e) = sym (ap (λ j. get_or (x ∷ []) j y) (let z : i ≡ 0 = omega arith in z)) ∙ e
