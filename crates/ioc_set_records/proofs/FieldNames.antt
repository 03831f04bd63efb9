-- A field is determined by its name.
use Rattle.std.proofs.Common.{◌≡◌, ℕ, zero, suc, true, false, Some, List, [], ◌∷◌, refl, sym, ap, ◌∙◌}
use Rattle.std.proofs.lemmas.Slice.Eq.{bytes_eq-Decides}
use Rattle.std.specs.List.{slice_get, list_any}
use Rattle.std.specs.Str.{bytes_eq}
use Rattle.ioc_fields.specs.declared.field_no.FieldNo.{FieldNo}
use Rattle.ioc_fields.specs.Names.{common_name, link_name, last_letter_name, input_name, state_value_name, state_text_name, state_severity_name, own_name, name_of, all_fields}
use Rattle.ioc_fields.specs.LinkFields.{place}
use Rattle.ioc_fields.specs.Once.{are_named_apart, not_and, not_among}

all_named_apart : are_named_apart all_fields ≡ true
unfolding are_named_apart all_fields common_name own_name link_name last_letter_name input_name state_value_name state_text_name state_severity_name
all_named_apart = refl

differ : (h : FieldNo) (hs : List FieldNo) (n : ℕ) (f g : FieldNo) → h ≡ f → slice_get hs n ≡ Some g → list_any (λ x. bytes_eq (name_of h) (name_of x)) hs ≡ false → name_of f ≡ name_of g → ⊥
differ h hs n f g s at none same =
    let r : bytes_eq (name_of h) (name_of g) ≡ false = not_among (λ x. bytes_eq (name_of h) (name_of x)) hs n g at none in
    let t : bytes_eq (name_of h) (name_of g) ≡ true = (bytes_eq-Decides (name_of h) (name_of g)).1 (ap name_of s ∙ same) in
    let e : false ≡ true = sym r ∙ t in cc

named_once : (fs : List FieldNo) (m n : ℕ) (f g : FieldNo) → slice_get fs m ≡ Some f → slice_get fs n ≡ Some g → are_named_apart fs ≡ true → name_of f ≡ name_of g → m ≡ n
unfolding are_named_apart
named_once [] m n f g at again d same = cc
named_once (h ∷ hs) zero zero f g at again d same = refl
named_once (h ∷ hs) zero (suc n) f g at again d same =
    let s : h ≡ f = cc in
    absurd (differ h hs n f g s again (not_and (list_any (λ x. bytes_eq (name_of h) (name_of x)) hs) (are_named_apart hs) d).0 same)
named_once (h ∷ hs) (suc m) zero f g at again d same =
    let s : h ≡ g = cc in
    absurd (differ h hs m g f s at (not_and (list_any (λ x. bytes_eq (name_of h) (name_of x)) hs) (are_named_apart hs) d).0 (sym same))
named_once (h ∷ hs) (suc m) (suc n) f g at again d same =
    ap suc (named_once hs m n f g at again (not_and (list_any (λ x. bytes_eq (name_of h) (name_of x)) hs) (are_named_apart hs) d).1 same)

same_field : (f g : FieldNo) → Some f ≡ Some g → f ≡ g
same_field f g e = cc

pub name_tells : (f g : FieldNo) → name_of f ≡ name_of g → f ≡ g
name_tells f g same =
    let p = place f in
    let q = place g in
    same_field f g (sym p.1 ∙ ap (slice_get all_fields) (named_once all_fields p.0 q.0 f g p.1 q.1 all_named_apart same) ∙ q.1)
