-- No type lists a link field twice. Record Reference Manual, the parameter fields of each type.
use Rattle.std.proofs.Common.{◌≡◌, ℕ, zero, suc, Bool, true, false, not, ◌&&◌, ◌||◌, Some, List, [], ◌∷◌, refl, sym, ap, ◌∙◌}
use Rattle.std.proofs.lemmas.Slice.Eq.{bytes_eq-Decides}
use Rattle.std.specs.List.{slice_get, list_any}
use Rattle.std.specs.Str.{bytes_eq}
use Rattle.ioc_fields.specs.declared.field_no.FieldNo.{FieldNo}
use Rattle.ioc_fields.specs.declared.record_type.RecordType.{RecordType}
use Rattle.ioc_fields.specs.declared.record_type.RecordType.TheVariants.{Fanout}
use Rattle.ioc_fields.specs.Names.{common_name, own_name, link_name, input_name, name_of}
use Rattle.ioc_fields.specs.LinkFields.{link_fields}

-- Holds if no two fields of the list have the same name.
unfoldable pub are_named_apart : List FieldNo → Bool
are_named_apart [] = true
are_named_apart (f ∷ fs) = not (list_any (λ g. bytes_eq (name_of f) (name_of g)) fs) && are_named_apart fs

or_false : (a b : Bool) → (a || b) ≡ false → (a ≡ false) × (b ≡ false)
or_false true b e = cc
or_false false b e = (refl, e)

pub not_and : (a b : Bool) → (not a && b) ≡ true → (a ≡ false) × (b ≡ true)
not_and true b e = cc
not_and false b e = (refl, e)

pub not_among : (p : FieldNo → Bool) (fs : List FieldNo) (n : ℕ) (f : FieldNo) → slice_get fs n ≡ Some f → list_any p fs ≡ false → p f ≡ false
not_among p [] n f e h = cc
not_among p (g ∷ gs) zero f e h = let s : g ≡ f = cc in ap p (sym s) ∙ (or_false (p g) (list_any p gs) h).0
not_among p (g ∷ gs) (suc n) f e h = not_among p gs n f e (or_false (p g) (list_any p gs) h).1

not_itself : (f g : FieldNo) → g ≡ f → bytes_eq (name_of g) (name_of f) ≡ false → true ≡ false
not_itself f g is differ = sym ((bytes_eq-Decides (name_of g) (name_of f)).1 (ap name_of is)) ∙ differ

-- If no two fields of a list have the same name, each field is at one place.
once : (fs : List FieldNo) → are_named_apart fs ≡ true → (m n : ℕ) (f : FieldNo) → slice_get fs m ≡ Some f → slice_get fs n ≡ Some f → m ≡ n
unfolding are_named_apart
once [] apart m n f at again = cc
once (g ∷ gs) apart zero zero f at again = refl
once (g ∷ gs) apart zero (suc n) f at again =
    let s : g ≡ f = cc in
    let e = not_itself f g s (not_among (λ x. bytes_eq (name_of g) (name_of x)) gs n f again (not_and (list_any (λ x. bytes_eq (name_of g) (name_of x)) gs) (are_named_apart gs) apart).0) in cc
once (g ∷ gs) apart (suc m) zero f at again =
    let s : g ≡ f = cc in
    let e = not_itself f g s (not_among (λ x. bytes_eq (name_of g) (name_of x)) gs m f at (not_and (list_any (λ x. bytes_eq (name_of g) (name_of x)) gs) (are_named_apart gs) apart).0) in cc
once (g ∷ gs) apart (suc m) (suc n) f at again =
    ap suc (once gs (not_and (list_any (λ x. bytes_eq (name_of g) (name_of x)) gs) (are_named_apart gs) apart).1 m n f at again)

links_named_apart : (type : RecordType) → are_named_apart (link_fields type) ≡ true
unfolding are_named_apart link_fields common_name own_name link_name input_name
links_named_apart Fanout = refl
links_named_apart _ = refl

-- A link field is at one place among those of its type.
pub link_listed_once : (type : RecordType) (m n : ℕ) (f : FieldNo) → slice_get (link_fields type) m ≡ Some f → slice_get (link_fields type) n ≡ Some f → m ≡ n
link_listed_once type m n f at again = once (link_fields type) (links_named_apart type) m n f at again
