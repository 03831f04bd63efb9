-- A name that hashes to a field with another name is not the name of any field.
use Rattle.std.proofs.Common.{◌≡◌, ℕ, Option, Some, None, List, ap, sym, ◌∙◌, refl}
use Rattle.ioc_fields.specs.declared.field_no.FieldNo.{FieldNo}
use Rattle.ioc_fields.specs.declared.record_type.RecordType.{RecordType}
use Rattle.ioc_fields.specs.Names.{name_of, IsFieldNamed}
use Rattle.ioc_fields.specs.Places.{candidate_of, leads_home, IsNamed}

-- If a name hashes to no field, no field has it.
pub none_named : (name : List ℕ) → candidate_of name ≡ None → IsNamed name None
none_named name none f = ((λ e. cc), (λ e. let home = leads_home f in let there : candidate_of name ≡ Some f = ap candidate_of (sym e) ∙ home in cc))

-- If the field to which a name hashes has the name, it is the field of that name.
pub one_named : (name : List ℕ) (g : FieldNo) → candidate_of name ≡ Some g → name_of g ≡ name → IsNamed name (Some g)
one_named name g there has f = (
  (λ e. let same : g ≡ f = cc in ap name_of (sym same) ∙ has),
  (λ e. let home = leads_home f in let here : candidate_of name ≡ Some f = ap candidate_of (sym e) ∙ home in cc),
)

-- If that field has another name, no field has the name.
pub other_named : (name : List ℕ) (g : FieldNo) → candidate_of name ≡ Some g → (name_of g ≡ name → ⊥) → IsNamed name None
other_named name g there other f = (
  (λ e. cc),
  (λ e. let home = leads_home f in let here : candidate_of name ≡ Some f = ap candidate_of (sym e) ∙ home in let same : g ≡ f = cc in absurd (other (ap name_of same ∙ e))),
)

-- A name has at most one answer.
pub one_answer : (type : RecordType) (name : List ℕ) (a b : Option FieldNo) → IsFieldNamed type name a → IsFieldNamed type name b → a ≡ b
one_answer type name None None p q = refl
one_answer type name (Some f) b p q = sym ((q f).1 ((p f).0 refl))
one_answer type name None (Some f) p q = (p f).1 ((q f).0 refl)
