-- A name finds the only type that has it.
use Rattle.std.proofs.Common.{◌≡◌, ◌∙◌, List, ℕ, Some, refl, sym, ap}
use Rattle.std.proofs.lemmas.Slice.Eq.{bytes_eq-Decides}
use Rattle.std.specs.Str.{bytes_eq}
use Rattle.ioc_fields.specs.declared.record_type.RecordType.{RecordType}
use Rattle.ioc_fields.specs.declared.record_type.RecordType.TheVariants.{Longin}
use Rattle.ioc_fields.specs.Types.{type_name, all_types, type_of, IsTypeNamed}
use Rattle.ioc_fields.proofs.Found.{found_passes}

found : (type : RecordType) → type_of (type_name type) ≡ Some type
found Longin = refl
found _ = refl

pub type_of-exact : (name : List ℕ) → IsTypeNamed name (type_of name)
type_of-exact name type = (
  (λ e. (bytes_eq-Decides (type_name type) name).0 (found_passes (λ t. bytes_eq (type_name t) name) all_types type e)),
  (λ is. ap type_of (sym is) ∙ found type),
)
