-- The laws of the shared numeric fields: what is put reads back, and a new record has the defaults.
use Rattle.std.proofs.Common.{◌≡◌, ℕ, [], Option, Some, refl, sym, ap}
use Rattle.std.specs.Option.{option_map}
use Rattle.std.specs.Prelude.{◌<◌, unwrap_or}
use Rattle.ioc_values.specs.declared.value.Value.{Value}
use Rattle.ioc_values.specs.declared.value.Value.TheVariants as value
use Rattle.ioc_values.specs.Shapes.{IsValueOf, IsInRange}
use Rattle.ioc_menus.specs.declared.severity.Severity.{Severity}
use Rattle.ioc_menus.specs.Numbers.{severity_number}
use Rattle.ioc_fields.specs.declared.field_no.OwnField.{OwnField}
use Rattle.ioc_fields.specs.declared.field_no.OwnField.TheVariants.{Val, Hihi, Lolo, High, Low, Hhsv, Llsv, Hsv, Lsv, Hyst, Lalm, Adel, Mdel, Hopr, Lopr, Egu}
use Rattle.ioc_fields.specs.declared.row.Row.{Row}
use Rattle.ioc_fields.specs.Table.{numeric_row}
use Rattle.ioc_fields.specs.Defaults.{zero_of}
use Rattle.ioc_record.specs.Values.{field_sort, sort_in}
use Rattle.ioc_record.specs.ByRow.{can_put_by, default_by}
use Rattle.ioc_dbcommon.specs.Parts.{severity_in, severity_back}
use Rattle.rec_numeric.specs.Number.{NumberRules}
use Rattle.rec_numeric.specs.NumberLaws.{IsLawfulNumber}
use Rattle.rec_numeric.specs.Numeric.{new_numeric, numeric_get, numeric_stored}
use Rattle.rec_numeric.specs.declared.numeric.Numeric.{Numeric}

-- Holds if the value is of the sort of a field with this row.
abbrev pub IsValueBy : Option Row → Value → Type 0
IsValueBy row v = IsValueOf (sort_in [] (option_map (λ (r : Row). r.kind) row)) v

pub severity_shown : (v : Value) (old : Severity) → (is : (n : ℕ) × (v ≡ value.Enum n) × (n < 4)) → Some (value.Enum (severity_number (unwrap_or (severity_in v) old))) ≡ Some v
severity_shown v old is = rw is.1 (ap (λ n. Some (value.Enum n)) (severity_back is.0 old is.2))

module _ {N : Type 0} (k : NumberRules N) (lawful : IsLawfulNumber k) where
  pub number_shown : (v : Value) (old : N) → IsInRange k.range v → Some (k.value (unwrap_or (k.in_value v) old)) ≡ Some v
  number_shown v old is = let n = lawful.of_range v is in rw n.1 (rw (lawful.back n.0) refl)

  pub numeric_reads_back : (b : Numeric N) (f : OwnField) (v : Value) → can_put_by (numeric_row k.range f) → IsValueBy (numeric_row k.range f) v → numeric_get k (numeric_stored k b f v) f ≡ Some v
  unfolding numeric_row numeric_get numeric_stored field_sort
  numeric_reads_back b Val v can is = number_shown v b.value is
  numeric_reads_back b Hihi v can is = number_shown v b.limits.hihi is
  numeric_reads_back b Lolo v can is = number_shown v b.limits.lolo is
  numeric_reads_back b High v can is = number_shown v b.limits.high is
  numeric_reads_back b Low v can is = number_shown v b.limits.low is
  numeric_reads_back b Hyst v can is = number_shown v b.limits.hysteresis is
  numeric_reads_back b Adel v can is = number_shown v b.archive_deadband is
  numeric_reads_back b Mdel v can is = number_shown v b.monitor_deadband is
  numeric_reads_back b Hopr v can is = number_shown v b.high_range is
  numeric_reads_back b Lopr v can is = number_shown v b.low_range is
  numeric_reads_back b Egu v can is = rw is.1 refl
  numeric_reads_back b Hhsv v can is = severity_shown v b.limits.hihi_severity is
  numeric_reads_back b Llsv v can is = severity_shown v b.limits.lolo_severity is
  numeric_reads_back b Hsv v can is = severity_shown v b.limits.high_severity is
  numeric_reads_back b Lsv v can is = severity_shown v b.limits.low_severity is
  numeric_reads_back b _ v can is = cc

  pub numeric_defaults : (f : OwnField) → numeric_get k (new_numeric k) f ≡ default_by (numeric_row k.range f)
  unfolding numeric_row new_numeric numeric_get zero_of
  numeric_defaults Val = sym lawful.zero_is
  numeric_defaults Hihi = sym lawful.zero_is
  numeric_defaults Lolo = sym lawful.zero_is
  numeric_defaults High = sym lawful.zero_is
  numeric_defaults Low = sym lawful.zero_is
  numeric_defaults Hyst = sym lawful.zero_is
  numeric_defaults Lalm = sym lawful.zero_is
  numeric_defaults Adel = sym lawful.zero_is
  numeric_defaults Mdel = sym lawful.zero_is
  numeric_defaults Hopr = sym lawful.zero_is
  numeric_defaults Lopr = sym lawful.zero_is
  numeric_defaults _ = refl
