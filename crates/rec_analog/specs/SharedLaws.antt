-- The laws of the fields that ai and ao share: a value that is put reads back as converted.
use Rattle.std.proofs.Common.{◌≡◌, ℕ, [], Option, Some, refl, ap}
use Rattle.std.specs.Option.{option_map, option_or}
use Rattle.std.specs.Prelude.{◌<◌, unwrap_or}
use Rattle.ioc_values.specs.declared.value.Value.{Value}
use Rattle.ioc_values.specs.declared.value.Value.TheVariants as value
use Rattle.ioc_values.specs.Shapes.{IsValueOf}
use Rattle.ioc_menus.specs.declared.severity.Severity.{Severity}
use Rattle.ioc_menus.specs.declared.linr.Linr.{Linr as LinrChoice}
use Rattle.ioc_menus.specs.Numbers.{severity_number, linr_number}
use Rattle.ioc_fields.specs.declared.field_no.OwnField.{OwnField}
use Rattle.ioc_fields.specs.declared.field_no.OwnField.TheVariants.{Val, Prec, Egu, Hopr, Lopr, Hihi, Lolo, High, Low, Hhsv, Llsv, Hsv, Lsv, Hyst, Mdel, Adel, Linr, Eguf, Egul, Eslo, Eoff, Aslo, Aoff, Roff, Rval}
use Rattle.ioc_fields.specs.declared.row.Row.{Row}
use Rattle.ioc_fields.specs.Table.{analog_row, scale_row}
use Rattle.ioc_record.specs.Values.{field_sort, sort_in}
use Rattle.ioc_record.specs.ByRow.{can_put_by}
use Rattle.ioc_dbcommon.specs.Parts.{severity_in, severity_back, linr_in, linr_back}
use Rattle.rec_analog.specs.Analog.{analog_get, analog_stored, limit_stored}
use Rattle.rec_analog.specs.Scale.{scale_get, scale_stored}
use Rattle.rec_analog.specs.declared.analog.Analog.{Analog}
use Rattle.rec_analog.specs.declared.scale.Scale.{Scale}

-- Holds if the value is of the sort of a field with this row.
abbrev pub IsValueBy : Option Row → Value → Type 0
IsValueBy row v = IsValueOf (sort_in [] (option_map (λ (r : Row). r.kind) row)) v

severity_shown : (v : Value) (old : Severity) → (is : (n : ℕ) × (v ≡ value.Enum n) × (n < 4)) → Some (value.Enum (severity_number (unwrap_or (severity_in v) old))) ≡ Some v
severity_shown v old is = rw is.1 (ap (λ n. Some (value.Enum n)) (severity_back is.0 old is.2))

linr_shown : (v : Value) (old : LinrChoice) → (is : (n : ℕ) × (v ≡ value.Enum n) × (n < 3)) → Some (value.Enum (linr_number (unwrap_or (linr_in v) old))) ≡ Some v
linr_shown v old is = rw is.1 (ap (λ n. Some (value.Enum n)) (linr_back is.0 old is.2))

-- What is put into a field of VAL is shown.
pub analog_reads_back : (b : Analog) (f : OwnField) (v : Value) → can_put_by (analog_row f) → IsValueBy (analog_row f) v → analog_get (analog_stored b f v) f ≡ Some v
unfolding analog_row analog_get analog_stored limit_stored field_sort
analog_reads_back b Val v can is = rw is.1 refl
analog_reads_back b Prec v can is = rw is.1 refl
analog_reads_back b Egu v can is = rw is.1 refl
analog_reads_back b Hopr v can is = rw is.1 refl
analog_reads_back b Lopr v can is = rw is.1 refl
analog_reads_back b Hihi v can is = rw is.1 refl
analog_reads_back b Lolo v can is = rw is.1 refl
analog_reads_back b High v can is = rw is.1 refl
analog_reads_back b Low v can is = rw is.1 refl
analog_reads_back b Hyst v can is = rw is.1 refl
analog_reads_back b Mdel v can is = rw is.1 refl
analog_reads_back b Adel v can is = rw is.1 refl
analog_reads_back b Hhsv v can is = severity_shown v b.limits.hihi_severity is
analog_reads_back b Llsv v can is = severity_shown v b.limits.lolo_severity is
analog_reads_back b Hsv v can is = severity_shown v b.limits.high_severity is
analog_reads_back b Lsv v can is = severity_shown v b.limits.low_severity is
analog_reads_back b _ v can is = cc

-- What is put into a shared field is shown.
pub shared_reads_back : (s : Scale) (b : Analog) (f : OwnField) (v : Value) → can_put_by (scale_row f) → IsValueBy (scale_row f) v
    → option_or (scale_get (scale_stored s f v) f) (analog_get (analog_stored b f v) f) ≡ Some v
unfolding scale_row analog_row scale_get scale_stored analog_get analog_stored limit_stored field_sort
shared_reads_back s b Val v can is = rw is.1 refl
shared_reads_back s b Prec v can is = rw is.1 refl
shared_reads_back s b Egu v can is = rw is.1 refl
shared_reads_back s b Hopr v can is = rw is.1 refl
shared_reads_back s b Lopr v can is = rw is.1 refl
shared_reads_back s b Hihi v can is = rw is.1 refl
shared_reads_back s b Lolo v can is = rw is.1 refl
shared_reads_back s b High v can is = rw is.1 refl
shared_reads_back s b Low v can is = rw is.1 refl
shared_reads_back s b Hyst v can is = rw is.1 refl
shared_reads_back s b Mdel v can is = rw is.1 refl
shared_reads_back s b Adel v can is = rw is.1 refl
shared_reads_back s b Hhsv v can is = severity_shown v b.limits.hihi_severity is
shared_reads_back s b Llsv v can is = severity_shown v b.limits.lolo_severity is
shared_reads_back s b Hsv v can is = severity_shown v b.limits.high_severity is
shared_reads_back s b Lsv v can is = severity_shown v b.limits.low_severity is
shared_reads_back s b Linr v can is = linr_shown v s.linearization is
shared_reads_back s b Eguf v can is = rw is.1 refl
shared_reads_back s b Egul v can is = rw is.1 refl
shared_reads_back s b Eslo v can is = rw is.1 refl
shared_reads_back s b Eoff v can is = rw is.1 refl
shared_reads_back s b Aslo v can is = rw is.1 refl
shared_reads_back s b Aoff v can is = rw is.1 refl
shared_reads_back s b Roff v can is = rw is.1 refl
shared_reads_back s b Rval v can is = rw is.1 refl
shared_reads_back s b _ v can is = cc
