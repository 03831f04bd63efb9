-- The laws of the common fields: what a put stores, reads back and leaves unchanged, and their
-- defaults.
use Rattle.std.proofs.Common.{◌≡◌, ℕ, true, List, [], ◌∷◌, Option, Some, refl, ap, arith}
use Rattle.std.specs.Prelude.{◌≢◌, take, codes, decimal}
use Rattle.std.specs.Str.Parse.{AllDigits, digits_value}
use Rattle.std.proofs.lemmas.Str.Parse.{IsNumeralModel}
use Rattle.std.proofs.lemmas.Fmt.{decimal-digits_value}
use Rattle.ioc_values.specs.declared.value.Value.{Value}
use Rattle.ioc_values.specs.declared.value.Value.TheVariants as value
use Rattle.ioc_values.specs.Shapes.{IsValueOf}
use Rattle.ioc_fields.specs.declared.field_no.FieldNo.TheVariants.{Common as Common-field}
use Rattle.ioc_fields.specs.declared.field_no.CommonField.{CommonField}
use Rattle.ioc_fields.specs.declared.field_no.CommonField.TheVariants.{Name, Desc, Asg, Dtyp, Scan, Pini, Phas, Evnt, Tse, Disv, Disa, Sdis, Diss, Proc, Disp, Prio, Udf, Udfs, Flnk, Stat, Sevr, Nsta, Nsev, Lcnt, Pact, Putf, Rpro, Time}
use Rattle.ioc_fields.specs.declared.record_type.RecordType.{RecordType}
use Rattle.ioc_fields.specs.Table.{row_of, common_row, can_put}
use Rattle.ioc_fields.specs.Defaults.{zero_of, default_of}
use Rattle.ioc_dbcommon.specs.declared.common.Common.{Common}
use Rattle.ioc_dbcommon.specs.declared.link_field.LinkField.{LinkField}
use Rattle.ioc_dbcommon.specs.Condition.{new_condition, condition_get, condition_stored}
use Rattle.ioc_dbcommon.specs.Scanning.{new_scanning, scanning_get, scanning_stored}
use Rattle.ioc_dbcommon.specs.Disabling.{new_disabling, disabling_get, disabling_stored}
use Rattle.ioc_dbcommon.specs.Parts.{severity_back, scan_back, pini_back, priority_back}
use Rattle.ioc_dbcommon.specs.CommonFields.{shown_name, shown_time, common_get, common_stored}
use Rattle.ioc_dbcommon.specs.Steps.{new_common}
use Rattle.ioc_record.specs.RecordRules.{RecordRules}
use Rattle.ioc_record.specs.Values.{sort_at, field_sort}
use Rattle.ioc_record.specs.Laws.{PutsAlone}

-- Storing a value in a common field changes only those that can be put.
pub stored-alone : (c : Common) (f : CommonField) (v : Value) → PutsAlone c (common_stored c f v)
unfolding common_stored
stored-alone c Desc v = refl
stored-alone c Asg v = refl
stored-alone c Dtyp v = refl
stored-alone c Scan v = refl
stored-alone c Pini v = refl
stored-alone c Phas v = refl
stored-alone c Evnt v = refl
stored-alone c Disv v = refl
stored-alone c Disa v = refl
stored-alone c Diss v = refl
stored-alone c Proc v = refl
stored-alone c Disp v = refl
stored-alone c Prio v = refl
stored-alone c Udf v = refl
stored-alone c Udfs v = refl
stored-alone c _ v = refl

abbrev choice : ℕ → Option Value
choice n = Some (value.Enum n)

-- A value that is put into a common field reads back.
pub common_back : {R : Type 0} (k : RecordRules R) (r : R) (c : Common) (f : CommonField) (v : Value) → can_put (k.record_type r) (Common-field f) ≡ true
    → IsValueOf (sort_at k r (Common-field f)) v → common_get (common_stored c f v) f ≡ Some v
unfolding row_of common_row common_get common_stored field_sort condition_get condition_stored scanning_get scanning_stored disabling_get disabling_stored
common_back k r c Name v can is = cc
common_back k r c Desc v can is = rw is.1 refl
common_back k r c Asg v can is = rw is.1 refl
common_back k r c Dtyp v can is = rw is.1 refl
common_back k r c Scan v can is = rw is.1 (ap choice (scan_back is.0 c.scanning.scan is.2))
common_back k r c Pini v can is = rw is.1 (ap choice (pini_back is.0 c.scanning.at_start is.2))
common_back k r c Phas v can is = rw is.1 refl
common_back k r c Evnt v can is = rw is.1 refl
common_back k r c Tse v can is = rw is refl
common_back k r c Disv v can is = rw is.1 refl
common_back k r c Disa v can is = rw is.1 refl
common_back k r c Sdis v can is = cc
common_back k r c Diss v can is = rw is.1 (ap choice (severity_back is.0 c.disabling.severity is.2))
common_back k r c Proc v can is = rw is.1 refl
common_back k r c Disp v can is = rw is.1 refl
common_back k r c Prio v can is = rw is.1 (ap choice (priority_back is.0 c.scanning.priority is.2))
common_back k r c Udf v can is = rw is.1 refl
common_back k r c Udfs v can is = rw is.1 (ap choice (severity_back is.0 c.condition.undefined_severity is.2))
common_back k r c Flnk v can is = cc
common_back k r c Stat v can is = cc
common_back k r c Sevr v can is = cc
common_back k r c Nsta v can is = cc
common_back k r c Nsev v can is = cc
common_back k r c Lcnt v can is = cc
common_back k r c Pact v can is = cc
common_back k r c Putf v can is = cc
common_back k r c Rpro v can is = cc
common_back k r c Time v can is = cc

-- The number 0 in decimal is the text `0`.
zero_shown : decimal 0 ≡ codes "0"
zero_shown =
    let model : IsNumeralModel (AllDigits 10) (digits_value 10) = record { to = λ ds is. is; from = λ ds is. is; same = λ ds is. refl } in
    decimal-digits_value model (48 ∷ []) (omega arith, tt) (omega arith) (λ is. refl) (omega arith)

pub common_default : (type : RecordType) (name : List ℕ) (f : CommonField) → Common-field f ≢ Common-field Name → common_get (new_common name) f ≡ default_of type (Common-field f)
unfolding new_common new_condition new_scanning new_disabling common_get condition_get scanning_get disabling_get shown_time default_of zero_of row_of common_row
common_default type name Name other = absurd (other refl)
common_default type name Desc other = refl
common_default type name Asg other = refl
common_default type name Dtyp other = refl
common_default type name Scan other = refl
common_default type name Pini other = refl
common_default type name Phas other = refl
common_default type name Evnt other = refl
common_default type name Tse other = refl
common_default type name Disv other = refl
common_default type name Disa other = refl
common_default type name Sdis other = refl
common_default type name Diss other = refl
common_default type name Proc other = refl
common_default type name Disp other = refl
common_default type name Prio other = refl
common_default type name Udf other = refl
common_default type name Udfs other = refl
common_default type name Flnk other = refl
common_default type name Stat other = refl
common_default type name Sevr other = refl
common_default type name Nsta other = refl
common_default type name Nsev other = refl
common_default type name Lcnt other = refl
common_default type name Pact other = refl
common_default type name Putf other = refl
common_default type name Rpro other = refl
common_default type name Time other = ap (λ (text : List ℕ). Some (value.Text (take 39 text))) zero_shown

-- Setting a link changes no value.
pub common_kept : (c : Common) (disable forward : LinkField) (g : CommonField) → common_get (record c { disable_link = disable; forward_link = forward }) g ≡ common_get c g
unfolding common_get shown_name
common_kept c disable forward Name = refl
common_kept c disable forward Desc = refl
common_kept c disable forward Asg = refl
common_kept c disable forward Dtyp = refl
common_kept c disable forward Scan = refl
common_kept c disable forward Pini = refl
common_kept c disable forward Phas = refl
common_kept c disable forward Evnt = refl
common_kept c disable forward Tse = refl
common_kept c disable forward Disv = refl
common_kept c disable forward Disa = refl
common_kept c disable forward Sdis = refl
common_kept c disable forward Diss = refl
common_kept c disable forward Proc = refl
common_kept c disable forward Disp = refl
common_kept c disable forward Prio = refl
common_kept c disable forward Udf = refl
common_kept c disable forward Udfs = refl
common_kept c disable forward Flnk = refl
common_kept c disable forward Stat = refl
common_kept c disable forward Sevr = refl
common_kept c disable forward Nsta = refl
common_kept c disable forward Nsev = refl
common_kept c disable forward Lcnt = refl
common_kept c disable forward Pact = refl
common_kept c disable forward Putf = refl
common_kept c disable forward Rpro = refl
common_kept c disable forward Time = refl
