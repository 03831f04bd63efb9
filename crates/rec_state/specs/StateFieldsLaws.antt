-- The laws of the fields that bi, bo, mbbi and mbbo share: what is put reads back, a new record has
-- the defaults, and none is a link.
use Rattle.std.proofs.Common.{◌≡◌, ℕ, List, Some, false, refl, ap}
use Rattle.ioc_values.specs.declared.value.Value.{Value}
use Rattle.ioc_values.specs.declared.value.Value.TheVariants as value
use Rattle.ioc_fields.specs.declared.field_no.OwnField.{OwnField}
use Rattle.ioc_fields.specs.declared.field_no.OwnField.TheVariants.{Val, Rval, Mask, Cosv, Lalm}
use Rattle.ioc_fields.specs.Defaults.{zero_of}
use Rattle.ioc_dbcommon.specs.Parts.{severity_back}
use Rattle.ioc_record.specs.BodyRules.{BodyState}
use Rattle.ioc_record.specs.Values.{field_sort}
use Rattle.ioc_record.specs.ByRow.{can_put_by, default_by, is_link_by}
use Rattle.rec_state.specs.StateRows.{state_row, IsValueBy}
use Rattle.rec_state.specs.States.{StateRules}
use Rattle.rec_state.specs.StatesLaws.{IsLawfulStates}
use Rattle.rec_state.specs.StateFields.{new_fields, fields_get, fields_stored, put}
use Rattle.rec_state.specs.declared.state_fields.StateFields.{StateFields}

module _ {S : Type 0} (k : StateRules S) (lawful : IsLawfulStates k) where
  pub fields_read_back : (h : BodyState (StateFields S)) (texts : List (List ℕ)) (f : OwnField) (v : Value) → can_put_by (state_row k.row f)
      → IsValueBy texts (state_row k.row f) v → fields_get k (put k h f v).body f ≡ Some v
  unfolding state_row fields_get fields_stored put field_sort
  fields_read_back h texts Val v can is = rw is.1 refl
  fields_read_back h texts Rval v can is = rw is.1 refl
  fields_read_back h texts Cosv v can is = rw is.1 (ap (λ n. Some (value.Enum n)) (severity_back is.0 h.body.change_severity is.2))
  fields_read_back h texts Mask v can is = cc
  fields_read_back h texts Lalm v can is = cc
  fields_read_back h texts f v can is = lawful.reads_back h.body.states texts f v can is

  pub fields_defaults : (f : OwnField) → fields_get k (new_fields k) f ≡ default_by (state_row k.row f)
  unfolding state_row fields_get new_fields zero_of
  fields_defaults Val = refl
  fields_defaults Rval = refl
  fields_defaults Cosv = refl
  fields_defaults Mask = refl
  fields_defaults Lalm = refl
  fields_defaults f = (lawful.fields f).default

  pub fields_no_links : (f : OwnField) → is_link_by (state_row k.row f) ≡ false
  unfolding state_row
  fields_no_links Val = refl
  fields_no_links Rval = refl
  fields_no_links Cosv = refl
  fields_no_links Mask = refl
  fields_no_links Lalm = refl
  fields_no_links f = (lawful.fields f).no_link
