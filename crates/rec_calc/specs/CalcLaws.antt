-- The type calc keeps the laws of record types.
use Rattle.std.proofs.Common.{◌≡◌, ℕ, Bool, true, List, [], Some, refl, sym, ap}
use Rattle.std.specs.Prelude.{is_some}
use Rattle.ioc_values.specs.declared.value.Value.{Value}
use Rattle.ioc_values.specs.Shapes.{IsValueOf}
use Rattle.ioc_fields.specs.declared.field_no.FieldNo.TheVariants.{Own}
use Rattle.ioc_fields.specs.declared.field_no.FieldSlot.{FieldSlot}
use Rattle.ioc_fields.specs.declared.field_no.FieldSlot.TheVariants.{N0, N12, N13, N14, N15}
use Rattle.ioc_fields.specs.declared.field_no.OwnField.{OwnField}
use Rattle.ioc_fields.specs.declared.field_no.OwnField.TheVariants.{Val, Calc as Calc-field, Letter, LastLetter, InputLink}
use Rattle.ioc_fields.specs.declared.record_type.RecordType.TheVariants.{Calc as Calc-type}
use Rattle.ioc_fields.specs.Table.{row_of, own_row, input_slot_row, inputs_row, calc_row, analog_row, can_put, is_link, kind_of}
use Rattle.ioc_fields.specs.Defaults.{zero_of, own_default}
use Rattle.ioc_dbcommon.specs.declared.body.Got.{Got}
use Rattle.ioc_dbcommon.specs.declared.body.Got.TheVariants as got
use Rattle.ioc_dbcommon.specs.declared.link_field.LinkField.{LinkField}
use Rattle.ioc_dbcommon.specs.Links.{no_link, use_of, named_by_field}
use Rattle.ioc_record.specs.Values.{field_sort, sort_in}
use Rattle.ioc_record.specs.BodyRules.{BodyState}
use Rattle.ioc_record.specs.BodyLaws.{IsLawfulBody, IsNewBody}
use Rattle.ioc_record.specs.ByRow.{can_put_by}
use Rattle.rec_analog.specs.declared.analog.Analog.{Analog}
use Rattle.rec_analog.specs.Analog.{new_limits, new_analog, analog_get, analog_stored}
use Rattle.rec_analog.specs.SharedLaws.{IsValueBy, analog_reads_back}
use Rattle.rec_calc.specs.Inputs.{new_inputs, inputs_link, inputs_with_link, inputs_get}
use Rattle.rec_calc.specs.InputsLaws.{inputs_set_here, inputs_set_there, inputs_set_others, inputs_set_twice, inputs_set_values, inputs_stored-links, settled-links, posted-links, letter_reads_back, last_letter_fixed, input_fixed, letter_no_link, last_letter_no_link, never_both}
use Rattle.rec_calc.specs.Calc.{calc, new_calc, with_calculation, calc_get, calc_stored, calculated, calc_taken, calc_posted, calc_loaded}
use Rattle.rec_calc.specs.declared.calc.Calc.{Calc}

-- ---- Links

pub stored-links : (h : BodyState Calc) (f : OwnField) (v : Value) → (calc_stored h f v).body.inputs.links ≡ h.body.inputs.links
unfolding calc_stored
stored-links h Val v = refl
stored-links h (Letter s) v = inputs_stored-links h.body.inputs (Letter s) v
stored-links h _ v = refl

pub taken-links : (h : BodyState Calc) (got : Got) → (calc_taken h got).body.inputs.links ≡ h.body.inputs.links
unfolding calc_taken calculated
taken-links h (got.Value v) = refl
taken-links h got.Nothing = refl
taken-links h got.Fault = refl

pub loaded-links : (b : Calc) → (calc_loaded b).inputs.links ≡ b.inputs.links
unfolding calc_loaded
loaded-links b = settled-links b.inputs

pub posts-links : (b : Calc) (changed : Bool) → (calc_posted b changed).inputs.links ≡ b.inputs.links
unfolding calc_posted
posts-links b changed = posted-links changed b.inputs

calculated-links : (b : Calc) (f : OwnField) (c : List ℕ) → (with_calculation b f c).inputs.links ≡ b.inputs.links
unfolding with_calculation
calculated-links b Calc-field c = refl
calculated-links b _ c = refl

slot_there : (links : List LinkField) (s : FieldSlot) → is_some (inputs_link links (InputLink s)) ≡ is_link Calc-type (Own (InputLink s))
unfolding row_of own_row calc_row inputs_row input_slot_row
slot_there links N0 = refl
slot_there links _ = refl

link-there : (b : Calc) (f : OwnField) → is_some (inputs_link b.inputs.links f) ≡ is_link Calc-type (Own f)
unfolding row_of own_row calc_row inputs_row input_slot_row analog_row
link-there b (InputLink s) = slot_there b.inputs.links s
link-there b (Letter s) = sym (letter_no_link s)
link-there b (LastLetter s) = sym (last_letter_no_link s)
link-there b Val = refl
link-there b _ = refl

slot_missing : (s : FieldSlot) → named_by_field (inputs_link new_calc.inputs.links (InputLink s)) ≡ []
unfolding new_calc new_inputs use_of
slot_missing N0 = refl
slot_missing _ = refl

missing-links : (f : OwnField) → named_by_field (inputs_link new_calc.inputs.links f) ≡ []
missing-links (InputLink s) = slot_missing s
missing-links _ = refl

-- ---- Values

value_reads_back : (b : Analog) (v : Value) → can_put_by (calc_row Val) → IsValueBy (calc_row Val) v → analog_get (analog_stored b Val v) Val ≡ Some v
unfolding calc_row analog_get analog_stored field_sort
value_reads_back b v can is = rw is.1 refl

-- What is put into a field of calc is shown.
pub calc_reads_back : (h : BodyState Calc) (f : OwnField) (v : Value) → can_put_by (calc_row f) → IsValueBy (calc_row f) v → calc_get (calc_stored h f v).body f ≡ Some v
unfolding calc_row inputs_row calc_get calc_stored field_sort analog_get
calc_reads_back h Val v can is = value_reads_back h.body.analog v can is
calc_reads_back h Calc-field v can is = cc
calc_reads_back h (Letter s) v can is = letter_reads_back h.body.inputs s v can is
calc_reads_back h (LastLetter s) v can is = absurd (last_letter_fixed s can)
calc_reads_back h (InputLink s) v can is = absurd (input_fixed s can)
calc_reads_back h f v can is = analog_reads_back h.body.analog f v can is

reads_back : (h : BodyState Calc) (f : OwnField) (v : Value) → can_put Calc-type (Own f) ≡ true → IsValueOf (sort_in [] (kind_of Calc-type (Own f))) v → calc_get (calc_stored h f v).body f ≡ Some v
unfolding row_of own_row
reads_back h f v can is = calc_reads_back h f v can is

pub set-values : (b : Calc) (f : OwnField) (l : LinkField) (g : OwnField) → calc_get (record b { inputs = inputs_with_link b.inputs f l }) g ≡ calc_get b g
unfolding calc_get
set-values b f l (Letter s) = inputs_set_values b.inputs f l (Letter s)
set-values b f l (LastLetter s) = inputs_set_values b.inputs f l (LastLetter s)
set-values b f l _ = refl

pub calc_lawful : IsLawfulBody calc
calc_lawful = record {
  missing_links = missing-links;
  link_there = link-there;
  type_stays = record {
    taken = λ h got. refl;
    stored = λ h f v. refl;
    set = λ b f l. refl;
    loaded = λ h. refl;
    posted = λ b changed. refl;
    calculated = λ b f c. refl;
  };
  taken_links = λ h got. ap inputs_link (taken-links h got);
  stored_links = λ h f v. ap inputs_link (stored-links h f v);
  set_here = λ b f l is. inputs_set_here b.inputs f l is;
  set_there = λ b f g l. inputs_set_there b.inputs f g l;
  set_others = λ b f g l apart. inputs_set_others b.inputs f g l apart;
  set_twice = λ b f l m. ap (λ i. record b { inputs = i }) (inputs_set_twice b.inputs f l m);
  set_values = set-values;
  posted_links = λ b changed. ap inputs_link (posts-links b changed);
  calculated_links = λ b f c. ap inputs_link (calculated-links b f c);
  loaded_links = λ h. ap inputs_link (loaded-links h.body);
  put_reads_back = reads_back;
  begin_named = λ b t is. cc;
  choice_named = λ b t is. cc;
  output_named = λ h got t v is. cc;
  readers_write_none = λ h got v reads is. cc;
}

-- ---- A new record

new_letter : (s : FieldSlot) → calc_get new_calc (Letter s) ≡ own_default Calc-type (Letter s)
unfolding calc_get new_calc inputs_get new_inputs own_default zero_of row_of own_row calc_row inputs_row input_slot_row
new_letter N0 = refl
new_letter _ = refl

new_last : (s : FieldSlot) → calc_get new_calc (LastLetter s) ≡ own_default Calc-type (LastLetter s)
unfolding calc_get new_calc inputs_get new_inputs own_default zero_of row_of own_row calc_row inputs_row input_slot_row
new_last N0 = refl
new_last _ = refl

new_input : (s : FieldSlot) → calc_get new_calc (InputLink s) ≡ own_default Calc-type (InputLink s)
unfolding calc_get new_calc analog_get own_default zero_of row_of own_row calc_row inputs_row input_slot_row
new_input N0 = refl
new_input _ = refl

new_values : (f : OwnField) → calc_get new_calc f ≡ own_default Calc-type f
unfolding calc_get new_calc analog_get new_analog new_limits own_default zero_of row_of own_row calc_row inputs_row analog_row
new_values (Letter s) = new_letter s
new_values (LastLetter s) = new_last s
new_values (InputLink s) = new_input s
new_values Val = refl
new_values _ = refl

new_slot : (s : FieldSlot) → is_link Calc-type (Own (InputLink s)) ≡ true → inputs_link new_calc.inputs.links (InputLink s) ≡ Some no_link
unfolding new_calc new_inputs row_of own_row calc_row inputs_row input_slot_row
new_slot N12 is = cc
new_slot N13 is = cc
new_slot N14 is = cc
new_slot N15 is = cc
new_slot _ is = refl

new_links : (f : OwnField) → is_link Calc-type (Own f) ≡ true → inputs_link new_calc.inputs.links f ≡ Some no_link
unfolding row_of own_row calc_row inputs_row analog_row
new_links (InputLink s) is = new_slot s is
new_links (Letter s) is = absurd (never_both _ (letter_no_link s) is)
new_links (LastLetter s) is = absurd (never_both _ (last_letter_no_link s) is)
new_links _ is = cc

-- A new record has the defaults.
pub calc_new : IsNewBody calc new_calc
calc_new = record { values = new_values; links = new_links }
