-- The type sel keeps the laws of record types.
use Rattle.std.proofs.Common.{◌≡◌, ◌≢◌, ℕ, Bool, true, false, List, [], Option, Some, None, refl, sym, ap, ◌∙◌, ◌⊎◌, inl, inr}
use Rattle.std.proofs.Math.Path.{fun_ext}
use Rattle.std.specs.Prelude.{◌<◌, is_some, unwrap_or}
use Rattle.std.specs.Float.Ieee.{Float, inf}
use Rattle.ioc_values.specs.declared.value.Value.{Value}
use Rattle.ioc_values.specs.declared.value.Value.TheVariants as value
use Rattle.ioc_values.specs.Shapes.{IsValueOf}
use Rattle.ioc_menus.specs.declared.selmode.Selmode.{Selmode}
use Rattle.ioc_menus.specs.declared.selmode.Selmode.TheVariants.{Specified, HighSignal, LowSignal, MedianSignal}
use Rattle.ioc_menus.specs.Numbers.{selmode_number}
use Rattle.ioc_fields.specs.declared.field_no.FieldNo.TheVariants.{Own}
use Rattle.ioc_fields.specs.declared.field_no.FieldSlot.{FieldSlot}
use Rattle.ioc_fields.specs.declared.field_no.FieldSlot.TheVariants.{N0, N12, N13, N14, N15}
use Rattle.ioc_fields.specs.declared.field_no.OwnField.{OwnField}
use Rattle.ioc_fields.specs.declared.field_no.OwnField.TheVariants.{Val, Selm, Seln, Nvl, Letter, LastLetter, InputLink}
use Rattle.ioc_fields.specs.declared.record_type.RecordType.TheVariants.{Sel as Sel-type}
use Rattle.ioc_fields.specs.Table.{row_of, own_row, input_slot_row, inputs_row, sel_row, analog_row, can_put, is_link, kind_of}
use Rattle.ioc_fields.specs.Defaults.{zero_of, letter_default, own_default}
use Rattle.ioc_dbcommon.specs.declared.body.Got.{Got}
use Rattle.ioc_dbcommon.specs.declared.body.Got.TheVariants as got
use Rattle.ioc_dbcommon.specs.declared.body.Want.TheVariants.{ReadLink, ReadInputs}
use Rattle.ioc_dbcommon.specs.declared.link_field.LinkField.{LinkField}
use Rattle.ioc_dbcommon.specs.declared.link_field.LinkUse.TheVariants.{Standing}
use Rattle.ioc_dbcommon.specs.declared.link_field.StandingLink.{StandingLink}
use Rattle.ioc_dbcommon.specs.Links.{no_link, use_of, named_by_field}
use Rattle.ioc_dbcommon.specs.Parts.{selmode_in, selmode_back}
use Rattle.ioc_record.specs.Values.{field_sort, sort_in}
use Rattle.ioc_record.specs.BodyRules.{BodyState}
use Rattle.ioc_record.specs.BodyLaws.{IsLawfulBody, IsNewBody}
use Rattle.ioc_record.specs.ByRow.{can_put_by}
use Rattle.rec_analog.specs.Analog.{new_limits, new_analog, analog_get}
use Rattle.rec_analog.specs.SharedLaws.{IsValueBy, analog_reads_back}
use Rattle.rec_calc.specs.Inputs.{new_inputs, inputs_link, inputs_with_link, inputs_get}
use Rattle.rec_calc.specs.InputsLaws.{inputs_set_here, inputs_set_there, inputs_set_others, inputs_set_twice, inputs_set_values, inputs_stored-links, settled-links, posted-links, letter_reads_back, last_letter_fixed, input_fixed, letter_no_link, last_letter_no_link, never_both}
use Rattle.rec_sel.specs.Choosing.{first_highest, first_lowest}
use Rattle.rec_sel.specs.Sel.{sel, new_sel, sel_link, sel_with_link, sel_get, sel_stored, chosen_by, sel_begin, specified, selected, highest, lowest, median, value_taken, taken_of, specified_taken, came_by, came, sel_taken, sel_posted, constant_put, sel_loaded}
use Rattle.rec_sel.specs.declared.sel.Sel.{Sel}

-- ---- Links

-- Holds if the links are the same.
record SameLinks (before after : Sel) : Type 0 where
  nvl : after.number_input ≡ before.number_input
  inputs : after.inputs.links ≡ before.inputs.links

links_on : (b c : Sel) → SameLinks b c → sel_link c.number_input c.inputs.links ≡ sel_link b.number_input b.inputs.links
links_on b c same = ap (λ l. sel_link l c.inputs.links) same.nvl ∙ ap (sel_link b.number_input) same.inputs

stored-same : (h : BodyState Sel) (f : OwnField) (v : Value) → SameLinks h.body (sel_stored h f v).body
unfolding sel_stored
stored-same h Val v = record { nvl = refl; inputs = refl }
stored-same h Selm v = record { nvl = refl; inputs = refl }
stored-same h Seln v = record { nvl = refl; inputs = refl }
stored-same h (Letter s) v = record { nvl = refl; inputs = inputs_stored-links h.body.inputs (Letter s) v }
stored-same h _ v = record { nvl = refl; inputs = refl }

selected-same : (b : Sel) (o : Option ℕ) (x : Float) → SameLinks b (selected b o x).0
selected-same b None x = record { nvl = refl; inputs = refl }
selected-same b (Some n) x = record { nvl = refl; inputs = refl }

taken_of-same : (h : BodyState Sel) (found : Sel × Float) → SameLinks h.body found.0 → SameLinks h.body (taken_of h found).body
unfolding value_taken
taken_of-same h found same = record { nvl = same.nvl; inputs = same.inputs }

specified-same : (h : BodyState Sel) (o : Option Float) → SameLinks h.body (specified_taken h o).body
unfolding value_taken
specified-same h None = record { nvl = refl; inputs = refl }
specified-same h (Some x) = record { nvl = refl; inputs = refl }

came_by-same : (mode : Selmode) (h : BodyState Sel) → SameLinks h.body (came_by mode h).body
unfolding highest lowest median
came_by-same Specified h = specified-same h (specified h.body)
came_by-same HighSignal h = taken_of-same h (highest h.body) (selected-same h.body (first_highest h.body.inputs.values) (inf true))
came_by-same LowSignal h = taken_of-same h (lowest h.body) (selected-same h.body (first_lowest h.body.inputs.values) (inf false))
came_by-same MedianSignal h = taken_of-same h (median h.body) (record { nvl = refl; inputs = refl })

taken-same : (h : BodyState Sel) (got : Got) → SameLinks h.body (sel_taken h got).body
unfolding sel_taken came
taken-same h (got.Value v) = let s = came_by-same h.body.mode h in record { nvl = s.nvl; inputs = s.inputs }
taken-same h got.Nothing = let s = came_by-same h.body.mode h in record { nvl = s.nvl; inputs = s.inputs }
taken-same h got.Fault = record { nvl = refl; inputs = refl }

loaded-same : (b : Sel) → SameLinks b (sel_loaded b)
unfolding sel_loaded constant_put
loaded-same b = record { nvl = refl; inputs = settled-links b.inputs }

posted-same : (b : Sel) (changed : Bool) → SameLinks b (sel_posted b changed)
posted-same b changed = record { nvl = refl; inputs = posted-links changed b.inputs }

slot_there : (links : List LinkField) (s : FieldSlot) → is_some (inputs_link links (InputLink s)) ≡ is_link Sel-type (Own (InputLink s))
unfolding row_of own_row sel_row inputs_row input_slot_row
slot_there links N0 = refl
slot_there links _ = refl

link-there : (b : Sel) (f : OwnField) → is_some (sel_link b.number_input b.inputs.links f) ≡ is_link Sel-type (Own f)
unfolding row_of own_row sel_row inputs_row input_slot_row analog_row
link-there b (InputLink s) = slot_there b.inputs.links s
link-there b (Letter s) = sym (letter_no_link s)
link-there b (LastLetter s) = sym (last_letter_no_link s)
link-there b Nvl = refl
link-there b _ = refl

slot_missing : (s : FieldSlot) → named_by_field (inputs_link new_sel.inputs.links (InputLink s)) ≡ []
unfolding new_sel new_inputs use_of
slot_missing N0 = refl
slot_missing _ = refl

missing-links : (f : OwnField) → named_by_field (sel_link new_sel.number_input new_sel.inputs.links f) ≡ []
unfolding new_sel use_of
missing-links (InputLink s) = slot_missing s
missing-links Nvl = refl
missing-links _ = refl

set-here : (b : Sel) (f : OwnField) (l : LinkField) → is_some (sel_link b.number_input b.inputs.links f) ≡ true
    → sel_link (sel_with_link b f l).number_input (sel_with_link b f l).inputs.links f ≡ Some l
unfolding sel_with_link
set-here b Nvl l is = refl
set-here b f l is = inputs_set_here b.inputs f l is

set-there : (b : Sel) (f g : OwnField) (l : LinkField)
    → (sel_link (sel_with_link b f l).number_input (sel_with_link b f l).inputs.links g ≡ Some l)
    ⊎ (sel_link (sel_with_link b f l).number_input (sel_with_link b f l).inputs.links g ≡ sel_link b.number_input b.inputs.links g)
unfolding sel_with_link
set-there b Nvl Nvl l = inl refl
set-there b Nvl g l = inr refl
set-there b f Nvl l = inr refl
set-there b f g l = inputs_set_there b.inputs f g l

set-others : (b : Sel) (f g : OwnField) (l : LinkField) → g ≢ f
    → sel_link (sel_with_link b f l).number_input (sel_with_link b f l).inputs.links g ≡ sel_link b.number_input b.inputs.links g
unfolding sel_with_link
set-others b Nvl Nvl l apart = absurd (apart refl)
set-others b Nvl g l apart = refl
set-others b f Nvl l apart = refl
set-others b f g l apart = inputs_set_others b.inputs f g l apart

set-twice : (b : Sel) (f : OwnField) (l m : LinkField) → sel_with_link (sel_with_link b f l) f m ≡ sel_with_link b f m
unfolding sel_with_link
set-twice b Nvl l m = refl
set-twice b f l m = ap (λ i. record b { inputs = i }) (inputs_set_twice b.inputs f l m)

inputs_kept : (b : Sel) (f : OwnField) (l : LinkField) (g : OwnField) → sel_get (record b { inputs = inputs_with_link b.inputs f l }) g ≡ sel_get b g
unfolding sel_get
inputs_kept b f l (Letter s) = inputs_set_values b.inputs f l (Letter s)
inputs_kept b f l (LastLetter s) = inputs_set_values b.inputs f l (LastLetter s)
inputs_kept b f l _ = refl

nvl_kept : (b : Sel) (l : LinkField) (g : OwnField) → sel_get (record b { number_input = l }) g ≡ sel_get b g
unfolding sel_get
nvl_kept b l Selm = refl
nvl_kept b l _ = refl

set_values : (b : Sel) (f : OwnField) (l : LinkField) (g : OwnField) → sel_get (sel_with_link b f l) g ≡ sel_get b g
unfolding sel_with_link
set_values b Nvl l g = nvl_kept b l g
set_values b f l g = inputs_kept b f l g

-- Records with the same link in each link field have the same NVL, and the same inputs.
pub same_nvl : (nvl other : LinkField) (xs ys : List LinkField) → sel_link nvl xs ≡ sel_link other ys → nvl ≡ other
same_nvl nvl other xs ys same = ap (λ (links : OwnField → Option LinkField). unwrap_or (links Nvl) no_link) same

same_input : (nvl other : LinkField) (xs ys : List LinkField) → sel_link nvl xs ≡ sel_link other ys → (f : OwnField) → inputs_link xs f ≡ inputs_link ys f
same_input nvl other xs ys same Nvl = refl
same_input nvl other xs ys same f = ap (λ (links : OwnField → Option LinkField). links f) same

pub same_sel_links : (nvl other : LinkField) (xs ys : List LinkField) → sel_link nvl xs ≡ sel_link other ys → inputs_link xs ≡ inputs_link ys
same_sel_links nvl other xs ys same = fun_ext (same_input nvl other xs ys same)

-- ---- Values

mode_shown : (v : Value) (old : Selmode) → (is : (n : ℕ) × (v ≡ value.Enum n) × (n < 4)) → Some (value.Enum (selmode_number (unwrap_or (selmode_in v) old))) ≡ Some v
mode_shown v old is = rw is.1 (ap (λ n. Some (value.Enum n)) (selmode_back is.0 old is.2))

reads_back_by : (h : BodyState Sel) (f : OwnField) (v : Value) → can_put_by (sel_row f) → IsValueBy (sel_row f) v → sel_get (sel_stored h f v).body f ≡ Some v
unfolding sel_row inputs_row sel_get sel_stored field_sort
reads_back_by h Val v can is = cc
reads_back_by h Nvl v can is = cc
reads_back_by h Selm v can is = mode_shown v h.body.mode is
reads_back_by h Seln v can is = rw is.1 refl
reads_back_by h (Letter s) v can is = letter_reads_back h.body.inputs s v can is
reads_back_by h (LastLetter s) v can is = absurd (last_letter_fixed s can)
reads_back_by h (InputLink s) v can is = absurd (input_fixed s can)
reads_back_by h f v can is = analog_reads_back h.body.analog f v can is

reads_back : (h : BodyState Sel) (f : OwnField) (v : Value) → can_put Sel-type (Own f) ≡ true → IsValueOf (sort_in [] (kind_of Sel-type (Own f))) v → sel_get (sel_stored h f v).body f ≡ Some v
unfolding row_of own_row
reads_back h f v can is = reads_back_by h f v can is

-- ---- The link that chooses the inputs

chooses : (mode : Selmode) (nvl : LinkField) (t : StandingLink) → chosen_by mode nvl ≡ ReadInputs (Standing t) → use_of nvl ≡ Standing t
chooses Specified nvl t is = cc
chooses HighSignal nvl t is = cc
chooses LowSignal nvl t is = cc
chooses MedianSignal nvl t is = cc

reads_none : (mode : Selmode) (nvl : LinkField) (t : StandingLink) → chosen_by mode nvl ≢ ReadLink (Standing t)
reads_none Specified nvl t is = cc
reads_none HighSignal nvl t is = cc
reads_none LowSignal nvl t is = cc
reads_none MedianSignal nvl t is = cc

begin-chooses : (b : Sel) (t : StandingLink) → sel_begin b ≡ ReadInputs (Standing t) → use_of b.number_input ≡ Standing t
unfolding sel_begin
begin-chooses b t is = chooses b.mode b.number_input t is

begin-none : (b : Sel) (t : StandingLink) → sel_begin b ≢ ReadLink (Standing t)
unfolding sel_begin
begin-none b t is = reads_none b.mode b.number_input t is

pub sel_lawful : IsLawfulBody sel
sel_lawful = record {
  missing_links = missing-links;
  link_there = link-there;
  type_stays = record {
    taken = λ h got. refl;
    stored = λ h f v. refl;
    set = λ b f l. refl;
    loaded = λ h. refl;
    posted = λ b changed. refl;
    calculated = λ b f c. refl;
  };
  taken_links = λ h got. links_on _ _ (taken-same h got);
  stored_links = λ h f v. links_on _ _ (stored-same h f v);
  set_here = set-here;
  set_there = set-there;
  set_others = set-others;
  set_twice = set-twice;
  set_values = set_values;
  posted_links = λ b changed. links_on _ _ (posted-same b changed);
  calculated_links = λ b f c. refl;
  loaded_links = λ h. links_on _ _ (loaded-same h.body);
  put_reads_back = reads_back;
  begin_named = λ b t is. absurd (begin-none b t is);
  choice_named = λ b t is. record { field = Nvl; link = b.number_input; is = refl; leads = begin-chooses b t is };
  output_named = λ h got t v is. cc;
  readers_write_none = λ h got v reads is. cc;
}

-- ---- A new record

new_letter : (s : FieldSlot) → sel_get new_sel (Letter s) ≡ own_default Sel-type (Letter s)
unfolding sel_get new_sel inputs_get new_inputs own_default letter_default
new_letter N0 = refl
new_letter _ = refl

new_last : (s : FieldSlot) → sel_get new_sel (LastLetter s) ≡ own_default Sel-type (LastLetter s)
unfolding sel_get new_sel inputs_get new_inputs own_default zero_of row_of own_row sel_row inputs_row input_slot_row
new_last N0 = refl
new_last _ = refl

new_input : (s : FieldSlot) → sel_get new_sel (InputLink s) ≡ own_default Sel-type (InputLink s)
unfolding sel_get new_sel analog_get own_default zero_of row_of own_row sel_row inputs_row input_slot_row
new_input N0 = refl
new_input _ = refl

new_values : (f : OwnField) → sel_get new_sel f ≡ own_default Sel-type f
unfolding sel_get new_sel analog_get new_analog new_limits own_default zero_of row_of own_row sel_row inputs_row analog_row
new_values (Letter s) = new_letter s
new_values (LastLetter s) = new_last s
new_values (InputLink s) = new_input s
new_values Val = refl
new_values _ = refl

new_slot : (s : FieldSlot) → is_link Sel-type (Own (InputLink s)) ≡ true → inputs_link new_sel.inputs.links (InputLink s) ≡ Some no_link
unfolding new_sel new_inputs row_of own_row sel_row inputs_row input_slot_row
new_slot N12 is = cc
new_slot N13 is = cc
new_slot N14 is = cc
new_slot N15 is = cc
new_slot _ is = refl

new_links : (f : OwnField) → is_link Sel-type (Own f) ≡ true → sel_link new_sel.number_input new_sel.inputs.links f ≡ Some no_link
unfolding new_sel row_of own_row sel_row inputs_row analog_row
new_links (InputLink s) is = new_slot s is
new_links (Letter s) is = absurd (never_both _ (letter_no_link s) is)
new_links (LastLetter s) is = absurd (never_both _ (last_letter_no_link s) is)
new_links Nvl is = refl
new_links _ is = cc

-- A new record has the defaults.
pub sel_new : IsNewBody sel new_sel
sel_new = record { values = new_values; links = new_links }
