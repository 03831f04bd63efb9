-- The type calcout keeps the laws of record types.
use Rattle.std.proofs.Common.{◌≡◌, ◌≢◌, ℕ, Bool, true, false, cond, List, [], Option, Some, refl, sym, ap, ◌∙◌, ◌⊎◌, inl, inr}
use Rattle.std.proofs.Math.Path.{fun_ext}
use Rattle.std.specs.Prelude.{◌<◌, is_some, unwrap_or}
use Rattle.ioc_values.specs.declared.value.Value.{Value}
use Rattle.ioc_values.specs.declared.value.Value.TheVariants as value
use Rattle.ioc_values.specs.Shapes.{IsValueOf}
use Rattle.ioc_menus.specs.declared.oopt.Oopt.{Oopt as OoptChoice}
use Rattle.ioc_menus.specs.declared.dopt.Dopt.{Dopt as DoptChoice}
use Rattle.ioc_menus.specs.declared.dopt.Dopt.TheVariants.{UseCalc, UseOcal}
use Rattle.ioc_menus.specs.declared.ivoa.Ivoa.{Ivoa as IvoaChoice}
use Rattle.ioc_menus.specs.Numbers.{oopt_number, dopt_number, ivoa_number}
use Rattle.ioc_fields.specs.declared.field_no.FieldNo.TheVariants.{Own}
use Rattle.ioc_fields.specs.declared.field_no.FieldSlot.{FieldSlot}
use Rattle.ioc_fields.specs.declared.field_no.FieldSlot.TheVariants.{N0, N12, N13, N14, N15}
use Rattle.ioc_fields.specs.declared.field_no.OwnField.{OwnField}
use Rattle.ioc_fields.specs.declared.field_no.OwnField.TheVariants.{Val, Out, Calc as Calc-field, Ocal, Oopt, Dopt, Oval, Pval, Ivoa, Ivov, Letter, LastLetter, InputLink}
use Rattle.ioc_fields.specs.declared.record_type.RecordType.TheVariants.{Calcout as Calcout-type}
use Rattle.ioc_fields.specs.Table.{row_of, own_row, input_slot_row, inputs_row, calc_row, calcout_row, analog_row, can_put, is_link, kind_of}
use Rattle.ioc_fields.specs.Types.{reads_device}
use Rattle.ioc_fields.specs.Defaults.{zero_of, own_default}
use Rattle.ioc_dbcommon.specs.declared.body.Got.{Got}
use Rattle.ioc_dbcommon.specs.declared.body.Output.TheVariants.{NoOutput, WriteLink}
use Rattle.ioc_dbcommon.specs.declared.link_field.LinkField.{LinkField}
use Rattle.ioc_dbcommon.specs.declared.link_field.LinkUse.TheVariants.{Standing}
use Rattle.ioc_dbcommon.specs.declared.link_field.StandingLink.{StandingLink}
use Rattle.ioc_dbcommon.specs.Drive.{sets, drives, written, written_leads}
use Rattle.ioc_dbcommon.specs.Links.{no_link, use_of, named_by_field}
use Rattle.ioc_dbcommon.specs.Parts.{oopt_in, oopt_back, dopt_in, dopt_back, ivoa_in, ivoa_back}
use Rattle.ioc_record.specs.Values.{field_sort, sort_in}
use Rattle.ioc_record.specs.BodyRules.{BodyState}
use Rattle.ioc_record.specs.BodyLaws.{IsLawfulBody, IsNewBody}
use Rattle.ioc_record.specs.ByRow.{can_put_by}
use Rattle.rec_analog.specs.Analog.{new_limits, new_analog, analog_get}
use Rattle.rec_analog.specs.SharedLaws.{IsValueBy}
use Rattle.rec_calc.specs.Inputs.{new_inputs, inputs_link, inputs_with_link, inputs_get}
use Rattle.rec_calc.specs.InputsLaws.{inputs_set_here, inputs_set_there, inputs_set_others, inputs_set_twice, letter_no_link, last_letter_no_link, never_both}
use Rattle.rec_calc.specs.Calc.{new_calc, calc_get}
use Rattle.rec_calc.specs.CalcLaws.{stored-links, taken-links, loaded-links, posts-links, calc_reads_back, set-values}
use Rattle.rec_calc.specs.Calcout.{calcout, new_calcout, calcout_link, calcout_with_link, with_calculation, calcout_get, of_calc, calcout_stored, worked, output_run, made_by, output_made, invalid_set, calcout_taken, driven_out, calcout_output}
use Rattle.rec_calc.specs.declared.calcout.Calcout.{Calcout}

-- ---- Links

-- Holds if the links are the same.
record SameLinks (before after : Calcout) : Type 0 where
  out : after.output ≡ before.output
  inputs : after.calc.inputs.links ≡ before.calc.inputs.links

links_on : (b c : Calcout) → SameLinks b c → calcout_link c.output c.calc.inputs.links ≡ calcout_link b.output b.calc.inputs.links
links_on b c same = ap (λ l. calcout_link l c.calc.inputs.links) same.out ∙ ap (calcout_link b.output) same.inputs

stored-same : (h : BodyState Calcout) (f : OwnField) (v : Value) → SameLinks h.body (calcout_stored h f v).body
unfolding calcout_stored
stored-same h Oopt v = record { out = refl; inputs = refl }
stored-same h Dopt v = record { out = refl; inputs = refl }
stored-same h Ivoa v = record { out = refl; inputs = refl }
stored-same h Ivov v = record { out = refl; inputs = refl }
stored-same h f v = record { out = refl; inputs = stored-links (of_calc h) f v }

worked-same : (h : BodyState Calcout) (got : Got) → SameLinks h.body (worked h got).0.body
unfolding worked
worked-same h got = record { out = refl; inputs = taken-links (of_calc h) got }

made-same : (choice : DoptChoice) (h : BodyState Calcout) → SameLinks h.body (made_by choice h).body
unfolding output_run
made-same UseCalc h = record { out = refl; inputs = refl }
made-same UseOcal h = record { out = refl; inputs = refl }

invalid-same : (b : Bool) (h : BodyState Calcout) → SameLinks h.body (cond b (record h { body = record h.body { output_value = h.body.invalid_value } }) h).body
invalid-same true h = record { out = refl; inputs = refl }
invalid-same false h = record { out = refl; inputs = refl }

after : (a b c : Calcout) → SameLinks a b → SameLinks b c → SameLinks a c
after a b c p q = record { out = q.out ∙ p.out; inputs = q.inputs ∙ p.inputs }

put_out-same : (h : BodyState Calcout) → SameLinks h.body (invalid_set (output_made h)).body
unfolding invalid_set output_made
put_out-same h = after h.body (output_made h).body _ (made-same h.body.output_data h) (invalid-same (sets (output_made h).body.on_invalid (output_made h).condition) (output_made h))

either-same : (b : Bool) (a x y : BodyState Calcout) → SameLinks a.body x.body → SameLinks a.body y.body → SameLinks a.body (cond b x y).body
either-same true a x y p q = p
either-same false a x y p q = q

taken-same : (h : BodyState Calcout) (got : Got) → SameLinks h.body (calcout_taken h got).body
unfolding calcout_taken
taken-same h got =
    let w = worked h got in
    either-same w.1 h (invalid_set (output_made w.0)) w.0 (after h.body w.0.body _ (worked-same h got) (put_out-same w.0)) (worked-same h got)

calculated-same : (b : Calcout) (f : OwnField) (c : List ℕ) → SameLinks b (with_calculation b f c)
unfolding with_calculation
calculated-same b Calc-field c = record { out = refl; inputs = refl }
calculated-same b Ocal c = record { out = refl; inputs = refl }
calculated-same b _ c = record { out = refl; inputs = refl }

slot_there : (links : List LinkField) (s : FieldSlot) → is_some (inputs_link links (InputLink s)) ≡ is_link Calcout-type (Own (InputLink s))
unfolding row_of own_row calcout_row calc_row inputs_row input_slot_row
slot_there links N0 = refl
slot_there links _ = refl

link-there : (b : Calcout) (f : OwnField) → is_some (calcout_link b.output b.calc.inputs.links f) ≡ is_link Calcout-type (Own f)
unfolding row_of own_row calcout_row calc_row inputs_row input_slot_row analog_row
link-there b (InputLink s) = slot_there b.calc.inputs.links s
link-there b (Letter s) = sym (letter_no_link s)
link-there b (LastLetter s) = sym (last_letter_no_link s)
link-there b Out = refl
link-there b _ = refl

slot_missing : (s : FieldSlot) → named_by_field (inputs_link new_calcout.calc.inputs.links (InputLink s)) ≡ []
unfolding new_calcout new_calc new_inputs use_of
slot_missing N0 = refl
slot_missing _ = refl

missing-links : (f : OwnField) → named_by_field (calcout_link new_calcout.output new_calcout.calc.inputs.links f) ≡ []
unfolding new_calcout use_of
missing-links (InputLink s) = slot_missing s
missing-links Out = refl
missing-links _ = refl

set-here : (b : Calcout) (f : OwnField) (l : LinkField) → is_some (calcout_link b.output b.calc.inputs.links f) ≡ true
    → calcout_link (calcout_with_link b f l).output (calcout_with_link b f l).calc.inputs.links f ≡ Some l
unfolding calcout_with_link
set-here b Out l is = refl
set-here b f l is = inputs_set_here b.calc.inputs f l is

set-there : (b : Calcout) (f g : OwnField) (l : LinkField)
    → (calcout_link (calcout_with_link b f l).output (calcout_with_link b f l).calc.inputs.links g ≡ Some l)
    ⊎ (calcout_link (calcout_with_link b f l).output (calcout_with_link b f l).calc.inputs.links g ≡ calcout_link b.output b.calc.inputs.links g)
unfolding calcout_with_link
set-there b Out Out l = inl refl
set-there b Out g l = inr refl
set-there b f Out l = inr refl
set-there b f g l = inputs_set_there b.calc.inputs f g l

set-others : (b : Calcout) (f g : OwnField) (l : LinkField) → g ≢ f
    → calcout_link (calcout_with_link b f l).output (calcout_with_link b f l).calc.inputs.links g ≡ calcout_link b.output b.calc.inputs.links g
unfolding calcout_with_link
set-others b Out Out l apart = absurd (apart refl)
set-others b Out g l apart = refl
set-others b f Out l apart = refl
set-others b f g l apart = inputs_set_others b.calc.inputs f g l apart

set-twice : (b : Calcout) (f : OwnField) (l m : LinkField) → calcout_with_link (calcout_with_link b f l) f m ≡ calcout_with_link b f m
unfolding calcout_with_link
set-twice b Out l m = refl
set-twice b f l m = ap (λ i. record b { calc = record b.calc { inputs = i } }) (inputs_set_twice b.calc.inputs f l m)

values_kept : (b : Calcout) (f : OwnField) (l : LinkField) (g : OwnField) → calcout_get (record b { calc = record b.calc { inputs = inputs_with_link b.calc.inputs f l } }) g ≡ calcout_get b g
unfolding calcout_get
values_kept b f l Oopt = refl
values_kept b f l Dopt = refl
values_kept b f l Oval = refl
values_kept b f l Pval = refl
values_kept b f l Ivoa = refl
values_kept b f l Ivov = refl
values_kept b f l g = set-values b.calc f l g

output_kept : (b : Calcout) (l : LinkField) (g : OwnField) → calcout_get (record b { output = l }) g ≡ calcout_get b g
unfolding calcout_get
output_kept b l Oopt = refl
output_kept b l _ = refl

set_values : (b : Calcout) (f : OwnField) (l : LinkField) (g : OwnField) → calcout_get (calcout_with_link b f l) g ≡ calcout_get b g
unfolding calcout_with_link
set_values b Out l g = output_kept b l g
set_values b f l g = values_kept b f l g

-- Records with the same link in each link field have the same OUT, and the same inputs.
pub same_out : (out other : LinkField) (xs ys : List LinkField) → calcout_link out xs ≡ calcout_link other ys → out ≡ other
same_out out other xs ys same = ap (λ (links : OwnField → Option LinkField). unwrap_or (links Out) no_link) same

same_input : (out other : LinkField) (xs ys : List LinkField) → calcout_link out xs ≡ calcout_link other ys → (f : OwnField) → inputs_link xs f ≡ inputs_link ys f
same_input out other xs ys same Out = refl
same_input out other xs ys same f = ap (λ (links : OwnField → Option LinkField). links f) same

pub same_calc_links : (out other : LinkField) (xs ys : List LinkField) → calcout_link out xs ≡ calcout_link other ys → inputs_link xs ≡ inputs_link ys
same_calc_links out other xs ys same = fun_ext (same_input out other xs ys same)

-- ---- Values

oopt_shown : (v : Value) (old : OoptChoice) → (is : (n : ℕ) × (v ≡ value.Enum n) × (n < 6)) → Some (value.Enum (oopt_number (unwrap_or (oopt_in v) old))) ≡ Some v
oopt_shown v old is = rw is.1 (ap (λ n. Some (value.Enum n)) (oopt_back is.0 old is.2))

dopt_shown : (v : Value) (old : DoptChoice) → (is : (n : ℕ) × (v ≡ value.Enum n) × (n < 2)) → Some (value.Enum (dopt_number (unwrap_or (dopt_in v) old))) ≡ Some v
dopt_shown v old is = rw is.1 (ap (λ n. Some (value.Enum n)) (dopt_back is.0 old is.2))

ivoa_shown : (v : Value) (old : IvoaChoice) → (is : (n : ℕ) × (v ≡ value.Enum n) × (n < 3)) → Some (value.Enum (ivoa_number (unwrap_or (ivoa_in v) old))) ≡ Some v
ivoa_shown v old is = rw is.1 (ap (λ n. Some (value.Enum n)) (ivoa_back is.0 old is.2))

reads_back_by : (h : BodyState Calcout) (f : OwnField) (v : Value) → can_put_by (calcout_row f) → IsValueBy (calcout_row f) v → calcout_get (calcout_stored h f v).body f ≡ Some v
unfolding calcout_row calcout_get calcout_stored field_sort
reads_back_by h Out v can is = cc
reads_back_by h Ocal v can is = cc
reads_back_by h Oval v can is = cc
reads_back_by h Pval v can is = cc
reads_back_by h Oopt v can is = oopt_shown v h.body.option is
reads_back_by h Dopt v can is = dopt_shown v h.body.output_data is
reads_back_by h Ivoa v can is = ivoa_shown v h.body.on_invalid is
reads_back_by h Ivov v can is = rw is.1 refl
reads_back_by h f v can is = calc_reads_back (of_calc h) f v can is

reads_back : (h : BodyState Calcout) (f : OwnField) (v : Value) → can_put Calcout-type (Own f) ≡ true → IsValueOf (sort_in [] (kind_of Calcout-type (Own f))) v → calcout_get (calcout_stored h f v).body f ≡ Some v
unfolding row_of own_row
reads_back h f v can is = reads_back_by h f v can is

-- ---- The output

-- If a link is written, OUT leads to that field.
driven_leads : (b : Bool) (out : LinkField) (x v : Value) (t : StandingLink) → cond b (written out x) NoOutput ≡ WriteLink (Standing t) v → use_of out ≡ Standing t
driven_leads true out x v t is = written_leads out x v t is
driven_leads false out x v t is = cc

due_leads : (b : Bool) (h : BodyState Calcout) (v : Value) (t : StandingLink) → cond b (driven_out h) NoOutput ≡ WriteLink (Standing t) v → use_of h.body.output ≡ Standing t
due_leads true h v t is = driven_leads (drives h.body.on_invalid h.condition) h.body.output (value.Double h.body.output_value) v t is
due_leads false h v t is = cc

output_leads : (h : BodyState Calcout) (got : Got) (t : StandingLink) (v : Value) → calcout_output h got ≡ WriteLink (Standing t) v → use_of h.body.output ≡ Standing t
unfolding calcout_output
output_leads h got t v is =
    let w = worked h got in
    let same = after h.body w.0.body _ (worked-same h got) (put_out-same w.0) in
    ap use_of (sym same.out) ∙ due_leads w.1 (invalid_set (output_made w.0)) v t is

pub calcout_lawful : IsLawfulBody calcout
unfolding reads_device
calcout_lawful = record {
  missing_links = missing-links;
  link_there = link-there;
  type_stays = record {
    taken = λ h got. refl;
    stored = λ h f v. refl;
    set = λ b f l. refl;
    loaded = λ h. refl;
    posted = λ b changed. refl;
    calculated = λ b f c. refl;
  };
  taken_links = λ h got. links_on _ _ (taken-same h got);
  stored_links = λ h f v. links_on _ _ (stored-same h f v);
  set_here = set-here;
  set_there = set-there;
  set_others = set-others;
  set_twice = set-twice;
  set_values = set_values;
  posted_links = λ b changed. ap (calcout_link b.output) (posts-links b.calc changed);
  calculated_links = λ b f c. links_on _ _ (calculated-same b f c);
  loaded_links = λ h. ap (calcout_link h.body.output) (loaded-links h.body.calc);
  put_reads_back = reads_back;
  begin_named = λ b t is. cc;
  choice_named = λ b t is. cc;
  output_named = λ h got t v is. record { field = Out; link = h.body.output; is = refl; leads = output_leads h got t v is };
  readers_write_none = λ h got v reads is. cc;
}

-- ---- A new record

new_letter : (s : FieldSlot) → calcout_get new_calcout (Letter s) ≡ own_default Calcout-type (Letter s)
unfolding calcout_get new_calcout calc_get new_calc inputs_get new_inputs own_default zero_of row_of own_row calcout_row calc_row inputs_row input_slot_row
new_letter N0 = refl
new_letter _ = refl

new_last : (s : FieldSlot) → calcout_get new_calcout (LastLetter s) ≡ own_default Calcout-type (LastLetter s)
unfolding calcout_get new_calcout calc_get new_calc inputs_get new_inputs own_default zero_of row_of own_row calcout_row calc_row inputs_row input_slot_row
new_last N0 = refl
new_last _ = refl

new_input : (s : FieldSlot) → calcout_get new_calcout (InputLink s) ≡ own_default Calcout-type (InputLink s)
unfolding calcout_get new_calcout calc_get new_calc analog_get own_default zero_of row_of own_row calcout_row calc_row inputs_row input_slot_row
new_input N0 = refl
new_input _ = refl

new_values : (f : OwnField) → calcout_get new_calcout f ≡ own_default Calcout-type f
unfolding calcout_get new_calcout calc_get new_calc analog_get new_analog new_limits own_default zero_of row_of own_row calcout_row calc_row inputs_row analog_row
new_values (Letter s) = new_letter s
new_values (LastLetter s) = new_last s
new_values (InputLink s) = new_input s
new_values Val = refl
new_values _ = refl

new_slot : (s : FieldSlot) → is_link Calcout-type (Own (InputLink s)) ≡ true → inputs_link new_calcout.calc.inputs.links (InputLink s) ≡ Some no_link
unfolding new_calcout new_calc new_inputs row_of own_row calcout_row calc_row inputs_row input_slot_row
new_slot N12 is = cc
new_slot N13 is = cc
new_slot N14 is = cc
new_slot N15 is = cc
new_slot _ is = refl

new_links : (f : OwnField) → is_link Calcout-type (Own f) ≡ true → calcout_link new_calcout.output new_calcout.calc.inputs.links f ≡ Some no_link
unfolding new_calcout row_of own_row calcout_row calc_row inputs_row analog_row
new_links (InputLink s) is = new_slot s is
new_links (Letter s) is = absurd (never_both _ (letter_no_link s) is)
new_links (LastLetter s) is = absurd (never_both _ (last_letter_no_link s) is)
new_links Out is = refl
new_links _ is = cc

-- A new record has the defaults.
pub calcout_new : IsNewBody calcout new_calcout
calcout_new = record { values = new_values; links = new_links }
