-- The type stringout keeps the laws of record types.
use Rattle.std.proofs.Common.{◌≡◌, true, false, Bool, cond, [], Option, Some, None, refl, sym, ap, ◌∙◌}
use Rattle.std.specs.Prelude.{is_some}
use Rattle.ioc_values.specs.declared.value.Value.{Value}
use Rattle.ioc_values.specs.declared.value.Value.TheVariants as value
use Rattle.ioc_values.specs.Shapes.{IsValueOf}
use Rattle.ioc_links.specs.declared.link.Link.{Link}
use Rattle.ioc_fields.specs.declared.field_no.FieldNo.TheVariants.{Own}
use Rattle.ioc_fields.specs.declared.field_no.OwnField.{OwnField}
use Rattle.ioc_fields.specs.declared.field_no.OwnField.TheVariants.{Val, Out, Dol, Omsl, Ivoa, Ivov}
use Rattle.ioc_fields.specs.declared.record_type.RecordType.TheVariants.{Stringout as Stringout-type}
use Rattle.ioc_fields.specs.Table.{row_of, own_row, stringout_row, output_row, text_row, can_put, is_link, kind_of}
use Rattle.ioc_fields.specs.Types.{reads_device}
use Rattle.ioc_fields.specs.Defaults.{zero_of, own_default}
use Rattle.ioc_dbcommon.specs.declared.drive.Drive.{Drive}
use Rattle.ioc_dbcommon.specs.declared.link_field.LinkField.{LinkField}
use Rattle.ioc_dbcommon.specs.declared.link_field.LinkUse.TheVariants.{Standing}
use Rattle.ioc_dbcommon.specs.declared.link_field.StandingLink.{StandingLink}
use Rattle.ioc_dbcommon.specs.declared.body.Got.{Got}
use Rattle.ioc_dbcommon.specs.declared.body.Got.TheVariants as got
use Rattle.ioc_dbcommon.specs.declared.body.Output.TheVariants.{NoOutput, WriteLink}
use Rattle.ioc_dbcommon.specs.Links.{no_link, use_of, named_by_field}
use Rattle.ioc_record.specs.Values.{field_sort, sort_in}
use Rattle.ioc_dbcommon.specs.Drive.{new_drive, drive_link, drive_with_link, drive_get, drives, sets, written, drive_stored-output, drive_stored-desired, omsl_reads_back, ivoa_reads_back, begin_leads, written_leads, drive_set_here, drive_set_there, drive_set_others, drive_set_twice, drive_set_values, begins_alone}
use Rattle.ioc_record.specs.BodyRules.{BodyState}
use Rattle.ioc_record.specs.BodyLaws.{IsLawfulBody, IsNewBody}
use Rattle.rec_text.specs.declared.stringout.Stringout.{Stringout}
use Rattle.rec_text.specs.TextInput.{constant_text}
use Rattle.rec_text.specs.Stringout.{stringout, new_stringout, stringout_get, stringout_stored, came, worked, settled, stringout_taken, stringout_output, value_if, constant_put, stringout_loaded}

-- ---- Links

stored-output : (h : BodyState Stringout) (f : OwnField) (v : Value) → (stringout_stored h f v).body.drive.output ≡ h.body.drive.output
unfolding stringout_stored
stored-output h Val v = refl
stored-output h Ivov v = refl
stored-output h f v = drive_stored-output h.body.drive f v

stored-desired : (h : BodyState Stringout) (f : OwnField) (v : Value) → (stringout_stored h f v).body.drive.desired ≡ h.body.drive.desired
unfolding stringout_stored
stored-desired h Val v = refl
stored-desired h Ivov v = refl
stored-desired h f v = drive_stored-desired h.body.drive f v

came-drive : (h : BodyState Stringout) (got : Got) → (came h got).body.drive ≡ h.body.drive
came-drive h (got.Value v) = refl
came-drive h _ = refl

worked-drive : (h : BodyState Stringout) (got : Got) → (worked h got).body.drive ≡ h.body.drive
unfolding worked
worked-drive h got = came-drive h got

either-drive : (h : BodyState Stringout) (b : Bool) → (cond b (record h { body = record h.body { value = h.body.invalid_value } }) h).body.drive ≡ h.body.drive
either-drive h true = refl
either-drive h false = refl

settled-drive : (h : BodyState Stringout) → (settled h).body.drive ≡ h.body.drive
unfolding settled
settled-drive h = either-drive h (sets h.body.drive.on_invalid h.condition)

taken-drive : (h : BodyState Stringout) (got : Got) → (stringout_taken h got).body.drive ≡ h.body.drive
unfolding stringout_taken
taken-drive h got = settled-drive (worked h got) ∙ worked-drive h got

value_if-drive : (h : BodyState Stringout) (o : Option Value) → (value_if h o).body.drive ≡ h.body.drive
value_if-drive h None = refl
value_if-drive h (Some v) = refl

put-drive : (h : BodyState Stringout) (l : Link) → (constant_put h l).body.drive ≡ h.body.drive
put-drive h l = value_if-drive h (constant_text l)

loaded-drive : (h : BodyState Stringout) → (stringout_loaded h).body.drive ≡ h.body.drive
unfolding stringout_loaded
loaded-drive h = put-drive h h.body.drive.desired.link

link-there : (b : Stringout) (f : OwnField) → is_some (drive_link b.drive.output b.drive.desired f) ≡ is_link Stringout-type (Own f)
unfolding row_of own_row stringout_row output_row text_row
link-there b Out = refl
link-there b Dol = refl
link-there b Val = refl
link-there b Ivov = refl
link-there b _ = refl

missing-links : (f : OwnField) → named_by_field (drive_link new_stringout.drive.output new_stringout.drive.desired f) ≡ []
unfolding new_stringout new_drive use_of
missing-links Out = refl
missing-links Dol = refl
missing-links _ = refl

-- ---- Values

reads_back : (h : BodyState Stringout) (f : OwnField) (v : Value) → can_put Stringout-type (Own f) ≡ true → IsValueOf (sort_in [] (kind_of Stringout-type (Own f))) v
    → stringout_get (stringout_stored h f v).body f ≡ Some v
unfolding row_of own_row stringout_row output_row text_row stringout_get stringout_stored field_sort
reads_back h Val v can is = rw is.1 refl
reads_back h Ivov v can is = rw is.1 refl
reads_back h Omsl v can is = omsl_reads_back h.body.drive v is
reads_back h Ivoa v can is = ivoa_reads_back h.body.drive v is
reads_back h _ v can is = cc

set-values : (b : Stringout) (f : OwnField) (l : LinkField) (g : OwnField) → stringout_get (record b { drive = drive_with_link b.drive f l }) g ≡ stringout_get b g
unfolding stringout_get
set-values b f l Val = refl
set-values b f l Ivov = refl
set-values b f l g = drive_set_values b.drive f l g

-- ---- The output links

driven_leads : (b : Bool) (out : LinkField) (x v : Value) (t : StandingLink) → cond b (written out x) NoOutput ≡ WriteLink (Standing t) v → use_of out ≡ Standing t
driven_leads true out x v t is = written_leads out x v t is
driven_leads false out x v t is = cc

output_leads : (h : BodyState Stringout) (got : Got) (t : StandingLink) (v : Value) → stringout_output h got ≡ WriteLink (Standing t) v → use_of h.body.drive.output ≡ Standing t
unfolding stringout_output
output_leads h got t v is =
    let d = stringout_taken h got in
    ap (λ (x : Drive). use_of x.output) (sym (taken-drive h got))
    ∙ driven_leads (drives d.body.drive.on_invalid d.condition) d.body.drive.output (value.Text d.body.value) v t is

pub stringout_lawful : IsLawfulBody stringout
unfolding reads_device
stringout_lawful = record {
  missing_links = missing-links;
  link_there = link-there;
  type_stays = record { taken = λ h got. refl; stored = λ h f v. refl; set = λ b f l. refl; loaded = λ h. refl; posted = λ b changed. refl; calculated = λ b f c. refl };
  taken_links = λ h got. ap (λ (d : Drive). drive_link d.output d.desired) (taken-drive h got);
  stored_links = λ h f v. ap (λ l. drive_link l (stringout_stored h f v).body.drive.desired) (stored-output h f v) ∙ ap (drive_link h.body.drive.output) (stored-desired h f v);
  set_here = λ b f l is. drive_set_here b.drive f l is;
  set_there = λ b f g l. drive_set_there b.drive f g l;
  set_others = λ b f g l apart. drive_set_others b.drive f g l apart;
  set_twice = λ b f l m. ap (λ d. record b { drive = d }) (drive_set_twice b.drive f l m);
  set_values = set-values;
  posted_links = λ b changed. refl;
  calculated_links = λ b f c. refl;
  loaded_links = λ h. ap (λ (d : Drive). drive_link d.output d.desired) (loaded-drive h);
  put_reads_back = reads_back;
  begin_named = λ b t is. record { field = Dol; link = b.drive.desired; is = refl; leads = begin_leads b.drive.mode b.drive.desired t is };
  choice_named = λ b t is. absurd (begins_alone b.drive.mode b.drive.desired t is);
  output_named = λ h got t v is. record { field = Out; link = h.body.drive.output; is = refl; leads = output_leads h got t v is };
  readers_write_none = λ h got v reads is. cc;
}

new_values : (f : OwnField) → stringout_get new_stringout f ≡ own_default Stringout-type f
unfolding new_stringout new_drive stringout_get drive_get own_default zero_of row_of own_row stringout_row output_row text_row
new_values Val = refl
new_values Ivov = refl
new_values Omsl = refl
new_values Ivoa = refl
new_values _ = refl

new_links : (f : OwnField) → is_link Stringout-type (Own f) ≡ true → drive_link new_stringout.drive.output new_stringout.drive.desired f ≡ Some no_link
unfolding new_stringout new_drive row_of own_row stringout_row output_row text_row
new_links Out is = refl
new_links Dol is = refl
new_links _ is = cc

pub stringout_new : IsNewBody stringout new_stringout
stringout_new = record { values = new_values; links = new_links }
