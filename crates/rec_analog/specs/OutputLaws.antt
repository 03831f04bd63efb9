-- The type ao keeps the laws of record types.
use Rattle.std.proofs.Common.{◌≡◌, ℕ, Bool, true, false, cond, [], Option, Some, None, refl, sym, ap, ◌∙◌}
use Rattle.std.specs.Prelude.{◌<◌, is_some, unwrap_or}
use Rattle.ioc_values.specs.declared.value.Value.{Value}
use Rattle.ioc_values.specs.declared.value.Value.TheVariants as value
use Rattle.ioc_values.specs.Conversion.{Doubles}
use Rattle.ioc_values.specs.Shapes.{IsValueOf}
use Rattle.ioc_menus.specs.declared.oif.Oif.{Oif as OifChoice}
use Rattle.ioc_menus.specs.Numbers.{oif_number}
use Rattle.ioc_fields.specs.declared.field_no.FieldNo.TheVariants.{Own}
use Rattle.ioc_fields.specs.declared.field_no.OwnField.{OwnField}
use Rattle.ioc_fields.specs.declared.field_no.OwnField.TheVariants.{Val, Out, Dol, Omsl, Ivoa, Ivov, Oif, Oroc, Drvh, Drvl, Oval, Pval}
use Rattle.ioc_fields.specs.declared.record_type.RecordType.TheVariants.{Ao as Ao-type}
use Rattle.ioc_fields.specs.Table.{row_of, own_row, ao_row, output_row, scale_row, analog_row, can_put, is_link, kind_of}
use Rattle.ioc_fields.specs.Types.{reads_device}
use Rattle.ioc_fields.specs.Defaults.{zero_of, own_default}
use Rattle.ioc_dbcommon.specs.declared.drive.Drive.{Drive}
use Rattle.ioc_dbcommon.specs.declared.link_field.LinkField.{LinkField}
use Rattle.ioc_dbcommon.specs.declared.link_field.LinkUse.TheVariants.{Standing}
use Rattle.ioc_dbcommon.specs.declared.link_field.StandingLink.{StandingLink}
use Rattle.ioc_dbcommon.specs.declared.body.Got.{Got}
use Rattle.ioc_dbcommon.specs.declared.body.Got.TheVariants as got
use Rattle.ioc_dbcommon.specs.declared.body.Output.TheVariants.{NoOutput, WriteLink}
use Rattle.ioc_dbcommon.specs.Constant.{constant_in}
use Rattle.ioc_dbcommon.specs.Links.{no_link, use_of, named_by_field}
use Rattle.ioc_dbcommon.specs.Parts.{oif_in, oif_back}
use Rattle.ioc_dbcommon.specs.Drive.{new_drive, drive_link, drive_with_link, drive_get, drive_stored, drives, sets, written, drive_stored-output, drive_stored-desired, omsl_reads_back, ivoa_reads_back, begin_leads, written_leads, drive_set_here, drive_set_there, drive_set_others, drive_set_twice, drive_set_values, begins_alone}
use Rattle.ioc_record.specs.Values.{field_sort, sort_in}
use Rattle.ioc_record.specs.BodyRules.{BodyState}
use Rattle.ioc_record.specs.BodyLaws.{IsLawfulBody, IsNewBody}
use Rattle.ioc_record.specs.ByRow.{can_put_by}
use Rattle.rec_analog.specs.SharedLaws.{IsValueBy, shared_reads_back}
use Rattle.rec_analog.specs.Analog.{new_limits, new_analog, analog_get}
use Rattle.rec_analog.specs.Scale.{new_scale, scale_get, scale_stored}
use Rattle.rec_analog.specs.Output.{ao, new_ao, ao_get, ao_stored, driven_to, came, worked, invalid_set, ao_taken, driven_value, ao_output, value_if, constant_put, ao_loaded}
use Rattle.rec_analog.specs.declared.output.Ao.{Ao}

-- ---- Links

-- The links of a drive.
abbrev links : Drive → OwnField → Option LinkField
links d = drive_link d.output d.desired

stored_drive-links : (d : Drive) (f : OwnField) (v : Value) → links (drive_stored d f v) ≡ links d
stored_drive-links d f v = ap (λ l. drive_link l (drive_stored d f v).desired) (drive_stored-output d f v) ∙ ap (drive_link d.output) (drive_stored-desired d f v)

stored-links : (h : BodyState Ao) (f : OwnField) (v : Value) → links (ao_stored h f v).body.drive ≡ links h.body.drive
unfolding ao_stored
stored-links h Omsl v = stored_drive-links h.body.drive Omsl v
stored-links h Ivoa v = stored_drive-links h.body.drive Ivoa v
stored-links h _ v = refl

worked-drive : (h : BodyState Ao) (got : Got) → (worked h got).body.drive ≡ h.body.drive
unfolding worked came driven_to
worked-drive h (got.Value v) = refl
worked-drive h got.Nothing = refl
worked-drive h got.Fault = refl

either-drive : (b : Bool) (x y : BodyState Ao) (d : Drive) → x.body.drive ≡ d → y.body.drive ≡ d → (cond b x y).body.drive ≡ d
either-drive true x y d of_x of_y = of_x
either-drive false x y d of_x of_y = of_y

invalid-drive : (h : BodyState Ao) → (invalid_set h).body.drive ≡ h.body.drive
unfolding invalid_set driven_to
invalid-drive h = either-drive (sets h.body.drive.on_invalid h.condition) _ h h.body.drive refl refl

taken-drive : (h : BodyState Ao) (got : Got) → (ao_taken h got).body.drive ≡ h.body.drive
unfolding ao_taken
taken-drive h got = invalid-drive (worked h got) ∙ worked-drive h got

value_if-drive : (h : BodyState Ao) (o : Option Value) → (value_if h o).body.drive ≡ h.body.drive
value_if-drive h None = refl
value_if-drive h (Some v) = refl

loaded-drive : (h : BodyState Ao) → (ao_loaded h).body.drive ≡ h.body.drive
unfolding ao_loaded constant_put
loaded-drive h = value_if-drive h (constant_in Doubles h.body.drive.desired.link)

link-there : (b : Ao) (f : OwnField) → is_some (links b.drive f) ≡ is_link Ao-type (Own f)
unfolding row_of own_row ao_row output_row scale_row analog_row
link-there b Out = refl
link-there b _ = refl

missing-links : (f : OwnField) → named_by_field (links new_ao.drive f) ≡ []
unfolding new_ao new_drive use_of
missing-links Out = refl
missing-links _ = refl

-- ---- Values

oif_shown : (v : Value) (old : OifChoice) → (is : (n : ℕ) × (v ≡ value.Enum n) × (n < 2)) → Some (value.Enum (oif_number (unwrap_or (oif_in v) old))) ≡ Some v
oif_shown v old is = rw is.1 (ap (λ n. Some (value.Enum n)) (oif_back is.0 old is.2))

reads_back_by : (h : BodyState Ao) (f : OwnField) (v : Value) → can_put_by (ao_row f) → IsValueBy (ao_row f) v → ao_get (ao_stored h f v).body f ≡ Some v
unfolding ao_row output_row ao_get ao_stored scale_stored field_sort
reads_back_by h Out v can is = cc
reads_back_by h Dol v can is = cc
reads_back_by h Oval v can is = cc
reads_back_by h Pval v can is = cc
reads_back_by h Oif v can is = oif_shown v h.body.increment is
reads_back_by h Oroc v can is = rw is.1 refl
reads_back_by h Drvh v can is = rw is.1 refl
reads_back_by h Drvl v can is = rw is.1 refl
reads_back_by h Ivov v can is = rw is.1 refl
reads_back_by h Omsl v can is = omsl_reads_back h.body.drive v is
reads_back_by h Ivoa v can is = ivoa_reads_back h.body.drive v is
reads_back_by h Val v can is = shared_reads_back h.body.scale h.body.analog Val v can is
reads_back_by h f v can is = shared_reads_back h.body.scale h.body.analog f v can is

reads_back : (h : BodyState Ao) (f : OwnField) (v : Value) → can_put Ao-type (Own f) ≡ true → IsValueOf (sort_in [] (kind_of Ao-type (Own f))) v → ao_get (ao_stored h f v).body f ≡ Some v
unfolding row_of own_row
reads_back h f v can is = reads_back_by h f v can is

set-values : (b : Ao) (f : OwnField) (l : LinkField) (g : OwnField) → ao_get (record b { drive = drive_with_link b.drive f l }) g ≡ ao_get b g
unfolding ao_get
set-values b f l Omsl = drive_set_values b.drive f l Omsl
set-values b f l Ivoa = drive_set_values b.drive f l Ivoa
set-values b f l _ = refl

-- ---- The output

-- If a link is written, OUT leads to that field.
driven_leads : (b : Bool) (out : LinkField) (x v : Value) (t : StandingLink) → cond b (written out x) NoOutput ≡ WriteLink (Standing t) v → use_of out ≡ Standing t
driven_leads true out x v t is = written_leads out x v t is
driven_leads false out x v t is = cc

output_leads : (h : BodyState Ao) (got : Got) (t : StandingLink) (v : Value) → ao_output h got ≡ WriteLink (Standing t) v → use_of h.body.drive.output ≡ Standing t
unfolding ao_output
output_leads h got t v is =
    let d = ao_taken h got in
    ap (λ (x : Drive). use_of x.output) (sym (taken-drive h got))
    ∙ driven_leads (drives d.body.drive.on_invalid d.condition) d.body.drive.output (driven_value d.body d.condition) v t is

pub ao_lawful : IsLawfulBody ao
unfolding reads_device
ao_lawful = record {
  missing_links = missing-links;
  link_there = link-there;
  type_stays = record { taken = λ h got. refl; stored = λ h f v. refl; set = λ b f l. refl; loaded = λ h. refl; posted = λ b changed. refl; calculated = λ b f c. refl };
  taken_links = λ h got. ap links (taken-drive h got);
  stored_links = stored-links;
  set_here = λ b f l is. drive_set_here b.drive f l is;
  set_there = λ b f g l. drive_set_there b.drive f g l;
  set_others = λ b f g l apart. drive_set_others b.drive f g l apart;
  set_twice = λ b f l m. ap (λ d. record b { drive = d }) (drive_set_twice b.drive f l m);
  set_values = set-values;
  posted_links = λ b changed. refl;
  calculated_links = λ b f c. refl;
  loaded_links = λ h. ap links (loaded-drive h);
  put_reads_back = reads_back;
  begin_named = λ b t is. record { field = Dol; link = b.drive.desired; is = refl; leads = begin_leads b.drive.mode b.drive.desired t is };
  choice_named = λ b t is. absurd (begins_alone b.drive.mode b.drive.desired t is);
  output_named = λ h got t v is. record { field = Out; link = h.body.drive.output; is = refl; leads = output_leads h got t v is };
  readers_write_none = λ h got v reads is. cc;
}

new_values : (f : OwnField) → ao_get new_ao f ≡ own_default Ao-type f
unfolding ao_get new_ao new_drive drive_get scale_get new_scale analog_get new_analog new_limits own_default zero_of row_of own_row ao_row output_row scale_row analog_row
new_values Omsl = refl
new_values _ = refl

new_links : (f : OwnField) → is_link Ao-type (Own f) ≡ true → links new_ao.drive f ≡ Some no_link
unfolding new_ao new_drive row_of own_row ao_row output_row scale_row analog_row
new_links Out is = refl
new_links Dol is = refl
new_links _ is = cc

-- A new record has the defaults.
pub ao_new : IsNewBody ao new_ao
ao_new = record { values = new_values; links = new_links }
