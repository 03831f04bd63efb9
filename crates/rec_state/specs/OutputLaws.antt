-- The types bo and mbbo keep the laws of record types.
use Rattle.std.proofs.Common.{◌≡◌, ℕ, Bool, true, false, cond, List, [], Option, Some, refl, sym, ap, subst, ◌∙◌}
use Rattle.std.specs.Prelude.{is_some, ◌≢◌}
use Rattle.ioc_values.specs.declared.value.Value.{Value}
use Rattle.ioc_values.specs.Shapes.{IsValueOf}
use Rattle.ioc_fields.specs.declared.field_no.FieldNo.TheVariants.{Own}
use Rattle.ioc_fields.specs.declared.field_no.OwnField.{OwnField}
use Rattle.ioc_fields.specs.declared.field_no.OwnField.TheVariants.{Out, Dol, Omsl, Ivoa, Ivov}
use Rattle.ioc_fields.specs.Table.{row_of, output_row, can_put, is_link, kind_of}
use Rattle.ioc_fields.specs.Types.{reads_device}
use Rattle.ioc_fields.specs.Defaults.{zero_of, own_default}
use Rattle.ioc_dbcommon.specs.declared.drive.Drive.{Drive}
use Rattle.ioc_dbcommon.specs.declared.link_field.LinkField.{LinkField}
use Rattle.ioc_dbcommon.specs.declared.link_field.LinkUse.TheVariants.{Standing}
use Rattle.ioc_dbcommon.specs.declared.link_field.StandingLink.{StandingLink}
use Rattle.ioc_dbcommon.specs.declared.body.Got.{Got}
use Rattle.ioc_dbcommon.specs.declared.body.Output.TheVariants.{NoOutput, WriteLink}
use Rattle.ioc_dbcommon.specs.Links.{no_link, use_of, named_by_field}
use Rattle.ioc_record.specs.Values.{field_sort, sort_in}
use Rattle.ioc_dbcommon.specs.Drive.{new_drive, drive_link, drive_with_link, drive_get, drive_stored, drives, written, drive_stored-output, drive_stored-desired, omsl_reads_back, ivoa_reads_back, begin_leads, written_leads, drive_set_here, drive_set_there, drive_set_others, drive_set_twice, drive_set_values, begins_alone}
use Rattle.ioc_record.specs.BodyRules.{BodyState}
use Rattle.ioc_record.specs.BodyLaws.{IsLawfulBody, IsNewBody}
use Rattle.ioc_record.specs.ByRow.{can_put_by, default_by, is_link_by}
use Rattle.rec_state.specs.StateRows.{state_output_row, IsValueBy}
use Rattle.rec_state.specs.States.{StateRules}
use Rattle.rec_state.specs.StatesLaws.{IsLawfulStates}
use Rattle.rec_state.specs.StateFields.{new_fields, fields_get}
use Rattle.rec_state.specs.StateFieldsLaws.{fields_read_back, fields_defaults, fields_no_links}
use Rattle.rec_state.specs.Output.{state_output, new_output, output_get, output_stored, fields_of, output_taken, driven_value, output_driven, output_loaded}
use Rattle.rec_state.specs.declared.output.StateOutput.{StateOutput}

-- The links of a drive.
abbrev links : Drive → OwnField → Option LinkField
links d = drive_link d.output d.desired

stored_drive-links : (d : Drive) (f : OwnField) (v : Value) → links (drive_stored d f v) ≡ links d
stored_drive-links d f v =
    ap (λ l. drive_link l (drive_stored d f v).desired) (drive_stored-output d f v)
    ∙ ap (drive_link d.output) (drive_stored-desired d f v)

-- If a link is written, OUT leads to that field.
driven_leads : (b : Bool) (out : LinkField) (x v : Value) (t : StandingLink)
    → cond b (written out x) NoOutput ≡ WriteLink (Standing t) v → use_of out ≡ Standing t
driven_leads true out x v t is = written_leads out x v t is
driven_leads false out x v t is = cc

module _ {S : Type 0} (k : StateRules S) (lawful : IsLawfulStates k) where
  -- ---- Links

  stored-links : (h : BodyState (StateOutput S)) (f : OwnField) (v : Value) → links (output_stored k h f v).body.drive ≡ links h.body.drive
  unfolding output_stored
  stored-links h Omsl v = stored_drive-links h.body.drive Omsl v
  stored-links h Ivoa v = stored_drive-links h.body.drive Ivoa v
  stored-links h _ v = refl

  links_by : (out dol : LinkField) (f : OwnField) → is_some (drive_link out dol f) ≡ is_link_by (state_output_row k.row f)
  unfolding state_output_row output_row
  links_by out dol Out = refl
  links_by out dol Dol = refl
  links_by out dol Ivov = refl
  links_by out dol Omsl = refl
  links_by out dol Ivoa = refl
  links_by out dol f = sym (fields_no_links k lawful f)

  link-there : (b : StateOutput S) (f : OwnField) → is_some (links b.drive f) ≡ is_link k.output_type (Own f)
  unfolding row_of
  link-there b f = links_by b.drive.output b.drive.desired f ∙ ap is_link_by (sym (lawful.fields f).output_row)

  missing-links : (f : OwnField) → named_by_field (links (new_output k).drive f) ≡ []
  unfolding new_output new_drive use_of
  missing-links Out = refl
  missing-links _ = refl

  -- ---- Values

  reads_back_by : (h : BodyState (StateOutput S)) (texts : List (List ℕ)) (f : OwnField) (v : Value) → can_put_by (state_output_row k.row f)
      → IsValueBy texts (state_output_row k.row f) v → output_get k (output_stored k h f v).body f ≡ Some v
  unfolding state_output_row output_row output_get output_stored field_sort
  reads_back_by h texts Ivov v can is = rw is.1 refl
  reads_back_by h texts Omsl v can is = omsl_reads_back h.body.drive v is
  reads_back_by h texts Ivoa v can is = ivoa_reads_back h.body.drive v is
  reads_back_by h texts Out v can is = cc
  reads_back_by h texts Dol v can is = cc
  reads_back_by h texts f v can is = fields_read_back k lawful (fields_of h) texts f v can is

  reads_back : (h : BodyState (StateOutput S)) (f : OwnField) (v : Value) → can_put k.output_type (Own f) ≡ true
      → IsValueOf (sort_in (k.texts h.body.fields.states) (kind_of k.output_type (Own f))) v
      → output_get k (output_stored k h f v).body f ≡ Some v
  unfolding row_of
  reads_back h f v can is =
      let texts = k.texts h.body.fields.states in
      reads_back_by h texts f v (subst can_put_by (lawful.fields f).output_row can) (subst (λ r. IsValueBy texts r v) (lawful.fields f).output_row is)

  set_values-of : (b : StateOutput S) (f : OwnField) (l : LinkField) (g : OwnField)
      → output_get k (record b { drive = drive_with_link b.drive f l }) g ≡ output_get k b g
  unfolding output_get
  set_values-of b f l Omsl = drive_set_values b.drive f l Omsl
  set_values-of b f l Ivoa = drive_set_values b.drive f l Ivoa
  set_values-of b f l _ = refl

  -- ---- The output links

  output_leads : (h : BodyState (StateOutput S)) (got : Got) (t : StandingLink) (v : Value)
      → output_driven k h got ≡ WriteLink (Standing t) v → use_of h.body.drive.output ≡ Standing t
  unfolding output_driven output_taken
  output_leads h got t v is =
      let d = output_taken k h got in
      driven_leads (drives d.body.drive.on_invalid d.condition) d.body.drive.output (driven_value k d.body d.condition) v t is

  reads_none : reads_device k.output_type ≢ true
  reads_none reads = let no : false ≡ true = sym lawful.writes ∙ reads in cc

  pub output_lawful : IsLawfulBody (state_output k)
  unfolding output_taken output_loaded output_stored
  output_lawful = record {
    missing_links = missing-links;
    link_there = link-there;
    type_stays = record { taken = λ h got. refl; stored = λ h f v. refl; set = λ b f l. refl; loaded = λ h. refl; posted = λ b changed. refl; calculated = λ b f c. refl };
    taken_links = λ h got. refl;
    stored_links = stored-links;
    set_here = λ b f l is. drive_set_here b.drive f l is;
    set_there = λ b f g l. drive_set_there b.drive f g l;
    set_others = λ b f g l apart. drive_set_others b.drive f g l apart;
    set_twice = λ b f l m. ap (λ d. record b { drive = d }) (drive_set_twice b.drive f l m);
    set_values = set_values-of;
    posted_links = λ b changed. refl;
    calculated_links = λ b f c. refl;
    loaded_links = λ h. refl;
    put_reads_back = reads_back;
    begin_named = λ b t is. record { field = Dol; link = b.drive.desired; is = refl; leads = begin_leads b.drive.mode b.drive.desired t is };
    choice_named = λ b t is. absurd (begins_alone b.drive.mode b.drive.desired t is);
    output_named = λ h got t v is. record { field = Out; link = h.body.drive.output; is = refl; leads = output_leads h got t v is };
    readers_write_none = λ h got v reads is. absurd (reads_none reads);
  }

  -- ---- A new record has the defaults

  new_by : (f : OwnField) → output_get k (new_output k) f ≡ default_by (state_output_row k.row f)
  unfolding state_output_row output_row output_get drive_get new_output new_drive zero_of fields_get new_fields
  new_by Ivov = refl
  new_by Omsl = refl
  new_by Ivoa = refl
  new_by Out = lawful.no_output
  new_by Dol = lawful.no_desired
  new_by f = fields_defaults k lawful f

  new_values : (f : OwnField) → output_get k (new_output k) f ≡ own_default k.output_type f
  new_values f = new_by f ∙ sym (lawful.fields f).output_default

  new_links_by : (f : OwnField) → is_link_by (state_output_row k.row f) ≡ true → links (new_output k).drive f ≡ Some no_link
  unfolding new_output new_drive state_output_row output_row
  new_links_by Out is = refl
  new_links_by Dol is = refl
  new_links_by Ivov is = cc
  new_links_by Omsl is = cc
  new_links_by Ivoa is = cc
  new_links_by f is = let no : false ≡ true = sym (fields_no_links k lawful f) ∙ is in cc

  new_links : (f : OwnField) → is_link k.output_type (Own f) ≡ true → links (new_output k).drive f ≡ Some no_link
  unfolding row_of
  new_links f is = new_links_by f (subst (λ r. is_link_by r ≡ true) (lawful.fields f).output_row is)

  pub output_new : IsNewBody (state_output k) (new_output k)
  output_new = record { values = new_values; links = new_links }
