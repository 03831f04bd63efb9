-- The types longout and int64out keep the laws of record types.
use Rattle.std.proofs.Common.{◌≡◌, Bool, true, false, cond, [], Option, Some, None, refl, sym, ap, subst, ◌∙◌}
use Rattle.std.specs.Prelude.{is_some, ◌≢◌}
use Rattle.ioc_values.specs.declared.value.Value.{Value}
use Rattle.ioc_values.specs.declared.kind.Range.{Range}
use Rattle.ioc_values.specs.Shapes.{IsValueOf}
use Rattle.ioc_values.specs.Conversion.{Numbers, of_number}
use Rattle.ioc_links.specs.declared.link.Link.{Link}
use Rattle.ioc_links.specs.declared.link.Link.TheVariants.{Constant}
use Rattle.ioc_fields.specs.declared.field_no.FieldNo.TheVariants.{Own}
use Rattle.ioc_alarms.specs.Order.{LimitOrder}
use Rattle.ioc_fields.specs.declared.field_no.OwnField.{OwnField}
use Rattle.ioc_fields.specs.declared.field_no.OwnField.TheVariants.{Out, Dol, Omsl, Drvh, Drvl, Ivoa, Ivov}
use Rattle.ioc_fields.specs.Table.{row_of, output_row, numeric_output_row, numeric_row, can_put, is_link, kind_of}
use Rattle.ioc_fields.specs.Types.{reads_device}
use Rattle.ioc_fields.specs.Defaults.{zero_of, own_default}
use Rattle.ioc_dbcommon.specs.declared.drive.Drive.{Drive}
use Rattle.ioc_dbcommon.specs.declared.link_field.LinkField.{LinkField}
use Rattle.ioc_dbcommon.specs.declared.link_field.LinkUse.TheVariants.{Standing}
use Rattle.ioc_dbcommon.specs.declared.link_field.StandingLink.{StandingLink}
use Rattle.ioc_dbcommon.specs.declared.body.Got.{Got}
use Rattle.ioc_dbcommon.specs.declared.body.Got.TheVariants as got
use Rattle.ioc_dbcommon.specs.declared.body.Output.TheVariants.{NoOutput, WriteLink}
use Rattle.ioc_dbcommon.specs.Links.{no_link, use_of, named_by_field}
use Rattle.ioc_record.specs.Values.{field_sort, sort_in}
use Rattle.ioc_dbcommon.specs.Drive.{new_drive, drive_link, drive_with_link, drive_get, drive_stored, drives, sets, written, drive_stored-output, drive_stored-desired, omsl_reads_back, ivoa_reads_back, begin_leads, written_leads, drive_set_here, drive_set_there, drive_set_others, drive_set_twice, drive_set_values, begins_alone}
use Rattle.ioc_record.specs.BodyRules.{BodyState}
use Rattle.ioc_record.specs.BodyLaws.{IsLawfulBody, IsNewBody}
use Rattle.ioc_record.specs.ByRow.{can_put_by, default_by, is_link_by}
use Rattle.rec_numeric.specs.Number.{NumberRules}
use Rattle.rec_numeric.specs.NumberLaws.{IsLawfulNumber}
use Rattle.rec_numeric.specs.Constant.{stored_if, constant_put}
use Rattle.rec_numeric.specs.Numeric.{numeric_get}
use Rattle.rec_numeric.specs.NumericLaws.{IsValueBy, number_shown, numeric_reads_back, numeric_defaults}
use Rattle.rec_numeric.specs.Output.{numeric_output, new_output, output_get, output_stored, with_value, worked, settled, output_taken, output_driven}
use Rattle.rec_numeric.specs.declared.output.NumericOutput.{NumericOutput}

links_by : (out dol : LinkField) (range : Range) (f : OwnField) → is_some (drive_link out dol f) ≡ is_link_by (numeric_output_row range f)
unfolding numeric_output_row output_row numeric_row
links_by out dol range Out = refl
links_by out dol range _ = refl

-- The links of a drive.
abbrev links : Drive → OwnField → Option LinkField
links d = drive_link d.output d.desired

stored_drive-links : (d : Drive) (f : OwnField) (v : Value) → links (drive_stored d f v) ≡ links d
stored_drive-links d f v = ap (λ l. drive_link l (drive_stored d f v).desired) (drive_stored-output d f v) ∙ ap (drive_link d.output) (drive_stored-desired d f v)

module _ {N : Type 0} (k : NumberRules N) (order : LimitOrder N) (lawful : IsLawfulNumber k) where
  -- Neither the body nor a store changes the links.
  stored-links : (h : BodyState (NumericOutput N)) (f : OwnField) (v : Value) → links (output_stored k h f v).body.drive ≡ links h.body.drive
  unfolding output_stored
  stored-links h Omsl v = stored_drive-links h.body.drive Omsl v
  stored-links h Ivoa v = stored_drive-links h.body.drive Ivoa v
  stored-links h _ v = refl

  worked-drive : (h : BodyState (NumericOutput N)) (got : Got) → (worked k order h got).body.drive ≡ h.body.drive
  unfolding worked
  worked-drive h (got.Value v) = refl
  worked-drive h _ = refl

  either-drive : (b : Bool) (x y : BodyState (NumericOutput N)) (d : Drive) → x.body.drive ≡ d → y.body.drive ≡ d → (cond b x y).body.drive ≡ d
  either-drive true x y d of_x of_y = of_x
  either-drive false x y d of_x of_y = of_y

  settled-drive : (h : BodyState (NumericOutput N)) → (settled h).body.drive ≡ h.body.drive
  unfolding settled
  settled-drive h = either-drive (sets h.body.drive.on_invalid h.condition) (record h { body = with_value h.body h.body.invalid_value }) h h.body.drive refl refl

  taken-drive : (h : BodyState (NumericOutput N)) (got : Got) → (output_taken k order h got).body.drive ≡ h.body.drive
  unfolding output_taken
  taken-drive h got = settled-drive (worked k order h got) ∙ worked-drive h got

  stored_if-drive : (h : BodyState (NumericOutput N)) (o : Option Value) → (stored_if (output_stored k) h o).body.drive ≡ h.body.drive
  unfolding output_stored
  stored_if-drive h None = refl
  stored_if-drive h (Some v) = refl

  put-drive : (h : BodyState (NumericOutput N)) (l : Link) → (constant_put (output_stored k) k.range h l).body.drive ≡ h.body.drive
  put-drive h (Constant z) = stored_if-drive h (of_number (Numbers k.range) z)
  put-drive h _ = refl

  link-there : (b : NumericOutput N) (f : OwnField) → is_some (links b.drive f) ≡ is_link k.output_type (Own f)
  unfolding row_of
  link-there b f = links_by b.drive.output b.drive.desired k.range f ∙ ap is_link_by (sym (lawful.output_row f))

  missing-links : (f : OwnField) → named_by_field (links (new_output k).drive f) ≡ []
  unfolding new_output new_drive use_of
  missing-links Out = refl
  missing-links _ = refl

  -- A value that is put reads back.
  reads_back_by : (h : BodyState (NumericOutput N)) (f : OwnField) (v : Value) → can_put_by (numeric_output_row k.range f) → IsValueBy (numeric_output_row k.range f) v → output_get k (output_stored k h f v).body f ≡ Some v
  unfolding numeric_output_row output_row output_get output_stored field_sort
  reads_back_by h Drvh v can is = number_shown k lawful v h.body.drive_high is
  reads_back_by h Drvl v can is = number_shown k lawful v h.body.drive_low is
  reads_back_by h Ivov v can is = number_shown k lawful v h.body.invalid_value is
  reads_back_by h Omsl v can is = omsl_reads_back h.body.drive v is
  reads_back_by h Ivoa v can is = ivoa_reads_back h.body.drive v is
  reads_back_by h Out v can is = cc
  reads_back_by h Dol v can is = cc
  reads_back_by h f v can is = numeric_reads_back k lawful h.body.numbers f v can is

  reads_back : (h : BodyState (NumericOutput N)) (f : OwnField) (v : Value) → can_put k.output_type (Own f) ≡ true → IsValueOf (sort_in [] (kind_of k.output_type (Own f))) v → output_get k (output_stored k h f v).body f ≡ Some v
  unfolding row_of
  reads_back h f v can is = reads_back_by h f v (subst can_put_by (lawful.output_row f) can) (subst (λ r. IsValueBy r v) (lawful.output_row f) is)

  set_values-of : (b : NumericOutput N) (f : OwnField) (l : LinkField) (g : OwnField) → output_get k (record b { drive = drive_with_link b.drive f l }) g ≡ output_get k b g
  unfolding output_get
  set_values-of b f l Omsl = drive_set_values b.drive f l Omsl
  set_values-of b f l Ivoa = drive_set_values b.drive f l Ivoa
  set_values-of b f l _ = refl

  -- If a link is written, OUT leads to that field.
  driven_leads : (b : Bool) (out : LinkField) (x v : Value) (t : StandingLink) → cond b (written out x) NoOutput ≡ WriteLink (Standing t) v → use_of out ≡ Standing t
  driven_leads true out x v t is = written_leads out x v t is
  driven_leads false out x v t is = cc

  output_leads : (h : BodyState (NumericOutput N)) (got : Got) (t : StandingLink) (v : Value) → output_driven k order h got ≡ WriteLink (Standing t) v → use_of h.body.drive.output ≡ Standing t
  unfolding output_driven
  output_leads h got t v is =
      let d = output_taken k order h got in
      ap (λ (x : Drive). use_of x.output) (sym (taken-drive h got))
      ∙ driven_leads (drives d.body.drive.on_invalid d.condition) d.body.drive.output (k.value d.body.numbers.value) v t is

  reads_none : reads_device k.output_type ≢ true
  reads_none reads = let no : false ≡ true = sym lawful.writes ∙ reads in cc

  pub output_lawful : IsLawfulBody (numeric_output k order)
  output_lawful = record {
    missing_links = missing-links;
    link_there = link-there;
    type_stays = record { taken = λ h got. refl; stored = λ h f v. refl; set = λ b f l. refl; loaded = λ h. refl; posted = λ b changed. refl; calculated = λ b f c. refl };
    taken_links = λ h got. ap links (taken-drive h got);
    stored_links = stored-links;
    set_here = λ b f l is. drive_set_here b.drive f l is;
    set_there = λ b f g l. drive_set_there b.drive f g l;
    set_others = λ b f g l apart. drive_set_others b.drive f g l apart;
    set_twice = λ b f l m. ap (λ d. record b { drive = d }) (drive_set_twice b.drive f l m);
    set_values = set_values-of;
    posted_links = λ b changed. refl;
    calculated_links = λ b f c. refl;
    loaded_links = λ h. ap links (put-drive h h.body.drive.desired.link);
    put_reads_back = reads_back;
    begin_named = λ b t is. record { field = Dol; link = b.drive.desired; is = refl; leads = begin_leads b.drive.mode b.drive.desired t is };
    choice_named = λ b t is. absurd (begins_alone b.drive.mode b.drive.desired t is);
    output_named = λ h got t v is. record { field = Out; link = h.body.drive.output; is = refl; leads = output_leads h got t v is };
    readers_write_none = λ h got v reads is. absurd (reads_none reads);
  }

  -- A new record has the defaults.
  new_by : (f : OwnField) → output_get k (new_output k) f ≡ default_by (numeric_output_row k.range f)
  unfolding numeric_output_row output_row output_get drive_get new_output new_drive zero_of numeric_get
  new_by Drvh = sym lawful.zero_is
  new_by Drvl = sym lawful.zero_is
  new_by Ivov = sym lawful.zero_is
  new_by Omsl = refl
  new_by Ivoa = refl
  new_by Out = refl
  new_by Dol = refl
  new_by f = numeric_defaults k lawful f

  new_values : (f : OwnField) → output_get k (new_output k) f ≡ own_default k.output_type f
  new_values f = new_by f ∙ sym (lawful.output_default f)

  new_links_by : (f : OwnField) → is_link_by (numeric_output_row k.range f) ≡ true → links (new_output k).drive f ≡ Some no_link
  unfolding new_output new_drive numeric_output_row output_row numeric_row
  new_links_by Out is = refl
  new_links_by Dol is = refl
  new_links_by _ is = cc

  new_links : (f : OwnField) → is_link k.output_type (Own f) ≡ true → links (new_output k).drive f ≡ Some no_link
  unfolding row_of
  new_links f is = new_links_by f (subst (λ r. is_link_by r ≡ true) (lawful.output_row f) is)

  pub output_new : IsNewBody (numeric_output k order) (new_output k)
  output_new = record { values = new_values; links = new_links }
