-- The types stringin and event keep the laws of record types.
use Rattle.std.proofs.Common.{◌≡◌, true, [], Option, Some, refl, sym, ap, subst, ◌∙◌}
use Rattle.std.specs.Prelude.{is_some, ◌≢◌}
use Rattle.ioc_values.specs.declared.value.Value.{Value}
use Rattle.ioc_values.specs.Shapes.{IsValueOf}
use Rattle.ioc_fields.specs.declared.field_no.FieldNo.TheVariants.{Own}
use Rattle.ioc_fields.specs.declared.field_no.OwnField.{OwnField}
use Rattle.ioc_fields.specs.declared.field_no.OwnField.TheVariants.{Val, Inp}
use Rattle.ioc_fields.specs.declared.row.Row.{Row}
use Rattle.ioc_fields.specs.Table.{row_of, own_row, text_input_row, text_row, can_put, is_link, kind_of}
use Rattle.ioc_fields.specs.Defaults.{zero_of, own_default}
use Rattle.ioc_dbcommon.specs.declared.link_field.LinkUse.{LinkUse}
use Rattle.ioc_dbcommon.specs.declared.source.Source.{Source}
use Rattle.ioc_dbcommon.specs.declared.body.Got.{Got}
use Rattle.ioc_dbcommon.specs.declared.body.Output.TheVariants.{WriteLink, WriteDevice}
use Rattle.ioc_dbcommon.specs.Links.{no_link, use_of, named_by_field}
use Rattle.ioc_record.specs.Values.{field_sort, sort_in}
use Rattle.ioc_dbcommon.specs.Source.{new_source, source_link, source_set_here, source_set_there, source_set_others, source_set_twice, source_begin_leads, source_begins_alone}
use Rattle.ioc_record.specs.BodyRules.{BodyState}
use Rattle.ioc_record.specs.BodyLaws.{IsLawfulBody, IsNewBody}
use Rattle.ioc_record.specs.ByRow.{can_put_by, default_by, is_link_by}
use Rattle.std.specs.Option.{option_map}
use Rattle.rec_text.specs.declared.text_input.TextInput.{TextInput}
use Rattle.rec_text.specs.TextInput.{new_text_input, text_input_get, text_input_stored, stored-source, put-source}
use Rattle.rec_text.specs.declared.text_body.TextBody.{TextBody}
use Rattle.rec_text.specs.TextBody.{TextRules, text_body, new_text_body, inner}

-- The laws of what tells these types apart.
pub record IsLawfulText {K : Type 0} (k : TextRules K) : Type 0 where
  -- The input doesn't change INP.
  pub taken_source : (h : BodyState TextInput) (got : Got) → (k.taken h got).body.source ≡ h.body.source
  -- The rows of the type in the field tables, and its defaults.
  pub row : (f : OwnField) → own_row k.record_type f ≡ text_input_row f
  pub default : (f : OwnField) → own_default k.record_type f ≡ default_by (text_input_row f)
  -- Neither a link nor a device is written.
  pub writes_no_link : (t : TextInput) (link : LinkUse) (v : Value) → k.output t ≢ WriteLink link v
  pub writes_no_device : (t : TextInput) (v : Value) → k.output t ≢ WriteDevice v

-- Holds if the value is of the sort of a field with this row.
abbrev IsValueBy : Option Row → Value → Type 0
IsValueBy row v = IsValueOf (sort_in [] (option_map (λ (r : Row). r.kind) row)) v

links_by : (t : TextInput) (f : OwnField) → is_some (source_link t.source.input f) ≡ is_link_by (text_input_row f)
unfolding text_input_row text_row
links_by t Inp = refl
links_by t _ = refl

reads_back_by : (h : BodyState TextInput) (f : OwnField) (v : Value) → can_put_by (text_input_row f) → IsValueBy (text_input_row f) v
    → text_input_get (text_input_stored h f v).body f ≡ Some v
unfolding text_input_row text_row text_input_get text_input_stored field_sort
reads_back_by h Val v can is = rw is.1 refl
reads_back_by h _ v can is = cc

new_by : (f : OwnField) → text_input_get new_text_input f ≡ default_by (text_input_row f)
unfolding new_text_input text_input_get zero_of text_input_row text_row
new_by Val = refl
new_by _ = refl

new_links_by : (f : OwnField) → is_link_by (text_input_row f) ≡ true → source_link new_text_input.source.input f ≡ Some no_link
unfolding new_text_input new_source text_input_row text_row
new_links_by Inp is = refl
new_links_by _ is = cc

module _ {K : Type 0} (k : TextRules K) (lawful : IsLawfulText k) where
  link-there : (b : TextBody K) (f : OwnField) → is_some (source_link b.text.source.input f) ≡ is_link k.record_type (Own f)
  unfolding row_of
  link-there b f = links_by b.text f ∙ ap is_link_by (sym (lawful.row f))

  missing-links : (f : OwnField) → named_by_field (source_link (new_text_body k).text.source.input f) ≡ []
  unfolding new_text_body new_text_input new_source use_of
  missing-links Inp = refl
  missing-links _ = refl

  reads_back : (h : BodyState (TextBody K)) (f : OwnField) (v : Value) → can_put k.record_type (Own f) ≡ true
      → IsValueOf (sort_in [] (kind_of k.record_type (Own f))) v → text_input_get (text_input_stored (inner h) f v).body f ≡ Some v
  unfolding row_of
  reads_back h f v can is = reads_back_by (inner h) f v (subst can_put_by (lawful.row f) can) (subst (λ r. IsValueBy r v) (lawful.row f) is)

  pub text_body_lawful : IsLawfulBody (text_body k)
  unfolding text_input_get
  text_body_lawful = record {
    missing_links = missing-links;
    link_there = link-there;
    type_stays = record { taken = λ h got. refl; stored = λ h f v. refl; set = λ b f l. refl; loaded = λ h. refl; posted = λ b changed. refl; calculated = λ b f c. refl };
    taken_links = λ h got. ap (λ (s : Source). source_link s.input) (lawful.taken_source (inner h) got);
    stored_links = λ h f v. ap (λ (s : Source). source_link s.input) (stored-source (inner h) f v);
    set_here = λ b f l is. source_set_here b.text.source f l is;
    set_there = λ b f g l. source_set_there b.text.source f g l;
    set_others = λ b f g l apart. source_set_others b.text.source f g l apart;
    set_twice = λ b f l m. ap (λ s. record b { text = record b.text { source = s } }) (source_set_twice b.text.source f l m);
    set_values = λ b f l g. refl;
    posted_links = λ b changed. refl;
    calculated_links = λ b f c. refl;
    loaded_links = λ h. ap (λ (s : Source). source_link s.input) (put-source (inner h) h.body.text.source.input.link);
    put_reads_back = reads_back;
    begin_named = λ b t is. record { field = Inp; link = b.text.source.input; is = refl; leads = source_begin_leads b.text.source.input t is };
    choice_named = λ b t is. absurd (source_begins_alone b.text.source.input t is);
    output_named = λ h got t v is. absurd (lawful.writes_no_link _ _ _ is);
    readers_write_none = λ h got v reads. lawful.writes_no_device _ v;
  }

  new_values : (f : OwnField) → text_input_get (new_text_body k).text f ≡ own_default k.record_type f
  unfolding new_text_body
  new_values f = new_by f ∙ sym (lawful.default f)

  new_links : (f : OwnField) → is_link k.record_type (Own f) ≡ true → source_link (new_text_body k).text.source.input f ≡ Some no_link
  unfolding new_text_body row_of
  new_links f is = new_links_by f (subst (λ r. is_link_by r ≡ true) (lawful.row f) is)

  pub text_body_new : IsNewBody (text_body k) (new_text_body k)
  text_body_new = record { values = new_values; links = new_links }
