-- The types bi and mbbi keep the laws of record types.
use Rattle.std.proofs.Common.{◌≡◌, ℕ, true, false, List, [], Some, refl, sym, ap, subst, ◌∙◌}
use Rattle.std.specs.Prelude.{is_some}
use Rattle.ioc_values.specs.declared.value.Value.{Value}
use Rattle.ioc_values.specs.Shapes.{IsValueOf}
use Rattle.ioc_fields.specs.declared.field_no.FieldNo.TheVariants.{Own}
use Rattle.ioc_fields.specs.declared.field_no.OwnField.{OwnField}
use Rattle.ioc_fields.specs.declared.field_no.OwnField.TheVariants.{Inp}
use Rattle.ioc_fields.specs.Table.{row_of, can_put, is_link, kind_of}
use Rattle.ioc_fields.specs.Defaults.{zero_of, own_default}
use Rattle.ioc_dbcommon.specs.declared.link_field.LinkField.{LinkField}
use Rattle.ioc_dbcommon.specs.Links.{no_link, use_of, named_by_field}
use Rattle.ioc_record.specs.Values.{sort_in}
use Rattle.ioc_dbcommon.specs.Source.{new_source, source_link, source_set_here, source_set_there, source_set_others, source_set_twice, source_begin_leads, source_begins_alone}
use Rattle.ioc_record.specs.BodyRules.{BodyState}
use Rattle.ioc_record.specs.BodyLaws.{IsLawfulBody, IsNewBody}
use Rattle.ioc_record.specs.ByRow.{can_put_by, default_by, is_link_by}
use Rattle.rec_state.specs.StateRows.{state_input_row, IsValueBy}
use Rattle.rec_state.specs.States.{StateRules}
use Rattle.rec_state.specs.StatesLaws.{IsLawfulStates}
use Rattle.rec_state.specs.StateFields.{new_fields, fields_get}
use Rattle.rec_state.specs.StateFieldsLaws.{fields_read_back, fields_defaults, fields_no_links}
use Rattle.rec_state.specs.Input.{state_input, new_input, fields_of, input_stored, input_taken, input_loaded}
use Rattle.rec_state.specs.declared.input.StateInput.{StateInput}

module _ {S : Type 0} (k : StateRules S) (lawful : IsLawfulStates k) where
  -- ---- Links

  links_by : (input : LinkField) (f : OwnField) → is_some (source_link input f) ≡ is_link_by (state_input_row k.row f)
  unfolding state_input_row
  links_by input Inp = refl
  links_by input f = sym (fields_no_links k lawful f)

  link-there : (b : StateInput S) (f : OwnField) → is_some (source_link b.source.input f) ≡ is_link k.input_type (Own f)
  unfolding row_of
  link-there b f = links_by b.source.input f ∙ ap is_link_by (sym (lawful.fields f).input_row)

  missing-links : (f : OwnField) → named_by_field (source_link (new_input k).source.input f) ≡ []
  unfolding new_input new_source use_of
  missing-links Inp = refl
  missing-links _ = refl

  -- ---- Values

  reads_back_by : (h : BodyState (StateInput S)) (texts : List (List ℕ)) (f : OwnField) (v : Value) → can_put_by (state_input_row k.row f)
      → IsValueBy texts (state_input_row k.row f) v → fields_get k (input_stored k h f v).body.fields f ≡ Some v
  unfolding state_input_row input_stored
  reads_back_by h texts Inp v can is = cc
  reads_back_by h texts f v can is = fields_read_back k lawful (fields_of h) texts f v can is

  reads_back : (h : BodyState (StateInput S)) (f : OwnField) (v : Value) → can_put k.input_type (Own f) ≡ true
      → IsValueOf (sort_in (k.texts h.body.fields.states) (kind_of k.input_type (Own f))) v
      → fields_get k (input_stored k h f v).body.fields f ≡ Some v
  unfolding row_of
  reads_back h f v can is =
      let texts = k.texts h.body.fields.states in
      reads_back_by h texts f v (subst can_put_by (lawful.fields f).input_row can) (subst (λ r. IsValueBy texts r v) (lawful.fields f).input_row is)

  pub input_lawful : IsLawfulBody (state_input k)
  unfolding input_taken input_stored input_loaded
  input_lawful = record {
    missing_links = missing-links;
    link_there = link-there;
    type_stays = record { taken = λ h got. refl; stored = λ h f v. refl; set = λ b f l. refl; loaded = λ h. refl; posted = λ b changed. refl; calculated = λ b f c. refl };
    taken_links = λ h got. refl;
    stored_links = λ h f v. refl;
    set_here = λ b f l is. source_set_here b.source f l is;
    set_there = λ b f g l. source_set_there b.source f g l;
    set_others = λ b f g l apart. source_set_others b.source f g l apart;
    set_twice = λ b f l m. ap (λ s. record b { source = s }) (source_set_twice b.source f l m);
    set_values = λ b f l g. refl;
    posted_links = λ b changed. refl;
    calculated_links = λ b f c. refl;
    loaded_links = λ h. refl;
    put_reads_back = reads_back;
    begin_named = λ b t is. record { field = Inp; link = b.source.input; is = refl; leads = source_begin_leads b.source.input t is };
    choice_named = λ b t is. absurd (source_begins_alone b.source.input t is);
    output_named = λ h got t v is. cc;
    readers_write_none = λ h got v reads is. cc;
  }

  new_by : (f : OwnField) → fields_get k (new_fields k) f ≡ default_by (state_input_row k.row f)
  unfolding state_input_row fields_get new_fields zero_of
  new_by Inp = lawful.no_input
  new_by f = fields_defaults k lawful f

  new_values : (f : OwnField) → fields_get k (new_input k).fields f ≡ own_default k.input_type f
  unfolding new_input
  new_values f = new_by f ∙ sym (lawful.fields f).input_default

  new_links_by : (f : OwnField) → is_link_by (state_input_row k.row f) ≡ true → source_link (new_input k).source.input f ≡ Some no_link
  unfolding new_input new_source state_input_row
  new_links_by Inp is = refl
  new_links_by f is = let no : false ≡ true = sym (fields_no_links k lawful f) ∙ is in cc

  new_links : (f : OwnField) → is_link k.input_type (Own f) ≡ true → source_link (new_input k).source.input f ≡ Some no_link
  unfolding row_of
  new_links f is = new_links_by f (subst (λ r. is_link_by r ≡ true) (lawful.fields f).input_row is)

  pub input_new : IsNewBody (state_input k) (new_input k)
  input_new = record { values = new_values; links = new_links }
