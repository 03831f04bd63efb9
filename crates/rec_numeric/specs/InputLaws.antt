-- The types longin and int64in keep the laws of record types.
use Rattle.std.proofs.Common.{◌≡◌, true, [], Option, Some, None, refl, sym, ap, subst, ◌∙◌}
use Rattle.std.specs.Prelude.{is_some}
use Rattle.ioc_values.specs.declared.value.Value.{Value}
use Rattle.ioc_values.specs.declared.kind.Range.{Range}
use Rattle.ioc_values.specs.Shapes.{IsValueOf}
use Rattle.ioc_values.specs.Conversion.{Numbers, of_number}
use Rattle.ioc_links.specs.declared.link.Link.{Link}
use Rattle.ioc_links.specs.declared.link.Link.TheVariants.{Constant}
use Rattle.ioc_fields.specs.declared.field_no.FieldNo.TheVariants.{Own}
use Rattle.ioc_alarms.specs.Order.{LimitOrder}
use Rattle.ioc_fields.specs.declared.field_no.OwnField.{OwnField}
use Rattle.ioc_fields.specs.declared.field_no.OwnField.TheVariants.{Val, Inp}
use Rattle.ioc_fields.specs.Table.{row_of, numeric_input_row, numeric_row, can_put, is_link, kind_of}
use Rattle.ioc_fields.specs.Defaults.{zero_of, own_default}
use Rattle.ioc_dbcommon.specs.declared.link_field.LinkField.{LinkField}
use Rattle.ioc_dbcommon.specs.declared.source.Source.{Source}
use Rattle.ioc_dbcommon.specs.declared.body.Got.{Got}
use Rattle.ioc_dbcommon.specs.declared.body.Got.TheVariants as got
use Rattle.ioc_dbcommon.specs.Links.{no_link, use_of, named_by_field}
use Rattle.ioc_record.specs.Values.{sort_in}
use Rattle.ioc_dbcommon.specs.Source.{new_source, source_link, source_set_here, source_set_there, source_set_others, source_set_twice, source_begin_leads, source_begins_alone}
use Rattle.ioc_record.specs.BodyRules.{BodyState}
use Rattle.ioc_record.specs.BodyLaws.{IsLawfulBody, IsNewBody}
use Rattle.ioc_record.specs.ByRow.{can_put_by, default_by, is_link_by}
use Rattle.rec_numeric.specs.Number.{NumberRules}
use Rattle.rec_numeric.specs.NumberLaws.{IsLawfulNumber}
use Rattle.rec_numeric.specs.Constant.{stored_if, constant_put}
use Rattle.rec_numeric.specs.Numeric.{new_numeric, numeric_get}
use Rattle.rec_numeric.specs.NumericLaws.{IsValueBy, numeric_reads_back, numeric_defaults}
use Rattle.rec_numeric.specs.Input.{numeric_input, new_input, input_stored, came, input_taken}
use Rattle.rec_numeric.specs.declared.input.NumericInput.{NumericInput}

links_by : (input : LinkField) (range : Range) (f : OwnField) → is_some (source_link input f) ≡ is_link_by (numeric_input_row range f)
unfolding numeric_input_row numeric_row
links_by input range Inp = refl
links_by input range _ = refl

module _ {N : Type 0} (k : NumberRules N) (order : LimitOrder N) (lawful : IsLawfulNumber k) where
  -- Neither the body nor a store changes INP.
  stored-source : (h : BodyState (NumericInput N)) (f : OwnField) (v : Value) → (input_stored k h f v).body.source ≡ h.body.source
  unfolding input_stored
  stored-source h Val v = refl
  stored-source h _ v = refl

  came-source : (h : BodyState (NumericInput N)) (got : Got) → (came k h got).body.source ≡ h.body.source
  came-source h (got.Value v) = stored-source h Val v
  came-source h _ = refl

  taken-source : (h : BodyState (NumericInput N)) (got : Got) → (input_taken k order h got).body.source ≡ h.body.source
  unfolding input_taken
  taken-source h got = came-source h got

  stored_if-source : (h : BodyState (NumericInput N)) (o : Option Value) → (stored_if (input_stored k) h o).body.source ≡ h.body.source
  stored_if-source h None = refl
  stored_if-source h (Some v) = stored-source h Val v

  put-source : (h : BodyState (NumericInput N)) (l : Link) → (constant_put (input_stored k) k.range h l).body.source ≡ h.body.source
  put-source h (Constant z) = stored_if-source h (of_number (Numbers k.range) z)
  put-source h _ = refl

  link-there : (b : NumericInput N) (f : OwnField) → is_some (source_link b.source.input f) ≡ is_link k.input_type (Own f)
  unfolding row_of
  link-there b f = links_by b.source.input k.range f ∙ ap is_link_by (sym (lawful.input_row f))

  missing-links : (f : OwnField) → named_by_field (source_link (new_input k).source.input f) ≡ []
  unfolding new_input new_source use_of
  missing-links Inp = refl
  missing-links _ = refl

  reads_back_by : (h : BodyState (NumericInput N)) (f : OwnField) (v : Value) → can_put_by (numeric_input_row k.range f) → IsValueBy (numeric_input_row k.range f) v → numeric_get k (input_stored k h f v).body.numbers f ≡ Some v
  unfolding numeric_input_row input_stored
  reads_back_by h Inp v can is = cc
  reads_back_by h Val v can is = numeric_reads_back k lawful h.body.numbers Val v can is
  reads_back_by h f v can is = numeric_reads_back k lawful h.body.numbers f v can is

  reads_back : (h : BodyState (NumericInput N)) (f : OwnField) (v : Value) → can_put k.input_type (Own f) ≡ true → IsValueOf (sort_in [] (kind_of k.input_type (Own f))) v → numeric_get k (input_stored k h f v).body.numbers f ≡ Some v
  unfolding row_of
  reads_back h f v can is = reads_back_by h f v (subst can_put_by (lawful.input_row f) can) (subst (λ r. IsValueBy r v) (lawful.input_row f) is)

  pub input_lawful : IsLawfulBody (numeric_input k order)
  input_lawful = record {
    missing_links = missing-links;
    link_there = link-there;
    type_stays = record { taken = λ h got. refl; stored = λ h f v. refl; set = λ b f l. refl; loaded = λ h. refl; posted = λ b changed. refl; calculated = λ b f c. refl };
    taken_links = λ h got. ap (λ (s : Source). source_link s.input) (taken-source h got);
    stored_links = λ h f v. ap (λ (s : Source). source_link s.input) (stored-source h f v);
    set_here = λ b f l is. source_set_here b.source f l is;
    set_there = λ b f g l. source_set_there b.source f g l;
    set_others = λ b f g l apart. source_set_others b.source f g l apart;
    set_twice = λ b f l m. ap (λ s. record b { source = s }) (source_set_twice b.source f l m);
    set_values = λ b f l g. refl;
    posted_links = λ b changed. refl;
    calculated_links = λ b f c. refl;
    loaded_links = λ h. ap (λ (s : Source). source_link s.input) (put-source h h.body.source.input.link);
    put_reads_back = reads_back;
    begin_named = λ b t is. record { field = Inp; link = b.source.input; is = refl; leads = source_begin_leads b.source.input t is };
    choice_named = λ b t is. absurd (source_begins_alone b.source.input t is);
    output_named = λ h got t v is. cc;
    readers_write_none = λ h got v reads is. cc;
  }

  new_by : (f : OwnField) → numeric_get k (new_numeric k) f ≡ default_by (numeric_input_row k.range f)
  unfolding numeric_input_row numeric_get zero_of
  new_by Inp = refl
  new_by f = numeric_defaults k lawful f

  new_values : (f : OwnField) → numeric_get k (new_input k).numbers f ≡ own_default k.input_type f
  unfolding new_input
  new_values f = new_by f ∙ sym (lawful.input_default f)

  new_links_by : (f : OwnField) → is_link_by (numeric_input_row k.range f) ≡ true → source_link (new_input k).source.input f ≡ Some no_link
  unfolding new_input new_source numeric_input_row numeric_row
  new_links_by Inp is = refl
  new_links_by _ is = cc

  new_links : (f : OwnField) → is_link k.input_type (Own f) ≡ true → source_link (new_input k).source.input f ≡ Some no_link
  unfolding row_of
  new_links f is = new_links_by f (subst (λ r. is_link_by r ≡ true) (lawful.input_row f) is)

  pub input_new : IsNewBody (numeric_input k order) (new_input k)
  input_new = record { values = new_values; links = new_links }
