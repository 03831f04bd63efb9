-- The type ai keeps the laws of record types.
use Rattle.std.proofs.Common.{◌≡◌, Bool, true, false, cond, [], Option, Some, None, refl, ap}
use Rattle.std.specs.Prelude.{is_some}
use Rattle.ioc_values.specs.declared.value.Value.{Value}
use Rattle.ioc_values.specs.declared.kind.Range.TheVariants as range
use Rattle.ioc_values.specs.Conversion.{Numbers, Doubles}
use Rattle.ioc_values.specs.Shapes.{IsValueOf}
use Rattle.ioc_links.specs.declared.link.Link.{Link}
use Rattle.ioc_fields.specs.declared.field_no.FieldNo.TheVariants.{Own}
use Rattle.ioc_fields.specs.declared.field_no.OwnField.{OwnField}
use Rattle.ioc_fields.specs.declared.field_no.OwnField.TheVariants.{Val, Inp, Smoo, Init}
use Rattle.ioc_fields.specs.declared.record_type.RecordType.TheVariants.{Ai as Ai-type}
use Rattle.ioc_fields.specs.Table.{row_of, own_row, ai_row, scale_row, analog_row, can_put, is_link, kind_of}
use Rattle.ioc_fields.specs.Defaults.{zero_of, own_default}
use Rattle.ioc_dbcommon.specs.declared.source.Source.{Source}
use Rattle.ioc_dbcommon.specs.declared.body.Got.{Got}
use Rattle.ioc_dbcommon.specs.declared.body.Got.TheVariants as got
use Rattle.ioc_dbcommon.specs.Constant.{constant_in}
use Rattle.ioc_dbcommon.specs.Links.{no_link, use_of, named_by_field}
use Rattle.ioc_dbcommon.specs.Raw.{is_raw_soft}
use Rattle.ioc_dbcommon.specs.Source.{new_source, source_link, source_set_here, source_set_there, source_set_others, source_set_twice, source_begin_leads, source_begins_alone}
use Rattle.ioc_record.specs.Values.{field_sort, sort_in}
use Rattle.ioc_record.specs.BodyRules.{BodyState}
use Rattle.ioc_record.specs.BodyLaws.{IsLawfulBody, IsNewBody}
use Rattle.ioc_record.specs.ByRow.{can_put_by}
use Rattle.rec_analog.specs.SharedLaws.{IsValueBy, shared_reads_back}
use Rattle.rec_analog.specs.Analog.{new_limits, new_analog, analog_get}
use Rattle.rec_analog.specs.Scale.{new_scale, scale_get, scale_stored}
use Rattle.rec_analog.specs.Input.{ai, new_ai, ai_get, ai_stored, value_taken, raw_taken, came, ai_taken, raw_if, value_if, constant_put, ai_loaded}
use Rattle.rec_analog.specs.declared.input.Ai.{Ai}

-- ---- Links

stored-source : (h : BodyState Ai) (f : OwnField) (v : Value) → (ai_stored h f v).body.source ≡ h.body.source
unfolding ai_stored
stored-source h Val v = refl
stored-source h Smoo v = refl
stored-source h _ v = refl

either-source : (b : Bool) (x y : BodyState Ai) (s : Source) → x.body.source ≡ s → y.body.source ≡ s → (cond b x y).body.source ≡ s
either-source true x y s of_x of_y = of_x
either-source false x y s of_x of_y = of_y

came-source : (h : BodyState Ai) (got : Got) → (came h got).body.source ≡ h.body.source
unfolding came raw_taken value_taken
came-source h (got.Value v) = either-source (is_raw_soft h.condition) _ _ h.body.source refl refl
came-source h got.Nothing = either-source (is_raw_soft h.condition) _ _ h.body.source refl refl
came-source h got.Fault = refl

taken-source : (h : BodyState Ai) (got : Got) → (ai_taken h got).body.source ≡ h.body.source
unfolding ai_taken
taken-source h got = came-source h got

raw_if-source : (h : BodyState Ai) (o : Option Value) → (raw_if h o).body.source ≡ h.body.source
raw_if-source h None = refl
raw_if-source h (Some v) = refl

value_if-source : (h : BodyState Ai) (o : Option Value) → (value_if h o).body.source ≡ h.body.source
value_if-source h None = refl
value_if-source h (Some v) = refl

put-source : (h : BodyState Ai) (l : Link) → (constant_put h l).body.source ≡ h.body.source
unfolding constant_put
put-source h l =
    either-source (is_raw_soft h.condition) _ _ h.body.source (raw_if-source h (constant_in (Numbers range.Long) l)) (value_if-source h (constant_in Doubles l))

loaded-source : (h : BodyState Ai) → (ai_loaded h).body.source ≡ h.body.source
unfolding ai_loaded
loaded-source h = put-source h h.body.source.input.link

link-there : (b : Ai) (f : OwnField) → is_some (source_link b.source.input f) ≡ is_link Ai-type (Own f)
unfolding row_of own_row ai_row scale_row analog_row
link-there b Inp = refl
link-there b _ = refl

missing-links : (f : OwnField) → named_by_field (source_link new_ai.source.input f) ≡ []
unfolding new_ai new_source use_of
missing-links Inp = refl
missing-links _ = refl

-- ---- Values

reads_back_by : (h : BodyState Ai) (f : OwnField) (v : Value) → can_put_by (ai_row f) → IsValueBy (ai_row f) v → ai_get (ai_stored h f v).body f ≡ Some v
unfolding ai_row ai_get ai_stored scale_stored field_sort
reads_back_by h Inp v can is = cc
reads_back_by h Init v can is = cc
reads_back_by h Smoo v can is = rw is.1 refl
reads_back_by h Val v can is = shared_reads_back h.body.scale h.body.analog Val v can is
reads_back_by h f v can is = shared_reads_back h.body.scale h.body.analog f v can is

reads_back : (h : BodyState Ai) (f : OwnField) (v : Value) → can_put Ai-type (Own f) ≡ true → IsValueOf (sort_in [] (kind_of Ai-type (Own f))) v → ai_get (ai_stored h f v).body f ≡ Some v
unfolding row_of own_row
reads_back h f v can is = reads_back_by h f v can is

set-values : (b : Ai) (s : Source) (g : OwnField) → ai_get (record b { source = s }) g ≡ ai_get b g
unfolding ai_get
set-values b s Smoo = refl
set-values b s _ = refl

pub ai_lawful : IsLawfulBody ai
ai_lawful = record {
  missing_links = missing-links;
  link_there = link-there;
  type_stays = record { taken = λ h got. refl; stored = λ h f v. refl; set = λ b f l. refl; loaded = λ h. refl; posted = λ b changed. refl; calculated = λ b f c. refl };
  taken_links = λ h got. ap (λ (s : Source). source_link s.input) (taken-source h got);
  stored_links = λ h f v. ap (λ (s : Source). source_link s.input) (stored-source h f v);
  set_here = λ b f l is. source_set_here b.source f l is;
  set_there = λ b f g l. source_set_there b.source f g l;
  set_others = λ b f g l apart. source_set_others b.source f g l apart;
  set_twice = λ b f l m. ap (λ s. record b { source = s }) (source_set_twice b.source f l m);
  set_values = λ b f l g. set-values b _ g;
  posted_links = λ b changed. refl;
  calculated_links = λ b f c. refl;
  loaded_links = λ h. ap (λ (s : Source). source_link s.input) (loaded-source h);
  put_reads_back = reads_back;
  begin_named = λ b t is. record { field = Inp; link = b.source.input; is = refl; leads = source_begin_leads b.source.input t is };
  choice_named = λ b t is. absurd (source_begins_alone b.source.input t is);
  output_named = λ h got t v is. cc;
  readers_write_none = λ h got v reads is. cc;
}

new_values : (f : OwnField) → ai_get new_ai f ≡ own_default Ai-type f
unfolding ai_get new_ai scale_get new_scale analog_get new_analog new_limits own_default zero_of row_of own_row ai_row scale_row analog_row
new_values Smoo = refl
new_values _ = refl

new_links : (f : OwnField) → is_link Ai-type (Own f) ≡ true → source_link new_ai.source.input f ≡ Some no_link
unfolding new_ai new_source row_of own_row ai_row scale_row analog_row
new_links Inp is = refl
new_links _ is = cc

-- A new record has the defaults.
pub ai_new : IsNewBody ai new_ai
ai_new = record { values = new_values; links = new_links }
