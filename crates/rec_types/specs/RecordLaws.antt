-- The bodies of all types keep the laws, since those of each type do. The last line covers every
-- type except the first.
use Rattle.std.proofs.Common.{ap}
use Rattle.std.specs.Prelude.{◌≡◌, ◌≢◌, ◌⊎◌, ℕ, Bool, List, true, Some, is_some, refl}
use Rattle.ioc_values.specs.declared.value.Value.{Value}
use Rattle.ioc_values.specs.Shapes.{IsValueOf}
use Rattle.ioc_fields.specs.declared.field_no.FieldNo.TheVariants.{Own}
use Rattle.ioc_fields.specs.declared.field_no.OwnField.{OwnField}
use Rattle.ioc_fields.specs.Table.{kind_of, can_put, is_link}
use Rattle.ioc_fields.specs.Types.{reads_device}
use Rattle.ioc_dbcommon.specs.declared.condition.Condition.{Condition}
use Rattle.ioc_dbcommon.specs.declared.link_field.LinkField.{LinkField}
use Rattle.ioc_dbcommon.specs.declared.link_field.LinkUse.TheVariants.{Standing}
use Rattle.ioc_dbcommon.specs.declared.link_field.StandingLink.{StandingLink}
use Rattle.ioc_dbcommon.specs.declared.body.Want.TheVariants.{ReadLink, ReadInputs}
use Rattle.ioc_dbcommon.specs.declared.body.Got.{Got}
use Rattle.ioc_dbcommon.specs.declared.body.Output.TheVariants.{WriteLink, WriteDevice}
use Rattle.ioc_record.specs.Values.{sort_in}
use Rattle.ioc_record.specs.BodyRules.{BodyRules}
use Rattle.ioc_record.specs.Laws.{IsLawful}
use Rattle.ioc_record.specs.WholeLaws.{whole_lawful}
use Rattle.ioc_record.specs.BodyLaws.{IsLawfulBody, TypeStays, LeadsTo}
use Rattle.rec_numeric.specs.Types.{longin, longin_lawful, int64in_lawful, longout_lawful, int64out_lawful}
use Rattle.rec_state.specs.Types.{bi_lawful, mbbi_lawful, bo_lawful, mbbo_lawful}
use Rattle.rec_text.specs.StringinLaws.{stringin_lawful}
use Rattle.rec_text.specs.StringoutLaws.{stringout_lawful}
use Rattle.rec_flow.specs.FanoutLaws.{fanout_lawful}
use Rattle.rec_flow.specs.EventLaws.{event_lawful}
use Rattle.rec_analog.specs.InputLaws.{ai_lawful}
use Rattle.rec_analog.specs.OutputLaws.{ao_lawful}
use Rattle.rec_calc.specs.CalcLaws.{calc_lawful}
use Rattle.rec_calc.specs.CalcoutLaws.{calcout_lawful}
use Rattle.rec_sel.specs.SelLaws.{sel_lawful}
use Rattle.rec_types.specs.declared.record.Body.{Body}
use Rattle.rec_types.specs.declared.record.Body.TheVariants.{Longin, Longout, Int64in, Int64out, Bi, Bo, Mbbi, Mbbo, Stringin, Stringout, Fanout, Event, Ai, Ao, Calc, Calcout, Sel}
use Rattle.rec_types.specs.Record.{typed, held, record_type, link, with_link, with_calculation, states, get, stored, begin, taken, output, after_posts, loaded, body_rules, record_rules}

-- The bodies of each type keep the laws.
lawful : (b : Body) → IsLawfulBody (typed b).rules
lawful (Longin b) = longin_lawful
lawful (Longout b) = longout_lawful
lawful (Int64in b) = int64in_lawful
lawful (Int64out b) = int64out_lawful
lawful (Bi b) = bi_lawful
lawful (Bo b) = bo_lawful
lawful (Mbbi b) = mbbi_lawful
lawful (Mbbo b) = mbbo_lawful
lawful (Stringin b) = stringin_lawful
lawful (Stringout b) = stringout_lawful
lawful (Fanout b) = fanout_lawful
lawful (Event b) = event_lawful
lawful (Ai b) = ai_lawful
lawful (Ao b) = ao_lawful
lawful (Calc b) = calc_lawful
lawful (Calcout b) = calcout_lawful
lawful (Sel b) = sel_lawful

link_there-law : (b : Body) (f : OwnField) → is_some (link b f) ≡ is_link (record_type b) (Own f)
link_there-law (Longin b) f = longin_lawful.link_there b f
link_there-law b f = (lawful b).link_there (typed b).it f

taken_type-law : (b : Body) (c : Condition) (got : Got) → record_type (taken b c got).body ≡ record_type b
taken_type-law (Longin b) c got = longin_lawful.type_stays.taken (held (Longin b) c) got
taken_type-law b c got = (lawful b).type_stays.taken (held b c) got

taken_links-law : (b : Body) (c : Condition) (got : Got) → link (taken b c got).body ≡ link b
taken_links-law (Longin b) c got = longin_lawful.taken_links (held (Longin b) c) got
taken_links-law b c got = (lawful b).taken_links (held b c) got

stored_type-law : (b : Body) (c : Condition) (f : OwnField) (v : Value) → record_type (stored b c f v).body ≡ record_type b
stored_type-law (Longin b) c f v = longin_lawful.type_stays.stored (held (Longin b) c) f v
stored_type-law b c f v = (lawful b).type_stays.stored (held b c) f v

stored_links-law : (b : Body) (c : Condition) (f : OwnField) (v : Value) → link (stored b c f v).body ≡ link b
stored_links-law (Longin b) c f v = longin_lawful.stored_links (held (Longin b) c) f v
stored_links-law b c f v = (lawful b).stored_links (held b c) f v

set_here-law : (b : Body) (f : OwnField) (l : LinkField) → is_some (link b f) ≡ true → link (with_link b f l) f ≡ Some l
set_here-law (Longin b) f l is = longin_lawful.set_here b f l is
set_here-law b f l is = (lawful b).set_here (typed b).it f l is

set_there-law : (b : Body) (f g : OwnField) (l : LinkField) → (link (with_link b f l) g ≡ Some l) ⊎ (link (with_link b f l) g ≡ link b g)
set_there-law (Longin b) f g l = longin_lawful.set_there b f g l
set_there-law b f g l = (lawful b).set_there (typed b).it f g l

set_others-law : (b : Body) (f g : OwnField) (l : LinkField) → g ≢ f → link (with_link b f l) g ≡ link b g
set_others-law (Longin b) f g l apart = longin_lawful.set_others b f g l apart
set_others-law b f g l apart = (lawful b).set_others (typed b).it f g l apart

set_twice-law : (b : Body) (f : OwnField) (l m : LinkField) → with_link (with_link b f l) f m ≡ with_link b f m
set_twice-law (Longin b) f l m = ap Longin (longin_lawful.set_twice b f l m)
set_twice-law b f l m = ap (typed b).back ((lawful b).set_twice (typed b).it f l m)

set_type-law : (b : Body) (f : OwnField) (l : LinkField) → record_type (with_link b f l) ≡ record_type b
set_type-law (Longin b) f l = longin_lawful.type_stays.set b f l
set_type-law b f l = (lawful b).type_stays.set (typed b).it f l

set_values-law : (b : Body) (f : OwnField) (l : LinkField) (g : OwnField) → get (with_link b f l) g ≡ get b g
set_values-law (Longin b) f l g = longin_lawful.set_values b f l g
set_values-law b f l g = (lawful b).set_values (typed b).it f l g

loaded_type-law : (b : Body) (c : Condition) → record_type (loaded b c).body ≡ record_type b
loaded_type-law (Longin b) c = longin_lawful.type_stays.loaded (held (Longin b) c)
loaded_type-law b c = (lawful b).type_stays.loaded (held b c)

loaded_links-law : (b : Body) (c : Condition) → link (loaded b c).body ≡ link b
loaded_links-law (Longin b) c = longin_lawful.loaded_links (held (Longin b) c)
loaded_links-law b c = (lawful b).loaded_links (held b c)

posted_type-law : (b : Body) (changed : Bool) → record_type (after_posts b changed) ≡ record_type b
posted_type-law (Longin b) changed = longin_lawful.type_stays.posted b changed
posted_type-law b changed = (lawful b).type_stays.posted (typed b).it changed

posted_links-law : (b : Body) (changed : Bool) → link (after_posts b changed) ≡ link b
posted_links-law (Longin b) changed = longin_lawful.posted_links b changed
posted_links-law b changed = (lawful b).posted_links (typed b).it changed

calculated_type-law : (b : Body) (f : OwnField) (c : List ℕ) → record_type (with_calculation b f c) ≡ record_type b
calculated_type-law (Longin b) f c = longin_lawful.type_stays.calculated b f c
calculated_type-law b f c = (lawful b).type_stays.calculated (typed b).it f c

calculated_links-law : (b : Body) (f : OwnField) (c : List ℕ) → link (with_calculation b f c) ≡ link b
calculated_links-law (Longin b) f c = longin_lawful.calculated_links b f c
calculated_links-law b f c = (lawful b).calculated_links (typed b).it f c

put_reads_back-law : (b : Body) (c : Condition) (f : OwnField) (v : Value) → can_put (record_type b) (Own f) ≡ true
    → IsValueOf (sort_in (states b) (kind_of (record_type b) (Own f))) v → get (stored b c f v).body f ≡ Some v
put_reads_back-law (Longin b) c f v can is = longin_lawful.put_reads_back (held (Longin b) c) f v can is
put_reads_back-law b c f v can is = (lawful b).put_reads_back (held b c) f v can is

-- A body that leads there by the rules of its type leads there by the rules of all types.
leads : {T : Type 0} (k : BodyRules T) (it : T) (b : Body) (t : StandingLink) → link b ≡ k.link it → LeadsTo k it t → LeadsTo body_rules b t
leads k it b t same to = record { field = to.field; link = to.link; is = rw same to.is; leads = to.leads }

begin_named-law : (b : Body) (t : StandingLink) → begin b ≡ ReadLink (Standing t) → LeadsTo body_rules b t
begin_named-law (Longin b) t is = leads longin b (Longin b) t refl (longin_lawful.begin_named b t is)
begin_named-law b t is = leads (typed b).rules (typed b).it b t refl ((lawful b).begin_named (typed b).it t is)

choice_named-law : (b : Body) (t : StandingLink) → begin b ≡ ReadInputs (Standing t) → LeadsTo body_rules b t
choice_named-law (Longin b) t is = leads longin b (Longin b) t refl (longin_lawful.choice_named b t is)
choice_named-law b t is = leads (typed b).rules (typed b).it b t refl ((lawful b).choice_named (typed b).it t is)

output_named-law : (b : Body) (c : Condition) (got : Got) (t : StandingLink) (v : Value) → output b c got ≡ WriteLink (Standing t) v → LeadsTo body_rules b t
output_named-law (Longin b) c got t v is = leads longin b (Longin b) t refl (longin_lawful.output_named (held (Longin b) c) got t v is)
output_named-law b c got t v is = leads (typed b).rules (typed b).it b t refl ((lawful b).output_named (held b c) got t v is)

readers_write_none-law : (b : Body) (c : Condition) (got : Got) (v : Value) → reads_device (record_type b) ≡ true → output b c got ≢ WriteDevice v
readers_write_none-law (Longin b) c got v reads = longin_lawful.readers_write_none (held (Longin b) c) got v reads
readers_write_none-law b c got v reads = (lawful b).readers_write_none (held b c) got v reads

type_stays-law : TypeStays body_rules
type_stays-law = record {
  taken = λ h. taken_type-law h.body h.condition;
  stored = λ h. stored_type-law h.body h.condition;
  set = set_type-law;
  loaded = λ h. loaded_type-law h.body h.condition;
  posted = posted_type-law;
  calculated = calculated_type-law;
}

pub body_lawful : IsLawfulBody body_rules
body_lawful = record {
  missing_links = longin_lawful.missing_links;
  link_there = link_there-law;
  type_stays = type_stays-law;
  taken_links = λ h. taken_links-law h.body h.condition;
  stored_links = λ h. stored_links-law h.body h.condition;
  set_here = set_here-law;
  set_there = set_there-law;
  set_others = set_others-law;
  set_twice = set_twice-law;
  set_values = set_values-law;
  posted_links = posted_links-law;
  calculated_links = calculated_links-law;
  loaded_links = λ h. loaded_links-law h.body h.condition;
  put_reads_back = λ h. put_reads_back-law h.body h.condition;
  begin_named = begin_named-law;
  choice_named = choice_named-law;
  output_named = λ h. output_named-law h.body h.condition;
  readers_write_none = λ h. readers_write_none-law h.body h.condition;
}

-- Whole records of all types keep the laws.
pub record_lawful : IsLawful record_rules
record_lawful = whole_lawful body_rules body_lawful
