-- A link change that isn't refused, as an event.
use Rattle.std.proofs.Common.{◌≡◌, ℕ, true, false, Option, None as Nothing_, refl, ap, ◌∙◌}
use Rattle.std.specs.Prelude.{is_some, unwrap_or}
use Rattle.ioc_fields.specs.declared.field_no.FieldNo.{FieldNo}
use Rattle.ioc_dbcommon.specs.declared.link_field.LinkField.{LinkField}
use Rattle.ioc_dbcommon.specs.Links.{use_of, named_by}
use Rattle.ioc_record.specs.RecordRules.{RecordRules}
use Rattle.ioc_record.specs.Values.{stops_put}
use Rattle.ioc_set_records.specs.Joined.{HasLink}
use Rattle.ioc_store.specs.World.{World, at, common_at}
use Rattle.ioc_events.specs.Step.{link_refusal, all_there}

module _ {R : Type 0} (k : RecordRules R) (w : World R) (s : ℕ) (field : FieldNo) (link : LinkField) where
  has_link : HasLink k w.records s field → is_some (k.link (at k w s) field) ≡ true
  unfolding at
  has_link has = ap (λ (o : Option R). is_some (k.link (unwrap_or o k.missing) field)) has.1 ∙ has.2

  pub not_refused : HasLink k w.records s field → stops_put (common_at k w s) field ≡ false → all_there w (named_by (use_of link)) ≡ true → link_refusal k w s field link ≡ Nothing_
  unfolding link_refusal
  not_refused has allowed within = rw (ap (λ (o : Option R). is_some o) has.1, within, has_link has, allowed) refl
