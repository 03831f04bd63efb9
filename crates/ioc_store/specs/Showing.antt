-- A record that has processed shows its alarms, and notes which values its monitors are sent. Application Developer's Guide,
-- "Record Processing"; Record Reference Manual, "Monitor Parameters".
use Rattle.std.proofs.Common.{◌≡◌, ℕ, refl, ap, ◌∙◌}
use Rattle.ioc_alarms.specs.Alarms.{changes}
use Rattle.ioc_dbcommon.specs.Steps.{shown}
use Rattle.ioc_record.specs.RecordRules.{RecordRules}
use Rattle.ioc_record.specs.Laws.{IsLawful}
use Rattle.ioc_store.specs.World.{World, SameLinks, at, common_at, put}
use Rattle.ioc_store.specs.Worlds.{at-put_same}

module _ {R : Type 0} (k : RecordRules R) where
  -- The record with its alarms shown, at this time stamp, and with the values noted that its monitors are sent.
  abbrev pub shown_record : ℕ → R → R
  shown_record moment r = k.posted (k.with_common r (shown moment (k.common r))) (changes (k.common r).condition.alarms)

  -- Record `s` shows its alarms, with the time stamp of the event.
  abbrev pub showing : World R → ℕ → World R
  showing w s = put w s (shown_record w.moment (at k w s))

-- ---- Laws

module _ {R : Type 0} (k : RecordRules R) (lawful : IsLawful k) where
  pub shown-common : (moment : ℕ) (r : R) → k.common (shown_record k moment r) ≡ shown moment (k.common r)
  shown-common moment r = lawful.posted_common _ _ ∙ lawful.common_set r _

  pub links-shown : (moment : ℕ) (r : R) → SameLinks k r (shown_record k moment r)
  links-shown moment r = record {
    record_type = lawful.posted_type _ _ ∙ lawful.type_set r _;
    fields = lawful.posted_link_fields _ _ ∙ lawful.link_fields_set r _;
    links = lawful.posted_links _ _ ∙ lawful.links_set r _ refl refl;
  }

  pub showing-common : (w : World R) (s : ℕ) → common_at k (showing k w s) s ≡ shown w.moment (common_at k w s)
  showing-common w s = ap k.common (at-put_same k w s _) ∙ shown-common w.moment (at k w s)
