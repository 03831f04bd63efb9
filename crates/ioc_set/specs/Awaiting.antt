-- The number of records that await a completion.
--
-- Application Developer's Guide, "Device Support" (asynchronous devices: PACT stays set until the
-- device has answered). The count is this project's own design.
use Rattle.std.specs.Prelude.{ℕ, is_some, if◌then◌else◌}
use Rattle.std.specs.Ordering.{nat_cmp}
use Rattle.std.specs.FinMap.{FinMap, entries}
use Rattle.ioc_record.specs.RecordRules.{RecordRules}
use Rattle.ioc_store.specs.World.{total}
use Rattle.ioc_events.specs.declared.event.Event.{Event}
use Rattle.ioc_events.specs.declared.reply.Reply.{Reply}
use Rattle.ioc_events.specs.Step.{completes}

module _ {R : Type 0} (k : RecordRules R) where
  abbrev pub one_if_awaits : R → ℕ
  one_if_awaits r = if is_some (k.common r).pending then 1 else 0

  -- The number of these records that await a completion, since their device answers later.
  unfoldable pub awaited : FinMap nat_cmp R → ℕ
  awaited records = total one_if_awaits (entries records)

-- One if the event completes what a record awaited, and zero otherwise.
abbrev pub one_if_completes : Event → Reply → ℕ
one_if_completes event reply = if completes event reply then 1 else 0
