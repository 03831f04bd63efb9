-- What a record's own request does before and after the body: the value of SDIS goes into DISA, and
-- the record becomes idle again.
--
-- Record Reference Manual, "Fields Common to All Record Types", SDIS and RPRO.
use Rattle.std.specs.Prelude.{ℕ, if◌then◌else◌}
use Rattle.ioc_dbcommon.specs.declared.body.Got.{Got}
use Rattle.ioc_dbcommon.specs.declared.body.Got.TheVariants.{Value as Got-value, Nothing as Got-nothing, Fault as Got-fault}
use Rattle.ioc_record.specs.RecordRules.{RecordRules}
use Rattle.ioc_store.specs.declared.outbox.OutboxItem.TheVariants.{Once}
use Rattle.ioc_store.specs.World.{World, common_at, changed, sent}
use Rattle.ioc_store.specs.Marks.{at_rest, with_disable_input}
use Rattle.ioc_store.specs.Notifying.{notified}

module _ {R : Type 0} (k : RecordRules R) where
  -- The value of SDIS of record `s`, if there is one, goes into DISA.
  unfoldable pub disable_came : World R → ℕ → Got → World R
  disable_came w s (Got-value v) = changed k w s (with_disable_input v)
  disable_came w s Got-nothing = w
  disable_came w s Got-fault = w

  -- Record `s` is done: it leaves its put with notification and is idle. If it was marked for
  -- reprocessing, it is requested once more after the event.
  unfoldable pub rested : World R → ℕ → World R
  rested w s =
      let idle_again = changed k (notified k w s) s at_rest in
      if (common_at k w s).reprocess then sent (Once s) idle_again else idle_again
