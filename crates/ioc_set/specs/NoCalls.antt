-- Puts, with and without notification, that are no calls: the type of their record has no such field,
-- or the field can't be put.
--
-- Application Developer's Guide, "Runtime Database Access": dbNameToAddr, dbPutField. Leaving them
-- out of the history is this project's own design.
use Rattle.std.specs.Prelude.{Option, None}
use Rattle.std.specs.Result.{result_err}
use Rattle.ioc_values.specs.declared.error.IocError.{IocError}
use Rattle.ioc_record.specs.RecordRules.{RecordRules}
use Rattle.ioc_record.specs.Values.{kind_to_put}
use Rattle.ioc_store.specs.World.{World, at}
use Rattle.ioc_events.specs.declared.event.Event.{Event}
use Rattle.ioc_events.specs.declared.event.Event.TheVariants.{Put, Notify}

module _ {R : Type 0} (k : RecordRules R) where
  -- Why a put is no call, if it is none.
  unfoldable pub no_call : World R → Event → Option IocError
  no_call w (Put s field given) = result_err (kind_to_put (k.record_type (at k w s)) field)
  no_call w (Notify s number field given) = result_err (kind_to_put (k.record_type (at k w s)) field)
  no_call w _ = None
