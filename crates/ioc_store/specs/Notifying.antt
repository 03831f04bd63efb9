-- Puts with notification, as they pass from record to record and end.
--
-- Application Developer's Guide, "Put with Notification" (dbPutNotify, dbNotifyAdd,
-- dbNotifyCompletion).
use Rattle.std.specs.Prelude.{ℕ, if◌then◌else◌, is_some, Option, Some}
use Rattle.std.specs.Prelude.{None as Nothing_}
use Rattle.ioc_dbcommon.specs.declared.common.Common.{Common}
use Rattle.ioc_dbcommon.specs.Steps.{with_notification}
use Rattle.ioc_record.specs.RecordRules.{RecordRules}
use Rattle.ioc_store.specs.World.{World, common_at, changed, taken_on, let_go}

-- The put with notification that a record takes over from the one that requests it: only an idle
-- record that is part of none takes over that of its source.
abbrev pub taken_over : Common → Common → Option ℕ
taken_over source target = if target.active then Nothing_ else if is_some target.notification then Nothing_ else source.notification

module _ {R : Type 0} (k : RecordRules R) where
  -- Record `t` becomes part of this put with notification, if there is one.
  unfoldable pub holding : World R → ℕ → Option ℕ → World R
  holding w t Nothing_ = w
  holding w t (Some number) = taken_on number (changed k w t (with_notification (Some number)))

  -- Record `s` requests record `t`, which takes over its put with notification.
  unfoldable pub passed_on : World R → ℕ → ℕ → World R
  passed_on w s t = holding w t (taken_over (common_at k w s) (common_at k w t))

  -- Record `s` is done with this put with notification and is no longer part of it.
  unfoldable pub notified_as : World R → ℕ → Option ℕ → World R
  notified_as w s Nothing_ = w
  notified_as w s (Some number) = let_go number (changed k w s (with_notification Nothing_))

  -- Record `s` is done with its put with notification, if it has one.
  unfoldable pub notified : World R → ℕ → World R
  notified w s = notified_as w s (common_at k w s).notification
