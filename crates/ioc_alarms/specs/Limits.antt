-- The alarms of limits. Record Reference Manual, "Alarm Parameters" of longin and longout.
use Rattle.std.specs.Prelude.{Bool, ◌&&◌, ◌||◌, if◌then◌else◌, Option, Some, None, List, [], ◌∷◌}
use Rattle.ioc_menus.specs.declared.status.Status.TheVariants.{Hihi, Lolo, High, Low}
use Rattle.ioc_alarms.specs.declared.alarms.Alarms.{Alarms}
use Rattle.ioc_alarms.specs.declared.limits.AlarmLimits.{AlarmLimits}
use Rattle.ioc_alarms.specs.declared.limits.ReachedLimit.{ReachedLimit}
use Rattle.ioc_alarms.specs.Alarms.{raised, takes_effect}
use Rattle.ioc_alarms.specs.Order.{LimitOrder}
use Rattle.ioc_alarms.specs.Severities.{is_alarm}

-- Whether the value is at or above the limit, or hasn't come back below it by the hysteresis since
-- its alarm: at a hysteresis, a value, LALM and the limit.
unfoldable pub is_high : {N : Type 0} → LimitOrder N → N → N → N → N → Bool
is_high o hysteresis value last limit = o.is_at_most limit value || (o.is_same last limit && o.keeps_high limit hysteresis value)

-- Whether the value is at or below the limit, or hasn't come back above it by the hysteresis since
-- its alarm.
unfoldable pub is_low : {N : Type 0} → LimitOrder N → N → N → N → N → Bool
is_low o hysteresis value last limit = o.is_at_most value limit || (o.is_same last limit && o.keeps_low limit hysteresis value)

-- The first limit whose test holds.
abbrev pub first_that_holds : {N : Type 0} → List (Bool × ReachedLimit N) → Option (ReachedLimit N)
first_that_holds [] = None
first_that_holds (c ∷ cs) = if c.0 then Some c.1 else first_that_holds cs

-- The limits in the order in which they are tested, each with its test.
abbrev pub limit_tests : {N : Type 0} → LimitOrder N → N → N → AlarmLimits N → List (Bool × ReachedLimit N)
limit_tests o value last l =
    (is_alarm l.hihi_severity && is_high o l.hysteresis value last l.hihi, record { status = Hihi; severity = l.hihi_severity; limit = l.hihi })
    ∷ (is_alarm l.lolo_severity && is_low o l.hysteresis value last l.lolo, record { status = Lolo; severity = l.lolo_severity; limit = l.lolo })
    ∷ (is_alarm l.high_severity && is_high o l.hysteresis value last l.high, record { status = High; severity = l.high_severity; limit = l.high })
    ∷ (is_alarm l.low_severity && is_low o l.hysteresis value last l.low, record { status = Low; severity = l.low_severity; limit = l.low })
    ∷ []

-- The first limit that is reached, if any.
unfoldable pub first_reached : {N : Type 0} → LimitOrder N → N → N → AlarmLimits N → Option (ReachedLimit N)
first_reached o value last l = first_that_holds (limit_tests o value last l)

-- The alarms with the alarm of a reached limit raised, and LALM: the limit if the alarm took
-- effect, else the old LALM. If no limit is reached, LALM becomes the value.
abbrev pub limited_by : {N : Type 0} → N → N → Option (ReachedLimit N) → Alarms → Alarms × N
limited_by value last None a = (a, value)
limited_by value last (Some r) a = (raised r.status r.severity a, if takes_effect r.severity a then r.limit else last)

-- The alarms and LALM after the limits are tested, at a value and LALM.
unfoldable pub limited : {N : Type 0} → LimitOrder N → N → N → AlarmLimits N → Alarms → Alarms × N
limited o value last l a = limited_by value last (first_reached o value last l) a
