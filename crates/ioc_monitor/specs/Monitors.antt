-- Which monitors a change posts. Record Reference Manual, "Monitor Parameters": MDEL and ADEL; Application Developer's Guide, "Channel
-- Access Monitors": DBE_VALUE, DBE_LOG, DBE_ALARM.
use Rattle.std.specs.Prelude.{ℤ, pos, ◌+ℤ◌, ◌-ℤ◌, int_lt, Bool, ◌||◌}

-- Whether a value lies beyond a deadband around the value that was posted last. A deadband below 0 lets each value through.
unfoldable pub is_beyond : ℤ → ℤ → ℤ → Bool
is_beyond band last now = int_lt band (pos 0) || (int_lt (last +ℤ band) now || int_lt now (last -ℤ band))
