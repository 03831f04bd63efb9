-- Bits of 32-bit numbers. Record Reference Manual, "Multi-Bit Binary Input Record", fields NOBT,
-- SHFT and MASK.
use Rattle.std.specs.Prelude.{ℕ, ◌*◌, ◌-◌, ◌/◌, ◌%◌, ◌^◌, ◌==◌, nat_lt, if◌then◌else◌}

-- A number whose lowest `count` bits are ones, at most all 32.
unfoldable pub lowest_bits : ℕ → ℕ
lowest_bits count = if nat_lt count 32 then 2 ^ count - 1 else 2 ^ 32 - 1

-- The number shifted left, truncated to 32 bits.
unfoldable pub shifted_left : ℕ → ℕ → ℕ
shifted_left number count = if nat_lt count 32 then number * 2 ^ count % 2 ^ 32 else 0

-- A 32-bit number shifted right.
unfoldable pub shifted_right : ℕ → ℕ → ℕ
shifted_right number count = if nat_lt count 32 then number / 2 ^ count else 0

-- The mask of `count` bits that begins at `place`, or all 32 bits if the count is 0.
unfoldable pub made_mask : ℕ → ℕ → ℕ
made_mask count place = if count == 0 then 2 ^ 32 - 1 else shifted_left (lowest_bits count) place
