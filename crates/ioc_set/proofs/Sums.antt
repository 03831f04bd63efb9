-- The counts of two tallies together.
use Rattle.std.proofs.Common.{◌≡◌, ℕ, ◌+◌, ◌-◌, ◌^◌, ◌<◌, ◌≤◌, ◌⊎◌, inl, inr, arith}
use Rattle.std.proofs.lemmas.Bool.{cases_lt}
use Rattle.ioc_ledger.specs.declared.tally.Tally.{Tally}
use Rattle.ioc_ledger.specs.Requests.{filled, Fits, AddsUp}
use Rattle.ioc_ledger.specs.Requests.{added}

pub filled-fits : (n a : ℕ) → filled n a < 2 ^ 64
filled-fits n a = omega arith

full : (n a : ℕ) → n ≡ 2 ^ 64 - 1 → filled n a ≡ 2 ^ 64 - 1
full n a is = omega (arith, is)

other_full : (n a : ℕ) → a ≡ 2 ^ 64 - 1 → filled n a ≡ 2 ^ 64 - 1
other_full n a is = omega (arith, is)

pub added_fits : (t u : Tally) → Fits (added t u)
added_fits t u = (filled-fits t.begun u.begun, filled-fits t.processed u.processed, filled-fits t.disabled u.disabled, filled-fits t.active u.active, filled-fits t.reprocess u.reprocess)

sums : (t u : Tally) → t.begun ≡ ((t.processed + t.disabled) + t.active) + t.reprocess → u.begun ≡ ((u.processed + u.disabled) + u.active) + u.reprocess
    → (t.begun + u.begun < 2 ^ 64) ⊎ (2 ^ 64 ≤ t.begun + u.begun) → AddsUp (added t u)
sums t u one two (inl few) = inr (omega (arith, one, two, few))
sums t u one two (inr many) = inl (omega (arith, many))

pub added_adds_up : (t u : Tally) → AddsUp t → AddsUp u → AddsUp (added t u)
added_adds_up t u (inl is) two = inl (full t.begun u.begun is)
added_adds_up t u (inr one) (inl is) = inl (other_full t.begun u.begun is)
added_adds_up t u (inr one) (inr two) = sums t u one two (cases_lt (t.begun + u.begun) (2 ^ 64))
