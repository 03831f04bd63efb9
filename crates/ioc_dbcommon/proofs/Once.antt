-- A number that was passed isn't awaited again.
use Rattle.std.proofs.Common.{◌≡◌, ◌≢◌, ℕ, ◌≤◌, ◌+◌, Some, List, [], ◌∷◌, arith}
use Rattle.ioc_dbcommon.specs.declared.common.Common.{Common}
use Rattle.ioc_dbcommon.specs.Steps.{waiting, answered}
use Rattle.ioc_dbcommon.specs.Waits.{Wait, Begins, Ends, after}

later_differs : (last n : ℕ) → n ≤ last → Some (last + 1) ≢ Some n
later_differs last n low e = let same : last + 1 ≡ n = cc in absurd (omega arith)

pub past_stays : (c : Common) (n : ℕ) (later : List Wait) → n ≤ c.last_pending → c.pending ≢ Some n → (after c later).pending ≢ Some n
past_stays c n [] low past = past
past_stays c n (Begins ∷ later) low past = past_stays (waiting c) n later (omega arith) (later_differs c.last_pending n low)
past_stays c n (Ends ∷ later) low past = past_stays (answered c) n later low (λ e. cc)
