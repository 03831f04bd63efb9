-- The numbers of completions. Application Developer's Guide, "Asynchronous Device Support".
use Rattle.std.specs.Prelude.{◌≡◌, ◌≢◌, ◌≤◌, ℕ, ◌+◌, Some, List, [], ◌∷◌}
use Rattle.ioc_dbcommon.specs.declared.common.Common.{Common}
use Rattle.ioc_dbcommon.specs.Steps.{waiting, answered}

-- A record begins to wait for its device, or its device has answered.
pub data Wait : Type 0 where
  Begins : Wait
  Ends : Wait

-- The fields after these, in order.
abbrev pub after : Common → List Wait → Common
after c [] = c
after c (Begins ∷ later) = after (waiting c) later
after c (Ends ∷ later) = after (answered c) later

-- Holds if an assigned number that was awaited and answered isn't awaited again.
abbrev pub IsAwaitedOnce : Common → ℕ → List Wait → Type 0
IsAwaitedOnce c number later = number ≤ c.last_pending → c.pending ≡ Some number → (after (answered c) later).pending ≢ Some number

-- Holds if a record that begins to wait awaits the next number.
abbrev pub IsNextNumber : Common → Type 0
IsNextNumber c = (waiting c).pending ≡ Some (c.last_pending + 1)
