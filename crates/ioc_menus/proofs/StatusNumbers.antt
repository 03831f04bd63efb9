-- Each status stands at its number.
use Rattle.std.proofs.Common.{◌≡◌, ℕ, Some, arith}
use Rattle.std.specs.Prelude.{slice_get}
use Rattle.ioc_menus.specs.declared.status.Status.{Status}
use Rattle.ioc_menus.specs.Counting.{number_at}
use Rattle.ioc_menus.specs.Numbers.{statuses, status_number}

pub at_number : (s : Status) → slice_get statuses (status_number s) ≡ Some s
at_number s = grind arith

pub number_of : (n : ℕ) (s : Status) → slice_get statuses n ≡ Some s → status_number s ≡ n
number_of n s e = number_at status_number statuses n s (grind arith) e
