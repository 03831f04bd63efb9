use Rattle.std.proofs.Common.{◌≡◌, drop}
use Rattle.std.specs.Prelude.{slice_get}
use Rattle.ioc_notify.specs.Waits.{at_record}
use Rattle.ioc_notify.proofs.waiting_lists.WaitingLists.first.Given as goal

-- None of those so far waits for the record.
abbrev pub invariant-loop-waiting : goal.invariant-loop-waiting
invariant-loop-waiting l = slice_get (at_record l.target l.self.waiting) 0 ≡ slice_get (at_record l.target (drop l.waiting-index l.waiting-items)) 0
