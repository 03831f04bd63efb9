use Rattle.std.proofs.Common.{◌≡◌, take}
use Rattle.ioc_journaled_set.proofs.shared_notifications.are_same.Given as goal

-- The lines so far are the same.
abbrev pub invariant-loop-i : goal.invariant-loop-i
invariant-loop-i l = take l.i l.before ≡ take l.i l.after
