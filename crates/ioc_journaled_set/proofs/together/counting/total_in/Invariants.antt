use Rattle.std.proofs.Common.{◌≡◌, take}
use Rattle.ioc_journaled_set.specs.GiveUpLaws.{holders_in_all}
use Rattle.ioc_journaled_set.proofs.together.counting.total_in.Given as goal

abbrev pub invariant-loop-set : goal.invariant-loop-set
invariant-loop-set g l = l.total ≡ holders_in_all l.number (take l.set-index l.sets)
