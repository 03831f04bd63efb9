use Rattle.std.proofs.Common.{◌≡◌, replicate}
use Rattle.ioc_set_records.specs.Contents.{nothing}
use Rattle.ioc_set_records.proofs.loaded.empty_sets.Given as goal

abbrev pub invariant-loop-place : goal.invariant-loop-place
invariant-loop-place g l = l.sets.items ≡ replicate l.place nothing
