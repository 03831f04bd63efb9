use Rattle.std.proofs.Common.{◌≡◌}
use Rattle.std.specs.Prelude.{vec_capacity}
use Rattle.std.specs.List.{range_with_len}
use Rattle.ioc_set_records.proofs.marks.list_all.Given as goal

-- The places visited so far are listed.
abbrev pub invariant-loop-place : goal.invariant-loop-place
invariant-loop-place l = (l.changed.items ≡ range_with_len 0 l.place) × (vec_capacity l.changed ≡ vec_capacity l.fn.changed)
