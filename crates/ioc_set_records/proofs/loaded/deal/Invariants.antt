use Rattle.std.proofs.Common.{◌≡◌, ℕ, ◌<◌, drop, take, length}
use Rattle.std.specs.Prelude.{slice_index_or}
use Rattle.std.specs.Vec.Iter.{into_iter_items}
use Rattle.ioc_set_records.specs.Contents.{nothing}
use Rattle.ioc_set_records.specs.Dealing.{HasPart}
use Rattle.ioc_set_records.proofs.loaded.deal.Given as goal

-- Each set has the records that were assigned to it so far, and the others remain.
abbrev pub invariant-loop-number : goal.invariant-loop-number
invariant-loop-number g l =
    record {
      rest : into_iter_items l.left ≡ drop l.number l.fn.all.items;
      one_each : length l.by_part ≡ length l.fn.all.items;
      so_far : (p : ℕ) → p < length l.fn.all.items → HasPart (take l.number l.fn.all.items) l.parts p (slice_index_or l.by_part p nothing);
    }
