use Rattle.std.proofs.Common.{◌≡◌, ◌+◌, length}
use Rattle.ioc_journal.specs.Pieces.{ArePieces}
use Rattle.ioc_journal.proofs.entries.empty_all.Given as goal

-- The current piece is empty, and as many full pieces were emptied.
abbrev pub invariant-loop-done : goal.invariant-loop-done
invariant-loop-done l = record {
  pieces : ArePieces l.full l.spare l.current l.fn.given l.fn.limit;
  none : length l.current.items ≡ 0;
  fewer : length l.full.items + l.done ≡ length l.fn.full.items;
}
