use Rattle.std.proofs.Common.{◌≡◌, ◌+◌, ◌≤◌, ◌^◌, length, sum, true}
use Rattle.ioc_dblex.specs.Lines.{lines_of, is_plain}
use Rattle.ioc_dblex.specs.Texts.{parts_of, expansion, most_bytes}
use Rattle.ioc_dblex.proofs.Expanding.{after}
use Rattle.ioc_dblex.proofs.expansion.expand.Given as goal

abbrev pub invariant-loop-rest : goal.invariant-loop-rest
invariant-loop-rest l =
    (after (parts_of l.lengths.items l.bytes.items) (expansion l.macros l.room (lines_of l.rest)) ≡ expansion l.macros most_bytes (lines_of l.text)) × (sum l.lengths.items ≡ length l.bytes.items) × (length l.lengths.items + l.room ≤ 2 ^ 24) × (l.plain ≡ true → is_plain l.rest ≡ true)

abbrev pub decreases-loop-rest : goal.decreases-loop-rest
decreases-loop-rest l = length l.rest
