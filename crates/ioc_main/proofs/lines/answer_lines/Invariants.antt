use Rattle.std.proofs.Common.{◌≡◌, ◌≤◌, ◌+◌, ℕ, List, [], ◌++◌, length}
use Rattle.ioc_main.specs.Coming.{still, to_come}
use Rattle.ioc_main.specs.Written.{Writes}
use Rattle.ioc_main.proofs.lines.answer_lines.Given as goal

abbrev pub invariant-loop-rest : goal.invariant-loop-rest
invariant-loop-rest g l =
    (length l.said.replies + 256 ≤ 4096) × (l.said.more.items ≡ []) × (g.S.Session.is_determined l.initial.session → g.S.Session.is_determined l.session)
    × (g.S.Session.is_determined l.initial.session
    → (tail : List ℕ) → Writes (g.W.Write.contents l.initial.out) (to_come (still l.initial.said.replies (g.S.Session.transcript l.initial.session)) l.initial.line (l.piece ++ tail)) (g.W.Write.contents l.out) (to_come (still l.said.replies (g.S.Session.transcript l.session)) l.line (l.rest ++ tail)))

abbrev pub decreases-loop-rest : goal.decreases-loop-rest
decreases-loop-rest g l = length l.rest
