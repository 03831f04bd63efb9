use Rattle.std.proofs.Common.{◌≡◌, [], length}
use Rattle.ioc_main.specs.Coming.{still, ReadsSo}
use Rattle.ioc_main.proofs.lines.run_script.Given as goal

abbrev pub invariant-loop : goal.invariant-loop
invariant-loop g l =
    (length l.buffer ≡ 4096) × (l.said.replies ≡ []) × (l.said.more.items ≡ []) × (g.S.Session.is_determined l.initial.session → g.S.Session.is_determined l.session)
    × (g.S.Session.is_determined l.initial.session
    → ReadsSo (g.S.Session.transcript l.initial.session) (g.R.Read.remaining l.fn.script) (g.R.Read.remaining l.script) (g.W.Write.contents l.initial.out) (still l.said.replies (g.S.Session.transcript l.session)) l.line (g.W.Write.contents l.out))
