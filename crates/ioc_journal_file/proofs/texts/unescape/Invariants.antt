use Rattle.std.proofs.Common.{◌≡◌, ◌≤◌, ◌++◌, length, take}
use Rattle.ioc_journal_file.specs.declared.texts.Escape.TheVariants.{No}
use Rattle.ioc_journal_file.specs.Texts.{unescaped}
use Rattle.ioc_journal_file.proofs.texts.unescape.Given as goal

abbrev pub invariant-loop-rest : goal.invariant-loop-rest
invariant-loop-rest g l = (take g.row.CAP (l.text ++ unescaped l.state l.rest) ≡ take g.row.CAP (unescaped No l.word)) × (length l.text ≤ g.row.CAP)

abbrev pub decreases-loop-rest : goal.decreases-loop-rest
decreases-loop-rest g l = length l.rest
