use Rattle.std.proofs.Common.{◌≡◌, ◌-◌, length}
use Rattle.ioc_dblex.specs.Lexing.{behind_begun}
use Rattle.ioc_dblex.proofs.expansion.behind_begun.Given as goal

abbrev pub invariant-loop : goal.invariant-loop
invariant-loop l = behind_begun (length l.text - l.counter) l.past l.rest ≡ behind_begun (length l.text) l.past l.text
