use Rattle.std.proofs.Common.{◌≡◌, ◌-◌}
use Rattle.ioc_values.specs.declared.error.BadDbKind.TheVariants as kinds
use Rattle.ioc_dbparse.specs.Statements.{at, repeated, statement_at, statements_at}
use Rattle.ioc_dbparse.proofs.statements.statements_at.Given as goal

abbrev pub invariant-loop : goal.invariant-loop
invariant-loop g l =
    repeated (statement_at g.B.Builder.rules l.turns l.last) (at l.last kinds.OpenBody) (l.turns - l.counter) l.builder l.tokens ≡ statements_at g.B.Builder.rules l.turns l.last l.initial.builder l.initial.tokens
