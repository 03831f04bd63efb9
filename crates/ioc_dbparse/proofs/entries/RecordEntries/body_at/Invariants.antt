use Rattle.std.proofs.Common.{◌≡◌, ◌-◌}
use Rattle.ioc_dbparse.specs.Statements.{body_at}
use Rattle.ioc_dbparse.proofs.entries.RecordEntries.body_at.Given as goal

abbrev pub invariant-loop : goal.invariant-loop
invariant-loop g l = body_at g.B.Builder.rules (l.turns - l.counter) l.self.last l.self.number l.builder l.tokens ≡ body_at g.B.Builder.rules l.turns l.self.last l.self.number l.initial.builder l.initial.tokens
