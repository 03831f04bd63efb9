use Rattle.std.proofs.Common.{rules, sym, ◌∙◌, subst}
use Rattle.ioc_journal.specs.declared.cell.View.{View}
use Rattle.crossbeam_utils.specs.Register.{Turns}
use Rattle.ioc_journal.specs.Line.{IsOneList}
use Rattle.ioc_journal.proofs.Moves.{merges_shows}
use Rattle.ioc_journal.proofs.pass.step_with.Goals as goal

pub join_pass-requires : goal.join_pass-requires
join_pass-requires g c = (search rules, (search rules, (c.requires.table, merges_shows _ _ _ _ c.requires.asks.0 c.requires.asks.1)))

pub step-requires-clause-table : goal.step-requires-clause-table
step-requires-clause-table g c = c.join_pass.ensures.0.0 ∙ c.requires.table.0

pub step-requires-clause-rule : goal.step-requires-clause-rule
step-requires-clause-rule g c = subst (λ (v : View). Turns IsOneList c.join_pass.new.pass.id v (λ x. x) g.O.Outcome.then) (sym c.join_pass.ensures.1) (c.requires.rule c.join_pass.new.pass.id)
