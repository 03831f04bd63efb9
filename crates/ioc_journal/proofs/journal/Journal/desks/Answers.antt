use Rattle.std.proofs.Common.{◌≡◌, ◌≤◌, ℕ, [], subst}
use Rattle.crossbeam_utils.specs.Seq.{cell_view}
use Rattle.ioc_journal.specs.declared.entry.Note.{Note}
use Rattle.ioc_journal.specs.Account.{calls, calls_by}
use Rattle.ioc_journal.specs.Places.{JournalOf}
use Rattle.ioc_journal.proofs.Calls.{none_below}
use Rattle.ioc_journal.proofs.journal.Journal.desks.Goals as goal

pub returns-clause-none : goal.returns-clause-none
returns-clause-none g c =
    subst (λ (j : JournalOf Note). (number : ℕ) → j.desks ≤ number → calls_by number (calls j.filled) ≡ []) c.self.view_is
    (λ number le. none_below number (calls (cell_view c.self.inside.pass).seen) (c.self.invariant.new_desk number le))
