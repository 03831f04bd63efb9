use Rattle.std.proofs.Common.{length, arith, ap}
use Rattle.ioc_journal.specs.declared.entry.JournalEntry.{JournalEntry}
use Rattle.ioc_journal.specs.Places.{PlacesOf}
use Rattle.ioc_journal.proofs.Pieces.{length_items}
use Rattle.ioc_journal.proofs.entries.Entries.len.Goals as goal

pub overflow_mul-result : goal.overflow_mul-result
overflow_mul-result g c = omega (arith, length_items c.self.inside.full.items c.self.inside.current.items c.self.invariant.0.whole)

pub overflow_add-result : goal.overflow_add-result
overflow_add-result g c = omega (arith, length_items c.self.inside.full.items c.self.inside.current.items c.self.invariant.0.whole)

pub returns-clause-count : goal.returns-clause-count
returns-clause-count g c =
    omega (arith, length_items c.self.inside.full.items c.self.inside.current.items c.self.invariant.0.whole, ap (λ (p : PlacesOf JournalEntry). length p.filled) c.self.view_is)
