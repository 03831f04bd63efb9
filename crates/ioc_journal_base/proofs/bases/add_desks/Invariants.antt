use Rattle.std.proofs.Common.{◌≡◌, ◌++◌, take}
use Rattle.ioc_journal_base.specs.Whole.{desk_items}
use Rattle.ioc_journal_base.proofs.bases.add_desks.Given as goal

abbrev pub invariant-loop-counted : goal.invariant-loop-counted
invariant-loop-counted l = l.items.items ≡ l.fn.items.items ++ desk_items (take l.counted-index l.desks)
