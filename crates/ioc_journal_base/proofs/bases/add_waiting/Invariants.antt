use Rattle.std.proofs.Common.{◌≡◌, ◌++◌, take}
use Rattle.ioc_journal_base.specs.Whole.{waiting_items}
use Rattle.ioc_journal_base.proofs.bases.add_waiting.Given as goal

abbrev pub invariant-loop-put : goal.invariant-loop-put
invariant-loop-put l = l.items.items ≡ l.fn.items.items ++ waiting_items (take l.put-index l.waiting)
