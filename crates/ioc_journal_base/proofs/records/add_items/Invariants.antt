use Rattle.std.proofs.Common.{◌≡◌, ◌++◌, take}
use Rattle.std.specs.List.{flat_map}
use Rattle.ioc_journal_base.specs.Items.{field_items}
use Rattle.ioc_journal_base.proofs.records.add_items.Given as goal

abbrev pub invariant-loop-field : goal.invariant-loop-field
invariant-loop-field l = l.items.items ≡ l.fn.items.items ++ flat_map (field_items l.number l.fresh l.record) (take l.field-index l.all)
