use Rattle.std.proofs.Common.{◌≡◌, drop}
use Rattle.ioc_journal_base.specs.Items.{chosen_part, with_fields}
use Rattle.ioc_journal_base.proofs.records.record_of.Given as goal

-- The fields that are left lead to the record of all.
abbrev pub invariant-loop-field : goal.invariant-loop-field
invariant-loop-field l = with_fields (chosen_part l.items l.fresh) (drop l.field-index l.all) l.record ≡ with_fields (chosen_part l.items l.fresh) l.all l.fresh
