-- The lines of a whole base: the records in the order of their numbers, the puts with notification that
-- wait, and how many calls each desk has made.
use Rattle.std.specs.Prelude.{ℕ, ◌+◌, List, [], ◌∷◌, ◌++◌, map}
use Rattle.ioc_notify.specs.declared.waiting_lists.Waiting.{Waiting as Waits}
use Rattle.ioc_journal_file.specs.declared.base.BaseItem.{BaseItem}
use Rattle.ioc_journal_file.specs.declared.base.BaseItem.TheVariants.{Waiting, Desk}
use Rattle.rec_types.specs.Record.{Record}
use Rattle.ioc_journal_base.specs.declared.bases.Base.{Base}
use Rattle.ioc_journal_base.specs.declared.bases.DeskCalls.{DeskCalls}
use Rattle.ioc_journal_base.specs.Items.{record_items}

-- The lines of these records, of which the first has this number.
abbrev pub records_items : ℕ → List Record → List BaseItem
records_items n [] = []
records_items n (r ∷ rs) = record_items n r ++ records_items (n + 1) rs

abbrev pub waiting_items : List Waits → List BaseItem
waiting_items waiting = map Waiting waiting

abbrev pub desk_items : List DeskCalls → List BaseItem
desk_items desks = map (λ (d : DeskCalls). Desk d.desk d.calls) desks

unfoldable pub base_items : Base → List BaseItem
base_items base = records_items 0 base.records.items ++ waiting_items base.waiting.items ++ desk_items base.desks.items
