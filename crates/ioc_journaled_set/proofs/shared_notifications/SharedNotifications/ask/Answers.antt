use Rattle.std.proofs.Common.{List, sym, ap, ◌∙◌, subst}
use Rattle.ioc_store.specs.World.{begun_at}
use Rattle.ioc_journal.specs.declared.entry.Note.{Note}
use Rattle.ioc_journal.specs.Legal.{map_of}
use Rattle.ioc_journaled_set.specs.Puts.{PutsView, AreCounted}
use Rattle.ioc_journaled_set.proofs.Counted.{counted_on}
use Rattle.ioc_journaled_set.proofs.Telling.{live_now, ask_comes}
use Rattle.ioc_journaled_set.proofs.shared_notifications.SharedNotifications.ask.Goals as goal

pub keep_told-receipt-requires-clause-nothing : goal.keep_told-receipt-requires-clause-nothing
keep_told-receipt-requires-clause-nothing g c log sound go legal answers =
    let k = g.K.RecordKind.rules in
    let w = map_of k g.B.JournalName.base log in
    let counted = subst (λ (s : List Note). AreCounted k g.B.JournalName.base c.self.inside.table.live s) (ap (λ (v : PutsView). v.seen) c.self.view_is) c.self.invariant.counted in
    let now = live_now k c.lines_tell_holders.ensures.live c.lines_tell_holders.ensures.held c.self.inside.table.live w c.args.moment c.args.number c.is_table.ensures ((c.lists_leave_sound.ensures.after g.B.JournalName.base log sound).0 legal).counted
    (counted_on k c.live_lasts.ensures g.B.JournalName.base c.args.self.now.seen log c.self.inside.table.live counted go legal c.args.number) in
    ask_comes k answers (begun_at c.args.moment w) c.args.number c.is_live-is_live.result (now ∙ sym c.is_live-is_live.ensures)
