use Rattle.std.proofs.Common.{List, ap, ◌∙◌, subst}
use Rattle.ioc_notify.specs.Living.{is_live}
use Rattle.ioc_store.specs.World.{begun_at}
use Rattle.ioc_journal.specs.declared.entry.Note.{Note}
use Rattle.ioc_journal.specs.Legal.{map_of}
use Rattle.ioc_journaled_set.specs.Puts.{PutsView, AreCounted}
use Rattle.ioc_journaled_set.proofs.Counted.{counted_on}
use Rattle.ioc_journaled_set.proofs.Telling.{live_now, stale_comes}
use Rattle.ioc_journaled_set.proofs.shared_notifications.SharedNotifications.refuse_cancel.Goals as goal

pub keep_told-requires-clause-nothing : goal.keep_told-requires-clause-nothing
keep_told-requires-clause-nothing g c log sound go legal answers =
    let k = g.K.RecordKind.rules in
    let w = map_of k g.B.JournalName.base log in
    let counted = subst (λ (s : List Note). AreCounted k g.B.JournalName.base c.self.inside.table.live s) (ap (λ (v : PutsView). v.seen) c.self.view_is) c.self.invariant.counted in
    let now = live_now k c.lines_tell_holders.ensures.live c.lines_tell_holders.ensures.held c.self.inside.table.live w c.args.moment c.args.number c.is_table.ensures ((c.lists_leave_sound.ensures.after g.B.JournalName.base log sound).0 legal).counted
    (counted_on k c.live_lasts.ensures g.B.JournalName.base c.args.self.now.seen log c.self.inside.table.live counted go legal c.args.number) in
    stale_comes k answers (begun_at c.args.moment w) c.args.number (now ∙ ap (λ (v : PutsView). is_live c.args.number v.live) c.self.view_is ∙ c.requires.none)
