use Rattle.std.proofs.Common.{refl, length}
use Rattle.ioc_journal.specs.Legal.{map_of}
use Rattle.ioc_journaled_set.proofs.BaseOf.{is_base}
use Rattle.ioc_journaled_set.proofs.checkpoint.move_all_to.Goals as goal

pub returns-clause-base : goal.returns-clause-base
returns-clause-base g c =
    let k = g.K.RecordKind.rules in
    let base = g.B.JournalName.base in
    let records = c.args.base.now.records.items in
    let waiting = c.args.base.now.waiting.items in
    let filled = c.args.journal.now.filled in
    let kept = (c.lists_leave_sound.ensures.after base filled c.is_legal.ensures.sound).1 in
    is_base (map_of k base filled) c.args.sets.now (length records) c.requires.each c.move_all_on.ensures.are_in (λ n has. c.requires.known n (kept.only n has)) records c.requires.records refl waiting c.requires.waiting
