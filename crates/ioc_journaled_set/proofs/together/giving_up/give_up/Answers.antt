use Rattle.std.proofs.Common.{List, get_or, sym, ap, subst, ◌∙◌, arith}
use Rattle.atomic_table.specs.Seated.{TableId}
use Rattle.crossbeam_utils.specs.Seq.{cell_view}
use Rattle.ioc_device.specs.declared.Answer.{Answer}
use Rattle.ioc_events.specs.declared.event.Event.TheVariants.{Cancel}
use Rattle.ioc_events.specs.declared.event.Call.TheVariants as calling
use Rattle.ioc_events.specs.declared.reply.Reply.TheVariants.{Plain}
use Rattle.ioc_journal.specs.declared.entry.Note.{Note}
use Rattle.ioc_journal.specs.declared.cell.View.{View}
use Rattle.ioc_journal.specs.Key.{Has as Has_key}
use Rattle.ioc_journal.specs.Line.{holder}
use Rattle.ioc_journal.specs.Legal.{notifications_key}
use Rattle.ioc_journaled_set.specs.Sent.{MayCountNothing}
use Rattle.ioc_journaled_set.proofs.Sending.{sends_none, counts_none}
use Rattle.ioc_journal.specs.Covering.{Cover}
use Rattle.ioc_journal.specs.Account.{MayFollow, HasCalled, Added, puts_key}
use Rattle.ioc_set.specs.SetState.{now_of, nothing_held}
use Rattle.ioc_journaled_set.specs.Passes.{IsDealt}
use Rattle.ioc_journaled_set.proofs.Following.{may_follow, counts_nothing, puts_owned, covered_then, share_none_then, held_then, nobody_then, none_ended_then, others_then, none_began_then}
use Rattle.ioc_journaled_set.proofs.together.giving_up.give_up.Goals as goal

pub merge_all-requires-clause-passes : goal.merge_all-requires-clause-passes
merge_all-requires-clause-passes g c = λ i d lt. (c.requires.held i nothing_held d (let same = c.requires.beside in omega (arith, lt, same))).pass

pub append-appended-requires-clause-follows : goal.append-appended-requires-clause-follows
append-appended-requires-clause-follows g c =
    subst (λ (a : List Answer). MayFollow g.K.RecordKind.rules g.B.JournalName.base (cell_view c.merge_all.new.keeper).seen (cell_view c.merge_all.new.keeper).owns (record { moment = c.args.moment; call = calling.Event (Cancel c.args.number) Plain; answers = a })) (sym (c.new-2.ensures ∙ c.new.ensures.items))
    (may_follow g.K.RecordKind.rules g.B.JournalName.base c.holding_lasts.ensures c.live_lasts.ensures c.cancelled_sets_are_held.ensures g.B.CellName.table c.args.number c.args.moment c.args.sets.now c.args.passes.now (cell_view c.args.keeper.now) (cell_view c.merge_all.new.keeper)
    c.requires.keeper.1 c.requires.held c.requires.have c.all_sound.ensures c.requires.beside c.merge_all.ensures.merged)

pub append-appended-requires-clause-sent : goal.append-appended-requires-clause-sent
append-appended-requires-clause-sent g c =
    let nothing = subst (λ (a : List Answer). MayCountNothing g.K.RecordKind.rules g.B.JournalName.base (cell_view c.merge_all.new.keeper).seen (cell_view c.merge_all.new.keeper).owns (record { moment = c.args.moment; call = calling.Event (Cancel c.args.number) Plain; answers = a })) (sym (c.new-2.ensures ∙ c.new.ensures.items))
    (counts_nothing g.K.RecordKind.rules g.B.JournalName.base c.holding_lasts.ensures c.live_lasts.ensures c.cancelled_sets_are_held.ensures g.B.CellName.table c.args.number c.args.moment c.args.sets.now c.args.passes.now (cell_view c.args.keeper.now) (cell_view c.merge_all.new.keeper)
    c.requires.keeper.1 c.requires.held c.requires.have c.all_sound.ensures c.requires.beside c.merge_all.ensures.merged) in
    sends_none g.K.RecordKind.rules g.B.JournalName.base (cell_view c.merge_all.new.keeper).seen (cell_view c.merge_all.new.keeper).owns _ nothing _ c.none.ensures.sent

pub append-appended-requires-clause-counts : goal.append-appended-requires-clause-counts
append-appended-requires-clause-counts g c =
    let nothing = subst (λ (a : List Answer). MayCountNothing g.K.RecordKind.rules g.B.JournalName.base (cell_view c.merge_all.new.keeper).seen (cell_view c.merge_all.new.keeper).owns (record { moment = c.args.moment; call = calling.Event (Cancel c.args.number) Plain; answers = a })) (sym (c.new-2.ensures ∙ c.new.ensures.items))
    (counts_nothing g.K.RecordKind.rules g.B.JournalName.base c.holding_lasts.ensures c.live_lasts.ensures c.cancelled_sets_are_held.ensures g.B.CellName.table c.args.number c.args.moment c.args.sets.now c.args.passes.now (cell_view c.args.keeper.now) (cell_view c.merge_all.new.keeper)
    c.requires.keeper.1 c.requires.held c.requires.have c.all_sound.ensures c.requires.beside c.merge_all.ensures.merged) in
    counts_none g.K.RecordKind.rules g.B.JournalName.base (cell_view c.merge_all.new.keeper).seen (cell_view c.merge_all.new.keeper).owns _ nothing _ _ _ c.none.ensures.share

pub deal_all-requires-clause-there : goal.deal_all-requires-clause-there
deal_all-requires-clause-there g c = subst (λ (x : View). Has_key notifications_key x.owns) (sym c.append-appended.ensures.set.1)
    (puts_owned g.K.RecordKind.rules g.B.JournalName.base c.holding_lasts.ensures c.live_lasts.ensures c.cancelled_sets_are_held.ensures g.B.CellName.table c.args.number c.args.moment c.args.sets.now c.args.passes.now (cell_view c.args.keeper.now) (cell_view c.merge_all.new.keeper)
    c.requires.keeper.1 c.requires.held c.requires.have c.all_sound.ensures c.requires.beside c.merge_all.ensures.merged)

pub deal_all-requires-clause-covers : goal.deal_all-requires-clause-covers
deal_all-requires-clause-covers g c = λ i d lt. subst (λ (x : View). Cover x.owns (now_of (get_or c.cancel_all.new.sets i d))) (sym c.append-appended.ensures.set.1)
    (covered_then g.K.RecordKind.rules g.B.JournalName.base c.holding_lasts.ensures c.live_lasts.ensures c.cancelled_sets_are_held.ensures g.B.CellName.table c.args.number c.args.moment c.args.sets.now c.args.passes.now (cell_view c.args.keeper.now) (cell_view c.merge_all.new.keeper)
    c.requires.keeper.1 c.requires.held c.requires.have c.all_sound.ensures c.requires.beside c.merge_all.ensures.merged
    c.cancel_all.new.sets c.in_default.ensures.ok c.cancel_all.auto.sets i d lt)

pub deal_all-requires-clause-apart : goal.deal_all-requires-clause-apart
deal_all-requires-clause-apart g c =
    share_none_then g.K.RecordKind.rules g.B.JournalName.base c.holding_lasts.ensures c.live_lasts.ensures c.cancelled_sets_are_held.ensures g.B.CellName.table c.args.number c.args.moment c.args.sets.now c.args.passes.now (cell_view c.args.keeper.now) (cell_view c.merge_all.new.keeper)
    c.requires.keeper.1 c.requires.held c.requires.have c.all_sound.ensures c.requires.beside c.merge_all.ensures.merged
    c.cancel_all.new.sets c.in_default.ensures.ok c.cancel_all.auto.sets

pub returns-clause-gave_up : goal.returns-clause-gave_up
returns-clause-gave_up g c =
    let k = g.K.RecordKind.rules in
    let base = g.B.JournalName.base in
    let after = c.cancel_all.new.sets in
    let longer = c.append-appended.new.desk.seen in
    let seen = ap (λ (v : View). v.seen) c.append-appended.ensures.set.1 in
    let table = c.append-appended.ensures.set.0 ∙ c.merge_all.ensures.keeper.same in
    let none = c.new-2.ensures ∙ c.new.ensures.items in
    let log = c.append-appended.ensures.added.0 in
    let added = subst (λ (a : List Answer). Added k base (cell_view c.merge_all.new.keeper).seen (cell_view c.merge_all.new.keeper).owns (record { moment = c.args.moment; call = calling.Event (Cancel c.args.number) Plain; answers = a }) log longer) none c.append-appended.ensures.added.1 in
    record {
      gives_up = c.in_default.ensures.ok;
      call = subst (λ (a : List Answer). HasCalled k base c.args.desk.now (record { moment = c.args.moment; call = calling.Event (Cancel c.args.number) Plain; answers = a }) c.append-appended.new.desk) none c.append-appended.ensures.call;
      dealt = λ i d e lt. subst (λ (t : TableId). IsDealt t longer (get_or after i d) (get_or c.deal_all.new.passes i e)) table
          (subst (λ (l : List Note). IsDealt c.append-appended.new.set.table_id l (get_or after i d) (get_or c.deal_all.new.passes i e)) seen (c.deal_all.ensures.dealt i d e lt));
      holds = λ i d lt. held_then g.K.RecordKind.rules g.B.JournalName.base c.holding_lasts.ensures c.live_lasts.ensures c.cancelled_sets_are_held.ensures g.B.CellName.table c.args.number c.args.moment c.args.sets.now c.args.passes.now (cell_view c.args.keeper.now) (cell_view c.merge_all.new.keeper)
          c.requires.keeper.1 c.requires.held c.requires.have c.all_sound.ensures c.requires.beside c.merge_all.ensures.merged
          log longer added after c.in_default.ensures.ok i d (let same = c.cancel_all.auto.sets in omega (arith, lt, same));
      keeps = c.deal_all.ensures.keeper.1 ∙ ap (λ (l : List Note). holder l puts_key) seen;
      nobody = nobody_then g.K.RecordKind.rules g.B.JournalName.base c.holding_lasts.ensures c.live_lasts.ensures c.cancelled_sets_are_held.ensures g.B.CellName.table c.args.number c.args.moment c.args.sets.now c.args.passes.now (cell_view c.args.keeper.now) (cell_view c.merge_all.new.keeper)
          c.requires.keeper.1 c.requires.held c.requires.have c.all_sound.ensures c.requires.beside c.merge_all.ensures.merged
          log longer added;
      none_ended = none_ended_then g.K.RecordKind.rules g.B.JournalName.base c.holding_lasts.ensures c.live_lasts.ensures c.cancelled_sets_are_held.ensures g.B.CellName.table c.args.number c.args.moment c.args.sets.now c.args.passes.now (cell_view c.args.keeper.now) (cell_view c.merge_all.new.keeper)
          c.requires.keeper.1 c.requires.held c.requires.have c.all_sound.ensures c.requires.beside c.merge_all.ensures.merged
          log longer added;
      others = others_then g.K.RecordKind.rules g.B.JournalName.base c.holding_lasts.ensures c.live_lasts.ensures c.cancelled_sets_are_held.ensures g.B.CellName.table c.args.number c.args.moment c.args.sets.now c.args.passes.now (cell_view c.args.keeper.now) (cell_view c.merge_all.new.keeper)
          c.requires.keeper.1 c.requires.held c.requires.have c.all_sound.ensures c.requires.beside c.merge_all.ensures.merged
          log longer added;
      none_began = none_began_then g.K.RecordKind.rules g.B.JournalName.base c.holding_lasts.ensures c.live_lasts.ensures c.cancelled_sets_are_held.ensures g.B.CellName.table c.args.number c.args.moment c.args.sets.now c.args.passes.now (cell_view c.args.keeper.now) (cell_view c.merge_all.new.keeper)
          c.requires.keeper.1 c.requires.held c.requires.have c.all_sound.ensures c.requires.beside c.merge_all.ensures.merged
          log longer added c.append-appended.ensures.call.legal.puts_keyed;
    }
