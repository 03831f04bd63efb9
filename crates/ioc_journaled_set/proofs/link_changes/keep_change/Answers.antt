use Rattle.std.proofs.Common.{List, sym, ◌∙◌, subst, arith}
use Rattle.crossbeam_utils.specs.Seq.{cell_view}
use Rattle.ioc_device.specs.declared.Answer.{Answer}
use Rattle.ioc_journal.specs.Account.{BothMayFollow, HasCalled, AddedByBoth}
use Rattle.ioc_journal.specs.Counting.{BothMaySend, sent_counts}
use Rattle.ioc_journal.specs.declared.event_counts.SentCounts.{SentCounts}
use Rattle.ioc_journal.proofs.Numbers.{begins_none}
use Rattle.ioc_journaled_set.proofs.Sending.{links_count_none}
use Rattle.ioc_journaled_set.proofs.link_changes.keep_change.Goals as goal

pub append_two-requires-clause-other : goal.append_two-requires-clause-other
append_two-requires-clause-other g c = (c.requires.other.0, λ key has desk. let record_key = c.requires.other.1 key has in absurd (omega (arith, record_key, desk)))

pub append_two-requires-clause-follows : goal.append_two-requires-clause-follows
append_two-requires-clause-follows g c =
    let none = c.new-2.ensures ∙ c.new.ensures.items in
    let one = cell_view c.args.one.now in
    let other = cell_view c.args.other.now in
    subst (λ (l : List Answer). BothMayFollow g.K.RecordKind.rules g.B.JournalName.base one.seen one.owns other.seen other.owns (record { moment = c.args.moment; call = c.args.made; answers = l })) (sym none) c.requires.follows

pub append_two-requires-clause-sent : goal.append_two-requires-clause-sent
append_two-requires-clause-sent g c =
    let one = cell_view c.args.one.now in
    let other = cell_view c.args.other.now in
    let none = c.new-2.ensures ∙ c.new.ensures.items in
    subst (λ (s : SentCounts). BothMaySend g.K.RecordKind.rules g.B.JournalName.base one.seen one.owns other.seen other.owns (record { moment = c.args.moment; call = c.args.made; answers = c.new-2.result }) s) (sym c.dropping.ensures.sent)
    (subst (λ (l : List Answer). BothMaySend g.K.RecordKind.rules g.B.JournalName.base one.seen one.owns other.seen other.owns (record { moment = c.args.moment; call = c.args.made; answers = l }) (sent_counts 0 c.args.after.dropped)) (sym none) c.requires.sent)

pub append_two-requires-clause-counts : goal.append_two-requires-clause-counts
append_two-requires-clause-counts g c =
    links_count_none g.K.RecordKind.rules c.questions_count_nothing.ensures.links g.B.JournalName.base _ c.requires.nothing.0 (cell_view c.args.one.now).seen (cell_view c.args.one.now).owns (cell_view c.args.other.now).seen (cell_view c.args.other.now).owns _ _ _ c.dropping.ensures.share

pub returns-clause-call : goal.returns-clause-call
returns-clause-call g c =
    let none = c.new-2.ensures ∙ c.new.ensures.items in
    subst (λ (l : List Answer). HasCalled g.K.RecordKind.rules g.B.JournalName.base c.args.desk.now (record { moment = c.args.moment; call = c.args.made; answers = l }) c.append_two.new.desk) none c.append_two.ensures.call

pub returns-clause-added : goal.returns-clause-added
returns-clause-added g c =
    let none = c.new-2.ensures ∙ c.new.ensures.items in
    let one = cell_view c.args.one.now in
    let other = cell_view c.args.other.now in
    let added = c.append_two.ensures.added in
    (added.0, subst (λ (l : List Answer). AddedByBoth g.K.RecordKind.rules g.B.JournalName.base one.seen one.owns other.seen other.owns (record { moment = c.args.moment; call = c.args.made; answers = l }) added.0 c.append_two.new.desk.seen) none added.1)

pub append_two-requires-clause-begins : goal.append_two-requires-clause-begins
append_two-requires-clause-begins g c = begins_none (cell_view c.args.other.now).seen (cell_view c.args.other.now).owns c.args.made c.requires.nothing.1
