use Rattle.std.proofs.Common.{◌≡◌, ◌≤◌, ℕ, List, ◌++◌, Option, refl, sym, ap, ◌∙◌, subst, inl}
use Rattle.std.specs.Option.{IfSome}
use Rattle.std.specs.Prelude.{Contains}
use Rattle.crossbeam_utils.specs.Seq.{cell_view}
use Rattle.ioc_journal.specs.declared.entry.Note.{Note}
use Rattle.ioc_journal.specs.declared.cell.View.{View}
use Rattle.ioc_journal.specs.Key.{Key}
use Rattle.ioc_journaled_set.specs.Sent.{MayCountNothing}
use Rattle.ioc_journaled_set.proofs.Sending.{sends_none, counts_none}
use Rattle.ioc_journal.specs.Line.{holder, noted}
use Rattle.ioc_journal.specs.Account.{journalled, calls, numbers_given, MayFollow, Added, puts_key}
use Rattle.ioc_journal.proofs.Numbers.{begins_none, numbers_below, numbers_same}
use Rattle.ioc_journaled_set.specs.Puts.{PutsView, NoneIsAbove, AreCounted, AreTaken, ChangesNothing}
use Rattle.ioc_journaled_set.proofs.Counted.{counted_on}
use Rattle.ioc_journaled_set.proofs.Telling.{told_follows, told_counts_none, told_alike}
use Rattle.ioc_journaled_set.proofs.Taken.{taken_as_before}
use Rattle.ioc_journaled_set.proofs.shared_notifications.SharedNotifications.keep_told.Given.{Over}
use Rattle.ioc_journaled_set.proofs.shared_notifications.SharedNotifications.keep_told.Goals.{After-none}
use Rattle.ioc_journaled_set.proofs.shared_notifications.SharedNotifications.keep_told.Goals as goal

-- What the call does to the list that the pass has seen.
module _ (g : Over) (c : After-none g) where
  owns : puts_key ≡ (cell_view c.self.inside.pass).owns
  owns = ap (λ (v : View). v.owns) (sym c.self.invariant.holds)

  nothing : ChangesNothing g.K.RecordKind.rules g.B.JournalName.base (cell_view c.self.inside.pass).seen c.args.entry
  nothing = subst (λ (s : List Note). ChangesNothing g.K.RecordKind.rules g.B.JournalName.base s c.args.entry) (ap (λ (v : PutsView). v.seen) (sym c.self.view_is)) c.requires.nothing

  counts_nothing : MayCountNothing g.K.RecordKind.rules g.B.JournalName.base (cell_view c.self.inside.pass).seen (cell_view c.self.inside.pass).owns c.args.entry
  counts_nothing =
      let e = c.args.entry in
      let k = g.K.RecordKind.rules in
      let seen = (cell_view c.self.inside.pass).seen in
      subst (λ (ks : List Key). MayCountNothing k g.B.JournalName.base seen ks e) owns (told_counts_none k g.B.JournalName.base e seen nothing c.requires.unanswered c.requires.completes_none)

pub append-requires-clause-follows : goal.append-requires-clause-follows
append-requires-clause-follows g c =
    let at = (goal.at.append-requires-clause-follows g c).After-none in
    let e = c.args.entry in
    let k = g.K.RecordKind.rules in
    let seen = (cell_view c.self.inside.pass).seen in
    subst (λ (ks : List Key). MayFollow k g.B.JournalName.base seen ks e) (owns g at) (told_follows k g.B.JournalName.base e seen (nothing g at) c.requires.unanswered)

pub append-requires-clause-sent : goal.append-requires-clause-sent
append-requires-clause-sent g c =
    let pass = cell_view c.self.inside.pass in
    sends_none g.K.RecordKind.rules g.B.JournalName.base pass.seen pass.owns c.args.entry (counts_nothing g (goal.at.append-requires-clause-sent g c).After-none) _ c.none.ensures.sent

pub append-requires-clause-counts : goal.append-requires-clause-counts
append-requires-clause-counts g c =
    let pass = cell_view c.self.inside.pass in
    counts_none g.K.RecordKind.rules g.B.JournalName.base pass.seen pass.owns c.args.entry (counts_nothing g (goal.at.append-requires-clause-counts g c).After-none) _ _ _ c.none.ensures.share

pub append-requires-clause-begins : goal.append-requires-clause-begins
append-requires-clause-begins g c = begins_none (cell_view c.self.inside.pass).seen (cell_view c.self.inside.pass).owns c.args.entry.call c.requires.begins_none

pub invariant_of-self : goal.invariant_of-self
invariant_of-self g c =
    let k = g.K.RecordKind.rules in
    let base = g.B.JournalName.base in
    let pass = cell_view c.self.inside.pass in
    let at = (goal.at.invariant_of-self g c).After-none in
    let e = c.args.entry in
    let owns = ap (λ (v : View). v.owns) c.self.invariant.holds in
    let log = c.append.ensures.added.0 in
    let longer = c.append.new.desk.seen in
    let added = subst (λ (ks : List Key). Added k base pass.seen ks c.args.entry log longer) owns c.append.ensures.added.1 in
    let alike = told_alike k base e pass.seen (nothing g at) c.requires.unanswered log longer added in
    let at_log = counted_on k c.live_lasts.ensures base pass.seen log c.self.inside.table.live c.self.invariant.counted added.goes_on added.legal in
    let set = c.append.ensures.set in
    let is : cell_view c.append.new.set ≡ holder longer puts_key = set.1 ∙ ap (λ (ks : List Key). holder longer ks) owns in
    let same = numbers_same pass.seen log longer puts_key (noted (journalled added.desk added.call c.args.entry) (puts_key ++ added.own)) added.goes_on added.ends (inl refl) c.append.ensures.call.legal.puts_keyed c.requires.begins_none in
    record {
      same = set.0 ∙ c.self.invariant.same;
      holds = subst (λ (v : View). v ≡ holder v.seen puts_key) (sym is) refl;
      counted = subst (λ (v : View). AreCounted k base c.self.inside.table.live v.seen) (sym is) (λ n. at_log n ∙ alike n);
      below = subst (λ (v : View). NoneIsAbove c.self.inside.last v.seen) (sym is)
          (numbers_below pass.seen log longer puts_key (noted (journalled added.desk added.call c.args.entry) (puts_key ++ added.own)) c.self.inside.last added.goes_on added.ends (inl refl) c.append.ensures.call.legal.puts_keyed c.self.invariant.below
          (subst (λ (o : Option ℕ). IfSome o (λ number. number ≤ c.self.inside.last)) (sym c.requires.begins_none) tt));
      taken = subst (λ (v : View). AreTaken c.self.inside.table.live c.self.inside.places.taken c.self.inside.last v.seen) (sym is)
          (taken_as_before c.self.inside.table.live c.self.inside.places.taken c.self.inside.last pass.seen longer same c.self.invariant.taken);
      placed = c.self.invariant.placed;
      begun = λ n there. subst (λ (v : View). Contains (numbers_given (calls v.seen)) n) (sym is) (subst (λ (xs : List ℕ). Contains xs n) (sym same) (c.self.invariant.begun n there));
      few = c.self.invariant.few;
      room = c.self.invariant.room;
    }
