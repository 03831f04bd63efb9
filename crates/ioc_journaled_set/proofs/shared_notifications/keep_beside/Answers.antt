use Rattle.std.proofs.Common.{◌≡◌, ℕ, ◌+◌, ◌<◌, ◌≤◌, ◌^◌, List, ◌++◌, length, refl, sym, ap, ◌∙◌, subst, inl, ⊎_elim, arith}
use Rattle.std.specs.Option.{IfSome}
use Rattle.std.specs.Prelude.{Contains}
use Rattle.crossbeam_utils.specs.Seq.{cell_view}
use Rattle.ioc_notify.specs.declared.live_numbers.Live.{Live}
use Rattle.ioc_notify.specs.Counts.{holders_in}
use Rattle.ioc_journal.specs.declared.entry.Note.{Note}
use Rattle.ioc_journal.specs.declared.cell.View.{View}
use Rattle.ioc_journal.specs.Key.{Key}
use Rattle.ioc_journal.specs.Counting.{BothMaySend, BothMayCount}
use Rattle.ioc_journal.specs.Line.{holder, noted}
use Rattle.ioc_journal.specs.Legal.{map_of, notifications_key}
use Rattle.ioc_journal.specs.Account.{journalled, calls, number_given, numbers_given, BothMayFollow, MayBegin, AddedByBoth, puts_key}
use Rattle.ioc_journal.proofs.Numbers.{numbers_below}
use Rattle.ioc_journaled_set.specs.Puts.{PutsView, NoneIsAbove, AreCounted, AreTaken, AreMoved}
use Rattle.ioc_journaled_set.proofs.Taken.{may_begin_by, room_by, new_by, own_by, within_by, still_taken, still_placed, still_begun}
use Rattle.ioc_journaled_set.proofs.Counted.{before_there, sums_fit, counted_then}
use Rattle.ioc_journaled_set.proofs.shared_notifications.keep_beside.Given.{Over}
use Rattle.ioc_journaled_set.proofs.shared_notifications.keep_beside.Goals.{After-is_table, After-append_two-appended}
use Rattle.ioc_journaled_set.proofs.shared_notifications.keep_beside.Goals as goal

-- What is asked of the pass of the puts with notification holds of the pass inside.
module _ (g : Over) (c : After-is_table g) where
  inside : (P : List Note → List Key → Type 0) → P c.args.all.now.seen puts_key → P (cell_view c.all.inside.pass).seen (cell_view c.all.inside.pass).owns
  inside P p =
      subst (λ (ks : List Key). P (cell_view c.all.inside.pass).seen ks) (ap (λ (v : View). v.owns) (sym c.all.invariant.holds))
      (subst (λ (s : List Note). P s puts_key) (ap (λ (v : PutsView). v.seen) (sym c.all.view_is)) p)

-- The list to which the call was added, and how the call moves the counts of the set.
module _ (g : Over) (c : After-append_two-appended g) where
  abbrev log : List Note
  log = c.append_two-appended.ensures.added.0

  added : AddedByBoth g.K.RecordKind.rules g.B.JournalName.base (cell_view c.args.pass.now).seen (cell_view c.args.pass.now).owns (cell_view c.all.inside.pass).seen puts_key c.args.ran.entry log c.append_two-appended.new.desk.seen
  added =
      let k = g.K.RecordKind.rules in
      let base = g.B.JournalName.base in
      let one = cell_view c.args.pass.now in
      subst (λ (ks : List Key). AddedByBoth k base one.seen one.owns (cell_view c.all.inside.pass).seen ks c.args.ran.entry log c.append_two-appended.new.desk.seen) (ap (λ (v : View). v.owns) c.all.invariant.holds) c.append_two-appended.ensures.added.1

  moved : AreMoved g.K.RecordKind.rules g.B.JournalName.base log c.append_two-appended.new.desk.seen c.args.ran.before.items c.args.set.now.live
  moved =
      let k = g.K.RecordKind.rules in
      let base = g.B.JournalName.base in
      let one = cell_view c.args.pass.now in
      let longer = c.append_two-appended.new.desk.seen in
      c.requires.moves log longer (subst (λ (s : List Note). AddedByBoth k base one.seen one.owns s puts_key c.args.ran.entry log longer) (ap (λ (v : PutsView). v.seen) c.all.view_is) added)

pub append_two-appended-requires-clause-apart : goal.append_two-appended-requires-clause-apart
append_two-appended-requires-clause-apart g c key has also =
    let record_key = c.requires.set.1 key has in
    ⊎_elim (λ (is : notifications_key ≡ key). let kind = ap (λ (k : Key). k.0) is in let two : notifications_key.0 ≡ 2 = refl in let z : ⊥ = omega (arith, kind, record_key, two) in z) (λ (no : ⊥). no) also

pub append_two-appended-requires-clause-follows : goal.append_two-appended-requires-clause-follows
append_two-appended-requires-clause-follows g c =
    let one = cell_view c.args.pass.now in
    inside g (goal.at.append_two-appended-requires-clause-follows g c).After-is_table (λ s ks. BothMayFollow g.K.RecordKind.rules g.B.JournalName.base one.seen one.owns s ks c.args.ran.entry) c.requires.follows

pub append_two-appended-requires-clause-sent : goal.append_two-appended-requires-clause-sent
append_two-appended-requires-clause-sent g c =
    let one = cell_view c.args.pass.now in
    inside g (goal.at.append_two-appended-requires-clause-sent g c).After-is_table (λ s ks. BothMaySend g.K.RecordKind.rules g.B.JournalName.base one.seen one.owns s ks c.args.ran.entry c.args.counts.sent) c.requires.sent

pub append_two-appended-requires-clause-counts : goal.append_two-appended-requires-clause-counts
append_two-appended-requires-clause-counts g c =
    let one = cell_view c.args.pass.now in
    let counts = c.args.counts in
    inside g (goal.at.append_two-appended-requires-clause-counts g c).After-is_table
    (λ s ks. BothMayCount g.K.RecordKind.rules g.B.JournalName.base one.seen one.owns s ks c.args.ran.entry counts.share counts.before counts.after) c.requires.counts

pub place_begun-requires-clause-room : goal.place_begun-requires-clause-room
place_begun-requires-clause-room g c =
    subst (λ (v : PutsView). IfSome (number_given c.args.ran.entry.call) (λ _. length v.live + length v.taken < 256)) (sym c.all.view_is) (room_by (number_given c.args.ran.entry.call) c.args.all.now c.requires.begins)

pub place_begun-requires-clause-new : goal.place_begun-requires-clause-new
place_begun-requires-clause-new g c =
    new_by (number_given c.args.ran.entry.call) c.args.all.now c.all.inside.places.begun (λ n there. subst (λ (v : PutsView). Contains (numbers_given (calls v.seen)) n) c.all.view_is (c.all.invariant.begun n there)) c.requires.begins

pub append_two-appended-requires-clause-begins : goal.append_two-appended-requires-clause-begins
append_two-appended-requires-clause-begins g c =
    inside g (goal.at.append_two-appended-requires-clause-begins g c).After-is_table (λ s ks. MayBegin s ks c.args.ran.entry.call) (may_begin_by (number_given c.args.ran.entry.call) c.args.all.now c.requires.begins)

pub recount-requires-clause-there : goal.recount-requires-clause-there
recount-requires-clause-there g c n =
    let at = (goal.at.recount-requires-clause-there g c).After-append_two-appended in
    let seen = (cell_view c.all.inside.pass).seen in
    subst (λ (ls : List Live). holders_in n ls ≤ holders_in n c.all.inside.table.live) (sym c.deref.ensures.value)
    (before_there g.K.RecordKind.rules c.live_lasts.ensures g.B.JournalName.base seen (log g at) c.append_two-appended.new.desk.seen c.all.inside.table.live c.args.ran.before.items c.args.set.now.live c.all.invariant.counted (added g at).also_goes_on (added g at).legal (moved g at) n)

pub recount-requires-clause-fits : goal.recount-requires-clause-fits
recount-requires-clause-fits g c n =
    let at = (goal.at.recount-requires-clause-fits g c).After-append_two-appended in
    let seen = (cell_view c.all.inside.pass).seen in
    subst (λ (ls : List Live). holders_in n c.all.inside.table.live + holders_in n c.live_puts.result.now < 2 ^ 64 + holders_in n ls) (sym c.deref.ensures.value)
    (subst (λ (ls : List Live). holders_in n c.all.inside.table.live + holders_in n ls < 2 ^ 64 + holders_in n c.args.ran.before.items) (sym c.live_puts.ensures)
    (sums_fit g.K.RecordKind.rules c.live_lasts.ensures g.B.JournalName.base seen (log g at) c.append_two-appended.new.desk.seen c.all.inside.table.live c.args.ran.before.items c.args.set.now.live c.all.invariant.counted (added g at).also_goes_on (added g at).legal (moved g at) n))

pub invariant_of-all : goal.invariant_of-all
invariant_of-all g c =
    let k = g.K.RecordKind.rules in
    let base = g.B.JournalName.base in
    let one = cell_view c.args.pass.now in
    let at = (goal.at.invariant_of-all g c).After-append_two-appended in
    let longer = c.append_two-appended.new.desk.seen in
    let added = added g at in
    let moved = moved g at in
    let log = log g at in
    let counts = subst (λ (ls : List Live). (n : ℕ) → holders_in n c.recount.new.table.live + holders_in n c.args.ran.before.items ≡ holders_in n c.all.inside.table.live + holders_in n ls) c.live_puts.ensures
    (subst (λ (ls : List Live). (n : ℕ) → holders_in n c.recount.new.table.live + holders_in n ls ≡ holders_in n c.all.inside.table.live + holders_in n c.live_puts.result.now) c.deref.ensures.value c.recount.ensures.counts) in
    let told = counted_then k c.live_lasts.ensures base (cell_view c.all.inside.pass).seen log longer c.all.inside.table.live c.args.ran.before.items c.args.set.now.live c.all.invariant.counted added.also_goes_on added.legal moved c.recount.new.table.live counts in
    let other = c.append_two-appended.ensures.other in
    let short = c.tables_are_short.ensures c.recount.new.table.live (map_of k base longer).live c.is_table-2.ensures told in
    let few = moved.few in
    let seen_before = (cell_view c.all.inside.pass).seen in
    let note = noted (journalled added.desk added.call c.args.ran.entry) ((one.owns ++ puts_key) ++ added.own) in
    let legal = c.append_two-appended.ensures.call.legal.legal in
    let keyed = c.append_two-appended.ensures.call.legal.puts_keyed in
    record {
      same = other.0 ∙ c.all.invariant.same;
      holds = subst (λ (v : View). v ≡ holder v.seen puts_key) (sym other.1) refl;
      counted = subst (λ (v : View). AreCounted k base c.recount.new.table.live v.seen) (sym other.1) told;
      below = subst (λ (v : View). NoneIsAbove c.all.inside.last v.seen) (sym other.1)
          (numbers_below seen_before log longer puts_key note c.all.inside.last added.also_goes_on added.ends (inl refl) keyed c.all.invariant.below
          (subst (λ (v : PutsView). IfSome (number_given c.args.ran.entry.call) (λ number. number ≤ v.last)) (sym c.all.view_is) (within_by (number_given c.args.ran.entry.call) c.args.all.now c.requires.begins)));
      taken = subst (λ (v : View). AreTaken c.recount.new.table.live c.place_begun.new.places.taken c.all.inside.last v.seen) (sym other.1)
          (subst (λ (xs : List ℕ). AreTaken c.recount.new.table.live xs c.all.inside.last longer) (sym c.place_begun.ensures.taken)
          (still_taken k c.live_lasts.ensures c.lists_leave_sound.ensures.after c.one_may_begin.ensures c.lines_tell_holders.ensures.live c.lines_tell_holders.ensures.held base seen_before log longer note c.all.inside.table.live c.recount.new.table.live
          c.is_table.ensures c.is_table-2.ensures c.all.invariant.counted told added.sound added.also_goes_on added.legal added.ends legal c.all.inside.places.taken c.all.inside.last keyed c.all.invariant.taken
          (subst (λ (v : PutsView). IfSome (number_given c.args.ran.entry.call) (λ number. Contains v.taken number → ⊥)) (sym c.all.view_is) (own_by (number_given c.args.ran.entry.call) c.args.all.now c.requires.begins))));
      placed =
          still_placed k c.live_lasts.ensures c.lists_leave_sound.ensures.after c.one_may_begin.ensures c.lines_tell_holders.ensures.live c.lines_tell_holders.ensures.held base seen_before log longer note c.all.inside.table.live c.recount.new.table.live
          c.is_table.ensures c.is_table-2.ensures c.all.invariant.counted told added.sound added.also_goes_on added.legal added.ends legal c.all.inside.places.begun c.place_begun.new.places.begun c.all.invariant.placed
          c.place_begun.ensures.kept c.place_begun.ensures.own;
      begun = λ n there. subst (λ (v : View). Contains (numbers_given (calls v.seen)) n) (sym other.1)
          (still_begun k c.live_lasts.ensures c.lists_leave_sound.ensures.after c.one_may_begin.ensures c.lines_tell_holders.ensures.live c.lines_tell_holders.ensures.held base seen_before log longer note c.all.inside.table.live c.recount.new.table.live
          c.is_table.ensures c.is_table-2.ensures c.all.invariant.counted told added.sound added.also_goes_on added.legal added.ends legal c.all.inside.places.begun c.place_begun.new.places.begun keyed c.all.invariant.begun
          c.place_begun.ensures.within n there);
      few = omega (arith, short, few);
      room = subst (λ (n : ℕ). 512 ≤ n) (sym c.recount.ensures.room) c.all.invariant.room;
    }

pub returns-clause-added : goal.returns-clause-added
returns-clause-added g c =
    let k = g.K.RecordKind.rules in
    let base = g.B.JournalName.base in
    let one = cell_view c.args.pass.now in
    let seen = ap (λ (v : PutsView). v.seen) c.all.view_is in
    let owns = ap (λ (v : View). v.owns) c.all.invariant.holds in
    let log = c.append_two-appended.ensures.added.0 in
    let longer = c.append_two-appended.new.desk.seen in
    let added = subst (λ (ks : List Key). AddedByBoth k base one.seen one.owns (cell_view c.all.inside.pass).seen ks c.args.ran.entry log longer) owns c.append_two-appended.ensures.added.1 in
    (log, subst (λ (s : List Note). AddedByBoth k base one.seen one.owns s puts_key c.args.ran.entry log longer) seen added)
