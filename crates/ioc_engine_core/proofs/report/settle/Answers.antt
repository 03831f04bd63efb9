use Rattle.std.proofs.Common.{◌≡◌, ℕ, ◌≤◌, ◌-◌, List, ◌++◌, length, map, take, drop, sum_by, sym, ap, ◌∙◌, subst, arith, rules}
use Rattle.std.proofs.lemmas.List.{length-map}
use Rattle.std.specs.Prelude.{All}
use Rattle.std.specs.FinMap.{keys, len}
use Rattle.std.specs.Vec.{vec_capacity}
use Rattle.ioc_journal.specs.Counting.{counts_of}
use Rattle.ioc_journal.specs.Legal.{map_of}
use Rattle.ioc_journal.specs.Places.{JournalOf}
use Rattle.ioc_journal.specs.declared.entry.Note.{Note}
use Rattle.ioc_set.specs.SetState.{SetState}
use Rattle.ioc_journaled_set.specs.Copies.{IsIn}
use Rattle.ioc_journaled_set.specs.Holding.{HeldView, IsSoundlyHeld}
use Rattle.ioc_engine_core.specs.Ended.{counts_in}
use Rattle.ioc_engine_core.proofs.Counts.{counts_alike}
use Rattle.ioc_engine_core.proofs.Ending.{still_hold_each, still_in, whole}
use Rattle.ioc_engine_core.proofs.Merging.{sizes_add_up}
use Rattle.ioc_engine_core.proofs.report.settle.Given.{Over}
use Rattle.ioc_engine_core.proofs.report.settle.Goals.{After-move_all_on}
use Rattle.ioc_engine_core.proofs.report.settle.Goals as goal

-- The sets after they have moved on.
module _ (g : Over) (c : After-move_all_on g) where
  moved : map (λ (h : HeldView g.row.K.Denot g.row.D.Denot). h.set) c.move_all_on.new.sets ≡ map (λ (h : HeldView g.row.K.Denot g.row.D.Denot). h.set) c.args.gathered.sets.items
  moved = c.move_all_on.ensures.sets ∙ ap (λ (l : List (HeldView g.row.K.Denot g.row.D.Denot)). map (λ (h : HeldView g.row.K.Denot g.row.D.Denot). h.set) l) c.as_mut_slice.ensures.value

  many : length c.move_all_on.new.sets ≡ length c.args.gathered.sets.items
  many =
      sym (length-map c.move_all_on.new.sets (λ (h : HeldView g.row.K.Denot g.row.D.Denot). h.set))
      ∙ ap (λ (l : List (SetState g.row.K.Denot g.row.D.Denot)). length l) moved
      ∙ length-map c.args.gathered.sets.items (λ (h : HeldView g.row.K.Denot g.row.D.Denot). h.set)

  -- The list has these sets, and no others behind them.
  sets_are : take c.args.gathered.sets.len (c.move_all_on.new.sets ++ drop (length c.move_all_on.new.sets) c.args.gathered.sets.items) ≡ c.move_all_on.new.sets
  sets_are =
      let long : c.args.gathered.sets.len ≡ length c.args.gathered.sets.items = search rules in
      whole c.move_all_on.new.sets (drop (length c.move_all_on.new.sets) c.args.gathered.sets.items) c.args.gathered.sets.len (long ∙ sym many)

pub end_all-ended-requires-clause-none : goal.end_all-ended-requires-clause-none
end_all-ended-requires-clause-none g c = c.requires.all.1.counts

pub end_all-ended-requires-clause-room : goal.end_all-ended-requires-clause-room
end_all-ended-requires-clause-room g c =
    let at = (goal.at.end_all-ended-requires-clause-room g c).After-move_all_on in
    (c.requires.room.0, subst (λ (n : ℕ). n ≤ vec_capacity c.args.gathered.room) (sym (ap (λ (l : List (HeldView g.row.K.Denot g.row.D.Denot)). length l) (sets_are g at) ∙ many g at)) c.requires.room.1)

pub audit-requires : goal.audit-requires
audit-requires g c =
    let at = (goal.at.audit-requires g c).After-move_all_on in
    let k = g.K.RecordKind.rules in
    let base = g.B.JournalName.base in
    let m = map_of k base c.args.journal.now.filled in
    let count = c.requires.all.0 in
    let sets = c.args.gathered.sets.items in
    let each = still_hold_each (λ (h : HeldView g.row.K.Denot g.row.D.Denot). h.set) (λ (h : SetState g.row.K.Denot g.row.D.Denot). keys h.records) sets c.move_all_on.new.sets (moved g at) count c.requires.all.2 in
    let are_in = still_in m _ c.move_all_on.new.sets c.move_all_on.ensures.sets c.move_all_on.ensures.are_in in
    let kept = (c.lists_leave_sound.ensures.after base c.args.journal.now.filled c.is_legal.ensures.sound).1 in
    let sizes = sizes_add_up m c.move_all_on.new.sets count each are_in (λ n has. c.requires.all.3 n (kept.only n has)) in
    let all = ap (λ (l : List (HeldView g.row.K.Denot g.row.D.Denot)). sum_by (λ (h : HeldView g.row.K.Denot g.row.D.Denot). len h.set.records) l) (sets_are g at) in
    let parts = c.end_all-ended.ensures.parts in
    let spare = c.requires.all.1.parts in
    record { parts = omega (arith, sizes, all, parts, spare) }

pub returns-clause-sets : goal.returns-clause-sets
returns-clause-sets g c =
    let at = (goal.at.returns-clause-sets g c).After-move_all_on in
    ap (λ (l : List (HeldView g.row.K.Denot g.row.D.Denot)). map (λ (h : HeldView g.row.K.Denot g.row.D.Denot). h.set) l) (c.end_all-ended.ensures.sets ∙ sets_are g at) ∙ moved g at

pub returns-clause-sound : goal.returns-clause-sound
returns-clause-sound g c =
    subst (λ (l : List (HeldView g.row.K.Denot g.row.D.Denot)). All (IsSoundlyHeld g.K.RecordKind.rules g.B.JournalName.base) l) (c.as_slice.ensures.value ∙ sym c.end_all-ended.ensures.sets) c.all_sound.ensures

pub returns-clause-are_in : goal.returns-clause-are_in
returns-clause-are_in g c =
    subst (λ (l : List (HeldView g.row.K.Denot g.row.D.Denot)). All (IsIn (map_of g.K.RecordKind.rules g.B.JournalName.base c.args.journal.now.filled)) l) c.as_mut_slice.ensures.value c.move_all_on.ensures.are_in

pub returns-clause-tally : goal.returns-clause-tally
returns-clause-tally g c =
    let at = (goal.at.returns-clause-tally g c).After-move_all_on in
    sym (counts_alike c.args.gathered.sets.items c.move_all_on.new.sets (moved g at))
    ∙ ap (λ (l : List (HeldView g.row.K.Denot g.row.D.Denot)). counts_in l) (sym (sets_are g at))
    ∙ ap (λ (l : List (HeldView g.row.K.Denot g.row.D.Denot)). counts_in l) (sym c.end_all-ended.ensures.sets)
    ∙ sym c.end_all-ended.ensures.counts ∙ c.audit.ensures.counts
    ∙ ap (λ (j : JournalOf Note). counts_of g.K.RecordKind.rules g.B.JournalName.base j.filled) c.move_all_on.ensures.journal
