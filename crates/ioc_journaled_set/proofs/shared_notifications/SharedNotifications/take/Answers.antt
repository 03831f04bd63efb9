use Rattle.std.proofs.Common.{◌≡◌, ◌+◌, ◌++◌, ◌∷◌, [], ℕ, List, sym, ap, subst, ◌∙◌}
use Rattle.crossbeam_utils.specs.Seq.{cell_view}
use Rattle.ioc_journal.specs.declared.cell.View.{View}
use Rattle.ioc_journaled_set.specs.Puts.{PutsView, puts_view, MayTake, AreKept}
use Rattle.ioc_journaled_set.specs.PutPlaces.{Places}
use Rattle.ioc_journaled_set.proofs.Kept.{number_taken, room_made, room_left}
use Rattle.ioc_journaled_set.proofs.shared_notifications.SharedNotifications.take.Goals as goal

pub invariant_of-self : goal.invariant_of-self
invariant_of-self g c =
    room_made g.K.RecordKind.rules g.B.JournalName.base g.B.CellName.table c.self.inside.pass c.self.inside.table c.self.inside.places c.make_room.new.self c.self.inside.last c.self.invariant
    c.make_room.ensures.taken c.make_room.ensures.kept c.make_room.ensures.within

pub invariant_of-self-2 : goal.invariant_of-self-2
invariant_of-self-2 g c =
    let k = g.K.RecordKind.rules in
    let base = g.B.JournalName.base in
    let table = g.B.CellName.table in
    let next : c.new-number.result ≡ c.self.inside.last + 1 = c.new-number.ensures in
    subst (λ (n : ℕ). AreKept k base table c.self.inside.pass c.self.inside.table c.take.new.self n) (sym c.number-self-inside.ensures)
    (subst (λ (p : Places). AreKept k base table c.self.inside.pass c.self.inside.table p c.new-number.result) (sym c.take.ensures)
    (number_taken k base table c.self.inside.pass c.self.inside.table c.self.inside.places c.make_room.new.self c.self.inside.last c.new-number.result c.self.invariant
    c.make_room.ensures.taken c.make_room.ensures.kept c.make_room.ensures.within next (sym c.is_live.ensures ∙ c.if-is_live.false)))

pub returns-clause-taken : goal.returns-clause-taken
returns-clause-taken g c =
    let k = g.K.RecordKind.rules in
    let base = g.B.JournalName.base in
    let table = g.B.CellName.table in
    let next : c.new-number.result ≡ c.self.inside.last + 1 = c.new-number.ensures in
    let taken : c.take.new.self.taken ≡ c.self.inside.places.taken ++ c.new-number.result ∷ [] = ap (λ (p : Places). p.taken) c.take.ensures ∙ ap (λ (xs : List ℕ). xs ++ c.new-number.result ∷ []) c.make_room.ensures.taken in
    let few = room_left k base table c.self.inside.pass c.self.inside.table c.self.inside.places c.make_room.new.self c.self.inside.last c.self.invariant c.is_table.ensures
    c.make_room.ensures.taken c.make_room.ensures.kept (c.make_room.ensures.room c.if-not-make_room.false) in (
      subst (λ (v : PutsView). MayTake v c.new-number.result) c.self.view_is (record { after = next; few = few; free = sym c.is_live.ensures ∙ c.if-is_live.false }),
      ap (λ (xs : List ℕ). puts_view c.self.inside.table.live xs c.number-self-inside.result (cell_view {V = View} c.self.inside.pass).seen) taken
          ∙ ap (λ (n : ℕ). puts_view c.self.inside.table.live (c.self.inside.places.taken ++ c.new-number.result ∷ []) n (cell_view {V = View} c.self.inside.pass).seen) c.number-self-inside.ensures
          ∙ ap (λ (v : PutsView). puts_view v.live (v.taken ++ c.new-number.result ∷ []) c.new-number.result v.seen) c.self.view_is,
    )
