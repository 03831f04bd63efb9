use Rattle.std.proofs.Common.{◌≡◌, ◌∙◌, ℕ, List, length, refl, sym, ap, subst, arith}
use Rattle.std.specs.Prelude.{◌==◌, filter, not}
use Rattle.ioc_set_records.specs.declared.slots.Slot.{Slot}
use Rattle.ioc_set_records.specs.Edges.{slots_relinked}
use Rattle.ioc_set_records.specs.Joined.{links_of, IsClosed}
use Rattle.ioc_set_records.specs.Slots.{records_of}
use Rattle.ioc_set_records.proofs.DealtLaws.{count_both}
use Rattle.ioc_set_records.proofs.SetParts.{parted_by, whole_by, dealt_few}
use Rattle.ioc_set_records.proofs.parting.part_slots.Goals as goal

pub parts_with-requires-clause-closed : goal.parts_with-requires-clause-closed
parts_with-requires-clause-closed g c =
    let k = g.K.RecordKind.rules in
    subst (λ (z : List (Slot _ _)). IsClosed (links_of k (records_of (slots_relinked k z c.args.place c.args.field c.args.link)))) (sym c.deref.ensures.value) c.requires.closed

pub returns-then-staying-len-clause-ok : goal.returns-then-staying-len-clause-ok
returns-then-staying-len-clause-ok g c =
    whole_by g.K.RecordKind.rules c.args.slots.now.items c.args.place c.args.field c.args.link _ c.new.result.items c.deref.result.now c.index_mut.result.now
    c.relink.new.slot c.deref-2.result.now c.in_ok-numbers.numbers.items c.index-number.result.now c.count_of-staying.result c.requires.there c.index_mut.ensures.value c.relink.ensures refl c.deref.ensures.value
    c.in_ok-numbers.ensures c.deref-2.ensures.value c.index-number.ensures c.count_of-staying.ensures (c.if-staying-len.true ∙ c.len.ensures ∙ sym c.deref-2.ensures.len ∙ ap length c.deref-2.ensures.value) c.new.ensures.items

pub deal-requires-clause-rest : goal.deal-requires-clause-rest
deal-requires-clause-rest g c =
    let n = c.index-number.result.now in
    let same : c.deref-3.result.now ≡ c.deref-2.result.now = c.deref-3.ensures.value ∙ sym c.deref-2.ensures.value in
    let others = ap (λ (z : List ℕ). length (filter (λ m. not (m == n)) z)) same in
    let all = ap length c.deref-2.ensures.value in
    let count = c.count_of-staying.ensures in
    let both = count_both (λ m. m == n) c.deref-2.result.now in
    let len = c.len-2.ensures in
    let read = c.deref-2.ensures.len in
    let room = c.in_ok-rest.ensures.capacity in
    let none = c.in_ok-rest.ensures.len in
    (c.in_ok-rest.ensures.items, omega arith)

pub returns-clause-ok : goal.returns-clause-ok
returns-clause-ok g c =
    parted_by g.K.RecordKind.rules c.args.slots.now.items c.args.place c.args.field c.args.link c.replace-all.result.items c.deal.new.stay.items c.deal.new.rest.items c.deref.result.now c.index_mut-2.result.now
    c.relink-2.new.slot c.deref-3.result.now c.in_ok-numbers.numbers.items c.index-number.result.now c.requires.there c.index_mut-2.ensures.value c.relink-2.ensures (ap (λ z. z.items) c.replace-all.ensures.value) c.deref.ensures.value
    c.in_ok-numbers.ensures c.deref-3.ensures.value c.index-number.ensures c.deal.ensures.stay c.deal.ensures.rest

pub overflow_sub-leaving : goal.overflow_sub-leaving
overflow_sub-leaving g c =
    let count = c.count_of-staying.ensures in
    let both = count_both (λ m. m == c.index-number.result.now) c.deref-2.result.now in
    let all = ap length c.deref-2.ensures.value in
    let read = c.deref-2.ensures.len in
    let len = c.len-2.ensures in
    omega arith

pub deal-requires-clause-stay : goal.deal-requires-clause-stay
deal-requires-clause-stay g c =
    let n = c.index-number.result.now in
    let same : c.deref-3.result.now ≡ c.deref-2.result.now = c.deref-3.ensures.value ∙ sym c.deref-2.ensures.value in
    let those = ap (λ (z : List ℕ). length (filter (λ m. m == n) z)) same in
    (c.in_ok-stay.ensures.items, omega (arith, those, c.count_of-staying.ensures, c.in_ok-stay.ensures.capacity, c.in_ok-stay.ensures.len))

pub returns-clause-room : goal.returns-clause-room
returns-clause-room g c =
    let n = c.index-number.result.now in
    let same : c.deref-3.result.now ≡ c.deref-2.result.now = c.deref-3.ensures.value ∙ sym c.deref-2.ensures.value in
    let others = ap (λ (z : List ℕ). length (filter (λ m. not (m == n)) z)) same in
    let both = count_both (λ m. m == n) c.deref-2.result.now in
    let few = dealt_few (λ m. not (m == n)) c.deref-3.result.now c.replace-all.result.items in
    let dealt_len = ap length c.deal.ensures.rest in
    (c.in_ok-places.ensures.items, omega (arith, others, both, few, dealt_len, c.count_of-staying.ensures, c.len-2.ensures, c.deref-2.ensures.len, ap length c.deref-2.ensures.value, c.in_ok-places.ensures.capacity))
