use Rattle.std.proofs.Common.{◌+◌, ◌-◌, ◌/◌, ◌≤◌, ◌<◌, ap, sym, ◌≡◌, ◌∙◌, arith}
use Rattle.std.specs.Prelude.{slice_index}
use Rattle.ioc_set_records.specs.declared.slots.Slot.{Slot}
use Rattle.ioc_set_records.proofs.Slotted.{later, earlier, number_at}
use Rattle.ioc_set_records.specs.Slots.{numbers_of}
use Rattle.ioc_set_records.proofs.slots.searched.Goals as goal

pub halve-preserved-then-index : goal.halve-preserved-then-index
halve-preserved-then-index g c =
    let slots = c.args.slots.now in
    let middle = c.halve.low + (c.halve.high - c.halve.low) / 2 in
    let i = c.halve.invariant in
    let s = c.index-slots-middle.result in
    let le : s.number ≤ c.args.number = let e = ap (λ (t : Slot _ _). t.number) c.index-slots-middle.is in omega arith in (
      i.0,
      omega arith,
      λ k l e. (later slots middle c.args.number k s c.requires (omega arith) c.index-slots-middle.is le l e, (i.2 k l e).1),
    )

pub halve-preserved : goal.halve-preserved
halve-preserved g c =
    let slots = c.args.slots.now in
    let middle = c.halve.low + (c.halve.high - c.halve.low) / 2 in
    let i = c.halve.invariant in
    let s = c.index-slots-middle.result in
    let lt : c.args.number < s.number = let e = ap (λ (t : Slot _ _). t.number) c.index-slots-middle.is in omega arith in (
      omega arith,
      omega arith,
      λ k l e. ((i.2 k l e).0, earlier slots middle c.args.number k s c.requires (omega arith) c.index-slots-middle.is lt l e),
    )

pub returns-then-index-2-clause-absent : goal.returns-then-index-2-clause-absent
returns-then-index-2-clause-absent g c = λ i l e.
    let slots = c.args.slots.now in
    let within = c.halve.invariant.2 i l e in
    let here : c.halve.low ≡ i = omega arith in
    c.if-index-2.true (c.index-2.ensures ∙ ap (λ (t : Slot _ _). t.number) (sym c.index-slots-low.is) ∙ number_at slots c.halve.low c.index-slots-low.result c.if-low-slots.false c.index-slots-low.is
    ∙ ap (slice_index (numbers_of slots)) here ∙ e ∙ sym c.index-3.ensures)
