use Rattle.std.proofs.Common.{length, get_or, sym, ap, ◌∙◌, arith}
use Rattle.std.specs.Prelude.{slice_get}
use Rattle.std.specs.FinMap.{keys}
use Rattle.ioc_set_records.proofs.Ordered.{keys_are, number_found, number_past}
use Rattle.ioc_set_records.proofs.members.Members.number_at.Goals as goal

pub returns-in_err-slot : goal.returns-in_err-slot
returns-in_err-slot g c =
    let len = ap length c.deref.ensures.value in
    let past = c.in_err-slot.ensures.lookup.3 in
    c.from_residual.ensures ∙ sym (number_past c.self.inside.slots.items c.args.place (omega arith)) ∙ ap (λ z. slice_get z c.args.place) (sym (keys_are c.self.inside.slots.items c.self.invariant.ascending) ∙ ap (λ z. keys z.records) c.self.view_is)

pub returns : goal.returns
returns g c =
    let len = ap length c.deref.ensures.value in
    let there = c.in_ok-slot.ensures.lookup.3.0 in
    let s = c.in_ok-slot.slot.now in
    sym (number_found c.self.inside.slots.items c.args.place s (omega arith) (c.in_ok-slot.ensures.lookup.1 ∙ ap (λ z. get_or z c.args.place s) c.deref.ensures.value))
    ∙ ap (λ z. slice_get z c.args.place) (sym (keys_are c.self.inside.slots.items c.self.invariant.ascending) ∙ ap (λ z. keys z.records) c.self.view_is)
