use Rattle.std.proofs.Common.{◌≡◌, true, false, refl, sym, ap, ◌∙◌, arith}
use Rattle.std.specs.FinMap.{get}
use Rattle.ioc_set_records.specs.Slots.{records_of}
use Rattle.ioc_set_records.proofs.Slotted.{number_at}
use Rattle.ioc_set_records.proofs.Seen.{record_absent}
use Rattle.ioc_set_records.proofs.Asking.{one_more, apart_by, in_both}
use Rattle.ioc_set_records.proofs.slots.are_apart.Goals as goal

pub returns-in-Some : goal.returns-in-Some
returns-in-Some g c = (
  λ e. absurd (let f : false ≡ true = e in cc),
  λ apart. absurd (
      in_both c.args.slots.now c.args.others.now c.loop-slot.slot-index c.in-Some._place c.slot-item.result c.requires.ascending.0 c.requires.ascending.1 c.loop-slot-test.true c.in-Some.ensures.found.0
      c.slot-item.is c.in-Some.ensures.found.1 apart),
)

pub loop-slot-preserved : goal.loop-slot-preserved
loop-slot-preserved g c =
    one_more _ c.loop-slot.slot-index c.loop-slot.invariant
    (ap (get (records_of c.args.others.now)) (sym (number_at c.args.slots.now c.loop-slot.slot-index c.slot-item.result c.loop-slot-test.true c.slot-item.is)) ∙ record_absent c.args.others.now c.slot-item.result.number c.in_default.ensures.absent)

pub returns : goal.returns
returns g c = (
  λ e. apart_by c.args.slots.now c.args.others.now (λ i l. c.loop-slot.invariant i (let past = c.loop-slot-test.false in omega arith)),
  λ apart. refl,
)
