use Rattle.std.proofs.Common.{ap, ◌∙◌, arith}
use Rattle.ioc_set_records.specs.Contents.{Contents}
use Rattle.ioc_set_records.specs.Slots.{contents_of}
use Rattle.ioc_set_records.proofs.Twins.{alike_slots, folded_contents, fold_up, fold_folded, fold_len, folded_kept}
use Rattle.ioc_set_records.proofs.members.Members.fold.Goals as goal

pub fold_slots-requires-clause-like : goal.fold_slots-requires-clause-like
fold_slots-requires-clause-like g c = alike_slots g.K.RecordKind.rules c.self.inside.slots.items c.args.self.now c.self.invariant.ascending c.self.view_is c.requires.like

pub invariant_of-self : goal.invariant_of-self
invariant_of-self g c =
    let ss = c.self.inside.slots.items in
    let fs = c.fold_slots.new.slots.items in
    let len = fold_len ss fs c.fold_slots.ensures.slots in
    let room = c.self.invariant.room in
    let same = c.fold_slots.ensures.room in
    folded_kept fs c.fold_slots.new.changed.items _ (fold_up ss fs c.self.invariant.ascending c.fold_slots.ensures.slots) (fold_folded ss fs c.fold_slots.ensures.slots) c.fold_slots.ensures.changed (omega arith)

pub returns : goal.returns
returns g c =
    ap contents_of c.fold_slots.ensures.slots ∙ folded_contents c.self.inside.slots.items
    ∙ ap (λ (z : Contents g.row.K.Denot g.row.D.Denot). record z { base = z.records }) c.self.view_is
