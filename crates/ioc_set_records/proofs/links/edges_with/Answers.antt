use Rattle.std.proofs.Common.{◌≡◌, ◌<◌, length, take, get_or, sym, ap, ◌∙◌, arith}
use Rattle.std.proofs.lemmas.List.{take_all}
use Rattle.ioc_set_records.specs.Edges.{edges_in, slot_relinked, slots_relinked}
use Rattle.ioc_set_records.proofs.EdgeLaws.{slot_more, length-relinked, relinked_here, relinked_there}
use Rattle.ioc_set_records.proofs.links.edges_with.Goals as goal
use Rattle.ioc_set_records.proofs.links.edges_with.Goals.{then-i-place+in_ok-add_links_with, else-i-place+in_ok-add_links}

pub loop-i-preserved : goal.loop-i-preserved
loop-i-preserved g c =
    let k = g.K.RecordKind.rules in
    let slots = c.args.slots.now in
    let link = c.args.link.now in
    let s = c.index-slots-i.result in
    let l : c.loop-i.i < length (slots_relinked k slots c.args.place c.args.changed link) = let e = length-relinked k slots c.args.place c.args.changed link in omega arith in
    elim c.if-i-place.branch [
      | then-i-place+in_ok-add_links_with w ↦
          let here : c.loop-i.i ≡ c.args.place = w.if-i-place.true in
          let at : s ≡ get_or slots c.args.place s = c.index-slots-i.is ∙ ap (λ i. get_or slots i s) here in
          slot_more k c.loop-i.edges.items c.if-i-place.edges.items (slots_relinked k slots c.args.place c.args.changed link) c.loop-i.i (slot_relinked k s c.args.changed link) l
          (ap (λ i. get_or (slots_relinked k slots c.args.place c.args.changed link) i (slot_relinked k s c.args.changed link)) here ∙ relinked_here k slots c.args.place s c.args.changed link (omega arith) at)
          c.loop-i.invariant (ap (λ z. z.items) w.edges-is ∙ w.in_ok-add_links_with.ensures)
      | else-i-place+in_ok-add_links w ↦
          slot_more k c.loop-i.edges.items c.if-i-place.edges.items (slots_relinked k slots c.args.place c.args.changed link) c.loop-i.i s l
          (relinked_there k slots c.args.place c.loop-i.i s c.args.changed link w.if-i-place.false (sym c.index-slots-i.is))
          c.loop-i.invariant (ap (λ z. z.items) w.edges-is ∙ w.in_ok-add_links.ensures)
    ]

pub returns : goal.returns
returns g c =
    let k = g.K.RecordKind.rules in
    let zs = slots_relinked k c.args.slots.now c.args.place c.args.changed c.args.link.now in
    let all : take c.loop-i.i zs ≡ zs = take_all c.loop-i.i zs (let e = length-relinked k c.args.slots.now c.args.place c.args.changed c.args.link.now in omega arith) in
    c.loop-i.invariant ∙ ap (edges_in k) all
