use Rattle.std.proofs.Common.{◌≡◌, List, ◌<◌, length, true, false, refl, sym, ◌∙◌, subst}
use Rattle.std.specs.Prelude.{All}
use Rattle.ioc_graph.specs.declared.edges.Edge.{Edge}
use Rattle.ioc_graph.specs.Parts.{ArePartsOf, all_below}
use Rattle.ioc_set_records.proofs.Linked.{below_by, closed_by, parts_by}
use Rattle.ioc_set_records.proofs.parts.parts_of.Goals as goal

pub returns-then-not-are_below-clause-within : goal.returns-then-not-are_below-clause-within
returns-then-not-are_below-clause-within g c =
    let k = g.K.RecordKind.rules in
    let all = c.args.all.now in
    let P : List Edge → Type 0 = λ es. All (λ (e : Edge). (e.from < length all) × (e.to < length all)) es in (
      λ e. absurd (let f : false ≡ true = e in cc),
      λ closed. sym c.if-not-are_below.true ∙ c.are_below.ensures.1 (subst P (sym c.deref.ensures.value) (below_by k all c.in_ok-edges.edges.items c.in_ok-edges.ensures closed)),
    )

pub returns-clause-parts : goal.returns-clause-parts
returns-clause-parts g c =
    let k = g.K.RecordKind.rules in
    let all = c.args.all.now in
    let es = c.in_ok-edges.edges.items in
    let P : List Edge → Type 0 = λ es. All (λ (e : Edge). (e.from < length all) × (e.to < length all)) es in
    parts_by k all es c.in_ok-edges.ensures (subst P c.deref.ensures.value (c.are_below.ensures.0 c.if-not-are_below.false)) c.in_ok-parts.parts.items
    (subst (λ (es : List Edge). ArePartsOf es (all_below (length all)) c.in_ok-parts.parts.items) c.deref-2.ensures.value c.in_ok-parts.ensures.parts)

pub returns-clause-within : goal.returns-clause-within
returns-clause-within g c =
    let k = g.K.RecordKind.rules in
    let all = c.args.all.now in
    let P : List Edge → Type 0 = λ es. All (λ (e : Edge). (e.from < length all) × (e.to < length all)) es in
    (λ e. closed_by k all c.in_ok-edges.edges.items c.in_ok-edges.ensures (subst P c.deref.ensures.value (c.are_below.ensures.0 c.if-not-are_below.false)), λ closed. refl)
