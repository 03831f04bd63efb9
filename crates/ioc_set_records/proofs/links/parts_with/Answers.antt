use Rattle.std.proofs.Common.{◌≡◌, ℕ, List, sym, ◌∙◌, subst}
use Rattle.std.specs.Prelude.{All, Contains, IfOk}
use Rattle.std.specs.List.Sorted.{IsStrictlyIncreasing}
use Rattle.ioc_graph.specs.declared.edges.Edge.{Edge}
use Rattle.ioc_graph.specs.Parts.{ArePartsOf}
use Rattle.ioc_set_records.specs.Edges.{edges_in, slots_relinked}
use Rattle.ioc_set_records.specs.Slots.{numbers_of}
use Rattle.ioc_set_records.proofs.Slotted.{rising}
use Rattle.ioc_set_records.proofs.JoinLaws.{ends_within, numbers_relinked, ascending_relinked}
use Rattle.ioc_set_records.proofs.links.parts_with.Goals as goal

pub parts-requires-clause-ascending : goal.parts-requires-clause-ascending
parts-requires-clause-ascending g c =
    let is : c.deref-2.result.now ≡ numbers_of c.args.slots.now = c.deref-2.ensures.value ∙ c.in_ok-nodes.ensures in
    subst (λ (z : List ℕ). IsStrictlyIncreasing z) (sym is) (rising c.args.slots.now c.requires.ascending)

pub parts-requires-clause-ends : goal.parts-requires-clause-ends
parts-requires-clause-ends g c =
    let k = g.K.RecordKind.rules in
    let ss = c.args.slots.now in
    let zs = slots_relinked k ss c.args.place c.args.changed c.args.link.now in
    let nodes : c.deref-2.result.now ≡ numbers_of zs = c.deref-2.ensures.value ∙ c.in_ok-nodes.ensures ∙ sym (numbers_relinked k ss c.args.place c.args.changed c.args.link.now) in
    let edges : c.deref.result.now ≡ edges_in k zs = c.deref.ensures.value ∙ c.in_ok-edges.ensures in
    let it = ends_within k zs (ascending_relinked k ss c.args.place c.args.changed c.args.link.now c.requires.ascending) c.requires.closed in
    let P : List Edge → List ℕ → Type 0 = λ es ns. All (λ (e : Edge). Contains ns e.from × Contains ns e.to) es in
    subst (λ (es : List Edge). P es c.deref-2.result.now) (sym edges) (subst (λ (ns : List ℕ). P (edges_in k zs) ns) (sym nodes) it)

pub returns : goal.returns
returns g c =
    let k = g.K.RecordKind.rules in
    let ss = c.args.slots.now in
    let zs = slots_relinked k ss c.args.place c.args.changed c.args.link.now in
    let nodes : c.deref-2.result.now ≡ numbers_of ss = c.deref-2.ensures.value ∙ c.in_ok-nodes.ensures in
    let edges : c.deref.result.now ≡ edges_in k zs = c.deref.ensures.value ∙ c.in_ok-edges.ensures in
    let P : List Edge → List ℕ → Type 0 = λ es ns. IfOk c.parts.result (λ v. ArePartsOf es ns v.items) in
    subst (λ (es : List Edge). P es (numbers_of ss)) edges (subst (λ (ns : List ℕ). P c.deref.result.now ns) nodes c.parts.ensures)
