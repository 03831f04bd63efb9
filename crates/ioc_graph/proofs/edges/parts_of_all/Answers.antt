use Rattle.std.proofs.Common.{◌≡◌, ℕ, ◌<◌, ◌+◌, List, length, take, refl, sym, ap, ◌∙◌, subst, [], ◌∷◌, ◌++◌, arith}
use Rattle.std.specs.Prelude.{slice_index}
use Rattle.std.proofs.lemmas.List.{take_more}
use Rattle.ioc_graph.specs.declared.edges.Edge.{Edge}
use Rattle.ioc_graph.specs.Forest.{renumbered}
use Rattle.ioc_graph.specs.Parts.{ArePartsOf, all_below}
use Rattle.ioc_graph.proofs.All.{count_of, itself, apart_below}
use Rattle.ioc_graph.proofs.Leading.{alone_leads}
use Rattle.ioc_graph.proofs.Following.{all_alone, one_more, all_joined, whole}
use Rattle.ioc_graph.proofs.Numbered.{none, more}
use Rattle.ioc_graph.proofs.edges.parts_of_all.Goals as goal

pub loop-edge-init : goal.loop-edge-init
loop-edge-init c =
    let ps = c.as_mut_slice-parents.result.now in
    let nodes = all_below c.args.count in
    let made = c.in_ok-numbers.ensures in
    let many : length nodes ≡ c.args.count = count_of c.args.count in
    let len : length ps ≡ length nodes = omega (arith, c.as_mut_slice-parents.ensures.len, made.0) in
    let at : (i : ℕ) → i < length nodes → slice_index ps i ≡ i = λ i l. ap (λ (v : List ℕ). slice_index v i) c.as_mut_slice-parents.ensures.value ∙ made.1 i (omega arith) in
    (ps, none nodes ps (apart_below c.args.count) len at, alone_leads ps (λ i l. at i (omega arith)), all_alone c.args.count ps (len ∙ many) (λ i l. at i (omega arith)))

pub loop-edge-preserved : goal.loop-edge-preserved
loop-edge-preserved c =
    let edges = c.args.edges.now in
    let n = c.args.count in
    let k = c.loop-edge.edge-index in
    let e = c.edge-item.result in
    let i = c.loop-edge.invariant in
    let a = c.index.result in
    let b = c.index-in-loop-edge.result in
    let many : length (all_below n) ≡ n = count_of n in
    let B : Edge → Type 0 = λ v. (v.from < n) × (v.to < n) in
    let below : (e.from < n) × (e.to < n) = subst B (sym c.edge-item.is) (c.requires.ends k e (omega arith)) in
    let la : a < n = omega (arith, below.0, c.index.ensures) in
    let lb : b < n = omega (arith, below.1, c.index-in-loop-edge.ensures) in
    let P : List Edge → Type 0 = λ es. ArePartsOf es (all_below n) (renumbered i.0 a b) in
    let is : take (k + 1) edges ≡ take k edges ++ e ∷ [] = take_more edges k e (omega arith) ∙ ap (λ x. take k edges ++ x ∷ []) (sym c.edge-item.is) in (
      renumbered i.0 a b,
      subst P (sym is)
          (more (take k edges) e (all_below n) i.0 (renumbered i.0 a b) a b (omega arith) (omega arith)
          (itself n a la ∙ c.index.ensures) (itself n b lb ∙ c.index-in-loop-edge.ensures) i.1 refl),
      c.join.ensures.joined i.0 i.2,
      one_more (all_below n) (take k edges) (take (k + 1) edges) i.0 e a b is i.3 c.index.ensures c.index-in-loop-edge.ensures,
    )

pub returns-clause-numbers : goal.returns-clause-numbers
returns-clause-numbers c =
    let i = c.loop-edge.invariant in
    let all = all_joined c.args.edges.now i.0 c.loop-edge.edge-index c.args.count i.3 (omega (arith, c.loop-edge-test.false)) in
    let same = c.settle.ensures i.0 i.2 in
    let parents = c.loop-edge.auto.parents in
    let made = c.as_mut_slice-parents.ensures in
    let many : length c.settle.new.parents ≡ c.in_ok-numbers.numbers.len = ap (λ (l : List ℕ). length l) same ∙ sym i.2.one_each ∙ parents ∙ made.len in
    whole c.settle.new.parents c.in_ok-numbers.numbers.items c.in_ok-numbers.numbers.len many (sym (ap (λ (l : List ℕ). length l) made.value) ∙ made.len) ∙ same ∙ all
