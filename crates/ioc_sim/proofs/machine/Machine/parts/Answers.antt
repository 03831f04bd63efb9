use Rattle.std.proofs.Common.{◌≡◌, ℕ, List, length, refl, sym, ap, ◌∙◌, subst}
use Rattle.std.specs.Prelude.{All}
use Rattle.std.specs.List.{enumerate_from}
use Rattle.std.proofs.lemmas.Result.{IfOk-weaker}
use Rattle.std.proofs.lemmas.List.FromFn.{length-range_with_len}
use Rattle.ioc_graph.specs.declared.edges.Edge.{Edge}
use Rattle.rec_types.specs.Record.{Record, record_rules}
use Rattle.ioc_store.specs.OneMap.{world_of}
use Rattle.ioc_sim.specs.Sets.{joined_by}
use Rattle.ioc_sim.proofs.Joining.{Within, links_within, parts_same}
use Rattle.ioc_sim.proofs.machine.Machine.parts.Goals as goal

pub parts_of_all-requires : goal.parts_of_all-requires
parts_of_all-requires c =
    let items = c.args.self.now.map.records.items in
    let same : c.as_slice.result.now ≡ joined_by record_rules (enumerate_from 0 items) =
    c.as_slice.ensures.value ∙ c.in_ok-links.ensures ∙ ap (λ (xs : List Record). joined_by record_rules (enumerate_from 0 xs)) c.as_slice-records.ensures.value in
    let count : length c.as_slice-records.result.now ≡ length items = ap (λ (xs : List Record). length xs) c.as_slice-records.ensures.value in
    record {
      ends = subst (λ (n : ℕ). All (Within n) c.as_slice.result.now) (sym count) (subst (λ (es : List Edge). All (Within (length items)) es) (sym same) (links_within record_rules c.args.self.now.map c.args.self.now.settled.closed));
    }

pub returns-clause-parts : goal.returns-clause-parts
returns-clause-parts c =
    let items = c.args.self.now.map.records.items in
    let same : c.as_slice.result.now ≡ joined_by record_rules (enumerate_from 0 items) =
    c.as_slice.ensures.value ∙ c.in_ok-links.ensures ∙ ap (λ (xs : List Record). joined_by record_rules (enumerate_from 0 xs)) c.as_slice-records.ensures.value in
    let count : length c.as_slice-records.result.now ≡ length items = ap (λ (xs : List Record). length xs) c.as_slice-records.ensures.value in
    IfOk-weaker c.parts_of_all.result _ _ (λ v e. e ∙ parts_same record_rules (world_of c.args.self.now.map) items c.as_slice.result.now _ refl same count) c.parts_of_all.ensures.numbers

pub returns-clause-all : goal.returns-clause-all
returns-clause-all c =
    IfOk-weaker c.parts_of_all.result _ _ (λ v e. e.one_each ∙ length-range_with_len 0 _ ∙ ap (λ (xs : List Record). length xs) c.as_slice-records.ensures.value) c.parts_of_all.ensures.parts
