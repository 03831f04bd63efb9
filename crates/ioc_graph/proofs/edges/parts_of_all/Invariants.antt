use Rattle.std.proofs.Common.{◌≡◌, ℕ, List, take}
use Rattle.ioc_graph.specs.Parts.{ArePartsOf, all_below}
use Rattle.ioc_graph.specs.Forest.{LeadTo}
use Rattle.ioc_graph.specs.Members.{numbers_after}
use Rattle.ioc_graph.proofs.edges.parts_of_all.Given as goal

-- The nodes lead to the parts of the edges so far.
abbrev pub invariant-loop-edge : goal.invariant-loop-edge
invariant-loop-edge l = (numbers : List ℕ) × ArePartsOf (take l.edge-index l.edges) (all_below l.count) numbers × LeadTo l.parents numbers × (numbers ≡ numbers_after (all_below l.count) (take l.edge-index l.edges))
