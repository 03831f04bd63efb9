use Rattle.std.proofs.Common.{◌≡◌, ℕ, ◌-◌, ◌++◌, List, length}
use Rattle.rec_types.specs.Record.{record_rules}
use Rattle.ioc_store.specs.OneMap.{world_of}
use Rattle.ioc_graph.specs.Members.{Follow}
use Rattle.ioc_main.specs.Sets.{part_words, other_names}
use Rattle.ioc_main.proofs.sets.add_part.Given as goal

-- The remaining members follow from this place.
abbrev pub invariant-loop-number : goal.invariant-loop-number
invariant-loop-number l =
    (left : List ℕ) × Follow l.next l.number left
    × (l.line.items ++ other_names record_rules (world_of l.map) left ≡ l.fn.line.items ++ part_words record_rules (world_of l.map) l.numbers l.first)

abbrev pub decreases-loop-number : goal.decreases-loop-number
decreases-loop-number l = length l.next - l.number
