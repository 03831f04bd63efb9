use Rattle.std.proofs.Common.{◌≡◌, ◌≤◌, ◌-◌, ◌++◌, length}
use Rattle.std.specs.List.{range_with_len}
use Rattle.rec_types.specs.Record.{record_rules}
use Rattle.ioc_store.specs.OneMap.{world_of}
use Rattle.ioc_graph.specs.Parts.{all_below}
use Rattle.ioc_main.specs.Sets.{parts_words}
use Rattle.ioc_main.proofs.sets.add_parts.Given as goal

abbrev pub invariant-loop-number : goal.invariant-loop-number
invariant-loop-number l =
    (l.line.items ++ parts_words record_rules (world_of l.map) l.numbers (range_with_len l.number (length l.numbers - l.number))
    ≡ l.initial.line.items ++ parts_words record_rules (world_of l.map) l.numbers (all_below (length l.numbers)))
    × (l.number ≤ length l.numbers)

abbrev pub decreases-loop-number : goal.decreases-loop-number
decreases-loop-number l = length l.numbers - l.number
