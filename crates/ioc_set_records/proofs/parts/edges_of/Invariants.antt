use Rattle.std.proofs.Common.{ℕ, ◌<◌}
use Rattle.std.specs.Prelude.{◌↔◌, Contains}
use Rattle.ioc_set_records.specs.Joined.{Names}
use Rattle.ioc_set_records.specs.Linked.{links_in}
use Rattle.ioc_set_records.proofs.parts.edges_of.Given as goal

-- The edges of the records visited so far are collected.
abbrev pub invariant-loop-number : goal.invariant-loop-number
invariant-loop-number g l =
    let links = links_in g.K.RecordKind.rules l.all in
    (a b : ℕ) → Contains l.edges.items (record { from = a; to = b }) ↔ ((a < l.number) × Names links a b)
