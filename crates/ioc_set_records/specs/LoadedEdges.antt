-- The links of records as edges.
use Rattle.std.specs.Prelude.{ℕ, ◌↔◌, List, Contains}
use Rattle.ioc_graph.specs.declared.edges.Edge.{Edge}
use Rattle.ioc_set_records.specs.Joined.{Links, Names}

-- Holds if there is an edge if and only if there is a link.
abbrev pub AreEdges : Links → List Edge → Type 0
AreEdges links edges = (a b : ℕ) → Contains edges (record { from = a; to = b }) ↔ Names links a b
