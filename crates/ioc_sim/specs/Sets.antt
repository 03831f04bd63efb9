-- The connected parts of a database. Application Developer's Guide, "Database Locking, Scanning,
-- and Processing": lock sets.
use Rattle.std.specs.Prelude.{ℕ, List, [], ◌∷◌, ◌++◌, map}
use Rattle.std.specs.FinMap.{entries, len}
use Rattle.ioc_graph.specs.declared.edges.Edge.{Edge}
use Rattle.ioc_graph.specs.Members.{part_numbers}
use Rattle.ioc_record.specs.RecordRules.{RecordRules, targets}
use Rattle.ioc_store.specs.World.{World}

-- The edges from a record to the records that its links lead to.
abbrev pub joined_to : ℕ → List ℕ → List Edge
joined_to n ts = map (λ t. record { from = n; to = t }) ts

module _ {R : Type 0} (k : RecordRules R) where
  -- The edges between these records by their links.
  abbrev pub joined_by : List (ℕ × R) → List Edge
  joined_by [] = []
  joined_by (e ∷ es) = joined_to e.0 (targets k e.1) ++ joined_by es

  -- For each record, the number of its connected part, which is the number of the part's first
  -- record.
  unfoldable pub parts_of : World R → List ℕ
  parts_of w = part_numbers (joined_by (entries w.records)) (len w.records)
