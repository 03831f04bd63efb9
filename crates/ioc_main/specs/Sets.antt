-- The line `sets`: the connected parts of a database by their first records, each with the names of
-- its records in braces.
use Rattle.std.specs.Prelude.{ℕ, ◌+◌, ◌==◌, if◌then◌else◌, List, [], ◌∷◌, ◌++◌, length, codes, slice_index}
use Rattle.ioc_graph.specs.Parts.{all_below}
use Rattle.ioc_graph.specs.Members.{members_from}
use Rattle.ioc_record.specs.RecordRules.{RecordRules}
use Rattle.ioc_store.specs.World.{World, common_at}
use Rattle.ioc_sim.specs.Sets.{parts_of}

module _ {R : Type 0} (k : RecordRules R) (w : World R) where
  -- The name of a record.
  abbrev pub name_at : ℕ → List ℕ
  name_at n = (common_at k w n).name

  -- The names behind the first one, and the closing brace.
  abbrev pub other_names : List ℕ → List ℕ
  other_names [] = codes "}"
  other_names (n ∷ ns) = codes " " ++ name_at n ++ other_names ns

  -- The names of a part, by its first record.
  unfoldable pub part_words : List ℕ → ℕ → List ℕ
  part_words numbers p = codes " {" ++ name_at p ++ other_names (members_from numbers p (p + 1))

  -- The names of the part that begins with this record, if it is the first of its part.
  abbrev pub first_words : List ℕ → ℕ → List ℕ
  first_words numbers n = if slice_index numbers n == n then part_words numbers n else []

  abbrev pub parts_words : List ℕ → List ℕ → List ℕ
  parts_words numbers [] = []
  parts_words numbers (n ∷ ns) = first_words numbers n ++ parts_words numbers ns

  unfoldable pub sets_line : List ℕ
  sets_line = codes "sets" ++ parts_words (parts_of k w) (all_below (length (parts_of k w))) ++ 10 ∷ []
