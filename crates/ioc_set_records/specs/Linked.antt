-- The links of a loaded database, and the parts that they make of it.
--
-- Application Developer's Guide, "Database Locking, Scanning, and Processing": records that links
-- join are in one lock set.
use Rattle.std.specs.Prelude.{ℕ, ◌≡◌, ◌<◌, ◌≤◌, List, length, All, slice_get, slice_index}
use Rattle.std.specs.Option.{option_map}
use Rattle.ioc_graph.specs.Paths.{Connected}
use Rattle.ioc_record.specs.RecordRules.{RecordRules, targets}
use Rattle.ioc_set_records.specs.Joined.{Links, Names, Joined}
use Rattle.ioc_set_records.specs.declared.loaded.Loaded.{Loaded}

module _ {R D : Type 0} (k : RecordRules R) where
  -- The records that the standing links of each record name, by their indices; none if there is no
  -- such record.
  abbrev pub links_in : List (Loaded R D) → Links
  links_in all number = option_map (λ l. targets k l.fields) (slice_get all number)

  -- The number of its part for each record, which is that of the first record of the part.
  pub record AreParts (all : List (Loaded R D)) (parts : List ℕ) : Type 0 where
    pub one_each : length parts ≡ length all
    pub below : All (λ part. part < length parts) parts
    pub first : (a : ℕ) → a < length all → (slice_index parts a ≤ a) × (slice_index parts (slice_index parts a) ≡ slice_index parts a)
    -- A link leads to a record that exists and is in the same part.
    pub together : (a b : ℕ) → Names (links_in all) a b → (b < length all) × (slice_index parts a ≡ slice_index parts b)
    -- The records of a part are joined by links.
    pub joined : (a b : ℕ) → a < length all → b < length all → slice_index parts a ≡ slice_index parts b → Connected (Joined (links_in all)) a b
