-- What is left of an engine when it ends. Application Developer's Guide, "Database Locking,
-- Scanning, and Processing", lock sets. The journal is this project's own.
use Rattle.std.specs.Prelude.{◌<◌, ◌↔◌, ℕ, List, Option, All, Any, Contains}
use Rattle.std.specs.List.{sum_by}
use Rattle.ioc_record.specs.RecordRules.{RecordRules}
use Rattle.ioc_graph.specs.Paths.{Connected}
use Rattle.ioc_set_records.specs.Joined.{links_of, Joined}
use Rattle.ioc_store.specs.World.{World}
use Rattle.ioc_topology.specs.Gathered.{HoldEach}
use Rattle.ioc_journal.specs.declared.entry.Note.{Note}
use Rattle.ioc_journal.specs.Legal.{map_of}
use Rattle.ioc_journal.specs.Account.{IsAccount}
use Rattle.ioc_journaled_set.specs.Copies.{IsIn}
use Rattle.ioc_journaled_set.specs.Holding.{HeldView, KeepsDevices, numbers_of, IsSoundlyHeld}
use Rattle.ioc_watched.specs.Watched.{AreFresh}
use Rattle.ioc_ledger.specs.declared.tally.Tally.{Tally}
use Rattle.ioc_ledger.specs.Requests.{filled}

-- Holds if two records are in one of these sets.
abbrev pub ShareASet : {R D : Type 0} → List (HeldView R D) → ℕ → ℕ → Type 0
ShareASet sets p q = Any (λ (h : HeldView _ _). Contains (numbers_of h) p × Contains (numbers_of h) q) sets

module _ {R D : Type 0} (k : RecordRules R) (base : World R) where
  -- The sets have each of the first `count` records, and none is in two of them. Each set is sound,
  -- so its records are one connected part, and each record has its device, of which `had` tells. The
  -- list of all calls is legal, and leads from the world at the load to the records of the sets and
  -- their waiting lists. Two records are in one set exactly if standing links join them. Each watched
  -- record that isn't marked ends as it was told last: as it was after the calls up to then.
  pub record IsEnd (had : ℕ → Option D → Type 0) (count : ℕ) (log : List Note) (sets : List (HeldView R D)) : Type 0 where
    pub each : HoldEach numbers_of sets count
    pub sound : All (IsSoundlyHeld k base) sets
    pub devices : All (λ (h : HeldView R D). KeepsDevices had h.set) sets
    pub fresh : All (λ (h : HeldView R D). AreFresh k base h.set.records h.watched) sets
    pub in_all : All (IsIn (map_of k base log)) sets
    pub legal : IsAccount k base log
    pub joined : (p q : ℕ) → p < count → q < count → ShareASet sets p q ↔ Connected (Joined (links_of k (map_of k base log).records)) p q

-- The sum of a count of these sets, which stops at the greatest number of 64 bits.
abbrev pub summed : {R D : Type 0} → (Tally → ℕ) → List (HeldView R D) → ℕ
summed count sets = filled 0 (sum_by (λ (h : HeldView _ _). count h.set.tally) sets)

-- The counts of these sets together.
abbrev pub counts_in : {R D : Type 0} → List (HeldView R D) → Tally
counts_in sets = record {
  begun = summed (λ t. t.begun) sets;
  processed = summed (λ t. t.processed) sets;
  disabled = summed (λ t. t.disabled) sets;
  active = summed (λ t. t.active) sets;
  reprocess = summed (λ t. t.reprocess) sets;
  started = summed (λ t. t.started) sets;
  completed = summed (λ t. t.completed) sets;
}
