-- What names an engine. This project's own.
use Rattle.std.specs.Prelude.{◌≡◌, ℕ, Option}
use Rattle.atomic_table.specs.Seated.{TableId}
use Rattle.rec_types.specs.Record.{Record}
use Rattle.ioc_store.specs.World.{World}
use Rattle.ioc_ledger.specs.Shared.{names_of}
use Rattle.ioc_journal.specs.declared.journal_name.JournalName
use Rattle.ioc_journal.specs.declared.cell.CellName
use Rattle.ioc_journaled_set.specs.declared.sets_name.SetsName
use Rattle.ioc_engine_core.specs.Loading.{loaded_world, device_in}
use Rattle.ioc_engine.specs.declared.seed.Seed.{Seed}

-- Holds if the engine that a seed becomes has this name: its cell, the world and the devices of
-- records at the load, and the ledgers of places, tickets and counts.
pub record IsNamedBy {D : Type 0} (table : TableId) (base : World Record) (devices : ℕ → Option D) (places tickets : ℕ) (counts : ℕ → ℕ) (seed : Seed D) : Type 0 where
  pub table_is : seed.cell.table.shared.table_id ≡ table
  pub base_is : base ≡ loaded_world seed.records.items
  pub devices_are : devices ≡ device_in seed.records.items
  pub places_are : seed.places.name ≡ places
  pub tickets_are : seed.tickets.name ≡ tickets
  pub counts_are : counts ≡ names_of seed.counts

-- The name of the engine that a seed becomes.
abbrev pub name_of : {S D : Type 0} → Seed D → JournalName.Ghosts S Record
name_of seed = record { base = loaded_world seed.records.items; places = seed.places.name; tickets = seed.tickets.name; counts = names_of seed.counts }

abbrev pub cell_of : {S D : Type 0} → Seed D → CellName.Ghosts S
cell_of seed = record { table = seed.cell.table.shared.table_id }

abbrev pub devices_of : {S D : Type 0} → Seed D → SetsName.Ghosts S Record D
devices_of seed = record { devices = device_in seed.records.items }
