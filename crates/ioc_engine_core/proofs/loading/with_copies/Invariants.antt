use Rattle.std.proofs.Common.{◌≡◌, ◌+◌, ◌++◌, length, map, drop}
use Rattle.std.specs.Prelude.{All}
use Rattle.std.specs.Vec.Iter.{into_iter_items}
use Rattle.ioc_set_records.specs.declared.loaded.Loaded.{Loaded}
use Rattle.ioc_engine_core.specs.Loading.{HaveDevices}
use Rattle.ioc_engine_core.proofs.loading.with_copies.Given as goal

-- The records so far have copies and their devices, and the others remain.
abbrev pub invariant-loop : goal.invariant-loop
invariant-loop g l = record {
  many : l.counter + length (into_iter_items l.left) ≡ length l.fn.records.items;
  copies : All (λ (x : Loaded g.row.K.Denot g.row.D.Denot). x.base ≡ x.fields) l.all.items;
  beside : into_iter_items l.beside ≡ drop (length l.all.items) l.fn.devices.items;
  devices : HaveDevices l.all.items l.fn.devices.items;
  records : map (λ (x : Loaded g.row.K.Denot g.row.D.Denot). x.fields) l.all.items ++ into_iter_items l.left ≡ l.fn.records.items;
}
