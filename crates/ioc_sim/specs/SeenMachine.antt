-- The machine of the code, as the one of the specifications.
use Rattle.rec_types.specs.Record.{Record}
use Rattle.ioc_store.specs.OneMap.{world_of, device_at}
use Rattle.ioc_sim.specs.declared.machine.Machine.{Machine as Kept}
use Rattle.ioc_dbfile.specs.OwnerTable.{owner_in}
use Rattle.ioc_sim.specs.Machine.{Machine}

abbrev pub machine_of : Kept → Machine Record
machine_of m =
    record {
      world = world_of m.map;
      queued = device_at m.map.devices.items;
      tally = m.tally;
      scanner = m.scanner;
      owner = owner_in m.owners;
      next = m.next;
      ended = m.ended.items;
    }
