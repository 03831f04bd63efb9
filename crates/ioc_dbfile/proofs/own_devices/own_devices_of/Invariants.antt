use Rattle.std.proofs.Common.{◌≡◌, ◌++◌, length, map}
use Rattle.rec_types.specs.Record.{record_rules}
use Rattle.ioc_dbfile.specs.OwnDevices.{device_named}
use Rattle.ioc_dbfile.proofs.own_devices.own_devices_of.Given as goal

abbrev pub invariant-loop-rest : goal.invariant-loop-rest
invariant-loop-rest l = l.names.items ++ map (device_named record_rules) l.rest ≡ map (device_named record_rules) l.records

abbrev pub decreases-loop-rest : goal.decreases-loop-rest
decreases-loop-rest l = length l.rest
