use Rattle.std.proofs.Common.{◌≡◌, length}
use Rattle.rec_types.specs.Record.{record_rules}
use Rattle.ioc_dbfile.specs.OwnDevices.{first_device}
use Rattle.ioc_dbfile.proofs.own_devices.device_named.Given as goal

abbrev pub invariant-loop-rest : goal.invariant-loop-rest
invariant-loop-rest l =
    first_device (record_rules.link l.item) l.rest ≡ first_device (record_rules.link l.item) (record_rules.link_fields l.item)

abbrev pub decreases-loop-rest : goal.decreases-loop-rest
decreases-loop-rest l = length l.rest
