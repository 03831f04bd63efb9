use Rattle.std.proofs.Common.{◌≡◌, length}
use Rattle.std.specs.List.{list_any}
use Rattle.rec_types.specs.Record.{record_rules}
use Rattle.ioc_dbfile.specs.Owners.{leads_home}
use Rattle.ioc_dbfile.proofs.owners.owns_device.Given as goal

abbrev pub invariant-loop-rest : goal.invariant-loop-rest
invariant-loop-rest l =
    list_any (λ f. leads_home (record_rules.link l.item f)) l.rest ≡ list_any (λ f. leads_home (record_rules.link l.item f)) (record_rules.link_fields l.item)

abbrev pub decreases-loop-rest : goal.decreases-loop-rest
decreases-loop-rest l = length l.rest
