use Rattle.std.proofs.Common.{◌≡◌, length, arith}
use Rattle.std.proofs.lemmas.List.{with_items_is}
use Rattle.rec_types.specs.Record.{record_rules}
use Rattle.ioc_dbfile.proofs.Closing.{own_closed}
use Rattle.ioc_dbfile.proofs.Idling.{own_quiet, own_idle}
use Rattle.ioc_dbfile.proofs.OwnLinks.{own_devices}
use Rattle.ioc_dbfile.proofs.database.Database.with_own_devices.Goals as goal

pub invariant_of-result : goal.invariant_of-result
invariant_of-result c =
    let kept : length c.link_all_own.new.records ≡ c.args.self.records.len = omega (arith, c.link_all_own.auto.records, c.as_mut_slice.ensures.len) in
    let items = with_items_is c.args.self.records c.link_all_own.new.records kept in
    let old = c.as_mut_slice.result.now in
    rw items (record {
      closed = own_closed c.args.self.names old c.link_all_own.new.records c.in_ok-link_all_own.ensures;
      quiet = own_quiet c.args.self.names old c.link_all_own.new.records c.in_ok-link_all_own.ensures (rw c.as_mut_slice.ensures.value c.args.self.idle);
      idle = own_idle c.args.self.names old c.link_all_own.new.records c.in_ok-link_all_own.ensures (rw c.as_mut_slice.ensures.value c.args.self.idle);
    })

pub returns-clause-own : goal.returns-clause-own
returns-clause-own c =
    let kept : length c.link_all_own.new.records ≡ c.args.self.records.len = omega (arith, c.link_all_own.auto.records, c.as_mut_slice.ensures.len) in
    let items = with_items_is c.args.self.records c.link_all_own.new.records kept in
    rw items (own_devices c.args.self.names c.as_mut_slice.result.now c.link_all_own.new.records c.in_ok-link_all_own.ensures)
