use Rattle.std.proofs.Common.{◌≡◌, length, arith}
use Rattle.std.proofs.lemmas.List.{with_items_is}
use Rattle.rec_types.specs.Record.{record_rules}
use Rattle.ioc_dbfile.specs.Owners.{owner_of}
use Rattle.ioc_dbfile.proofs.Closing.{finished_closed}
use Rattle.ioc_dbfile.proofs.Idling.{finished_quiet, finished_idle}
use Rattle.ioc_dbfile.proofs.database.Database.new.Goals as goal

pub invariant_of-result : goal.invariant_of-result
invariant_of-result c =
    let kept : length c.finish_all.new.records ≡ c.args.records.len = omega (arith, c.finish_all.auto.records, c.as_mut_slice.ensures.len) in
    let items = with_items_is c.args.records c.finish_all.new.records kept in
    let owner = owner_of record_rules c.as_mut_slice.result.now in
    rw items (record {
      closed = finished_closed c.args.names owner c.as_mut_slice.result.now c.finish_all.new.records c.in_ok-finish_all.ensures;
      quiet = finished_quiet c.args.names owner c.as_mut_slice.result.now c.finish_all.new.records c.in_ok-finish_all.ensures (rw c.as_mut_slice.ensures.value c.requires);
      idle = finished_idle c.args.names owner c.as_mut_slice.result.now c.finish_all.new.records c.in_ok-finish_all.ensures (rw c.as_mut_slice.ensures.value c.requires);
    })
