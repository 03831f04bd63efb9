use Rattle.std.proofs.Common.{sym, subst}
use Rattle.rec_types.specs.Record.{Record, record_rules}
use Rattle.ioc_process.specs.Rules.{IsSettled}
use Rattle.ioc_process.specs.Quieting.{settled_by}
use Rattle.ioc_dbfile.specs.FirstWorld.{first_world}
use Rattle.ioc_store.specs.World.{World}
use Rattle.ioc_journal_audit.specs.PlayedMap.{world_of}
use Rattle.ioc_journal_audit.specs.Resuming.{world_with}
use Rattle.ioc_journal_audit.proofs.Restarting.{puts_are, with_settled}
use Rattle.ioc_journal_audit.proofs.auditor.Auditor.of.Goals as goal

pub invariant_of-result : goal.invariant_of-result
invariant_of-result c =
    let puts = c.args.event.follow_ups.notifications in
    let records = c.args.records.items in
    let same = puts_are (world_of c.new-map.result) records puts.live.live puts.waiting.waiting c.new-map.ensures.records c.new-map.ensures.live c.new-map.ensures.waiting c.new-map.ensures.fresh in
    record {
      settled = subst (λ (w : World Record). IsSettled record_rules w) (sym same)
          (settled_by record_rules (first_world records) (world_with records puts.live.live puts.waiting.waiting) (with_settled records puts.live.live puts.waiting.waiting) c.requires);
      empty = c.in_ok-frames.ensures.empty;
      room = c.in_ok-frames.ensures.room;
    }

pub returns-clause-world : goal.returns-clause-world
returns-clause-world c =
    let puts = c.args.event.follow_ups.notifications in
    puts_are (world_of c.new-map.result) c.args.records.items puts.live.live puts.waiting.waiting c.new-map.ensures.records c.new-map.ensures.live c.new-map.ensures.waiting c.new-map.ensures.fresh
