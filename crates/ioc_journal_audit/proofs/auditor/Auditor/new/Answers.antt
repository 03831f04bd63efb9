use Rattle.std.proofs.Common.{◌≡◌, [], refl, sym, subst, ◌∙◌}
use Rattle.rec_types.specs.Record.{Record, record_rules}
use Rattle.ioc_events.specs.StepRules.{Replay, at_the_end}
use Rattle.ioc_process.specs.Rules.{IsSettled}
use Rattle.ioc_store.specs.World.{World}
use Rattle.ioc_journal_audit.specs.PlayedMap.{world_of}
use Rattle.ioc_journal_audit.proofs.Starting.{first_is}
use Rattle.ioc_journal_audit.proofs.auditor.Auditor.new.Goals as goal

pub invariant_of-result : goal.invariant_of-result
invariant_of-result c =
    let same = first_is (world_of c.new-map.result) c.args.records.items c.new-map.ensures.records (c.new-map.ensures.live ∙ c.in_ok-event.ensures.live) (c.new-map.ensures.waiting ∙ c.in_ok-event.ensures.waiting) c.new-map.ensures.fresh in
    record {
      settled = subst (λ (w : World Record). IsSettled record_rules w) (sym same) c.requires;
      empty = c.in_ok-frames.ensures.empty;
      room = c.in_ok-frames.ensures.room;
    }

pub returns : goal.returns
returns c =
    let same = first_is (world_of c.new-map.result) c.args.records.items c.new-map.ensures.records (c.new-map.ensures.live ∙ c.in_ok-event.ensures.live) (c.new-map.ensures.waiting ∙ c.in_ok-event.ensures.waiting) c.new-map.ensures.fresh in
    record {
      legal = record { numbered = tt; replay = subst (λ (w : World Record). Replay record_rules w [] (world_of c.new-map.result)) same at_the_end };
      place = refl;
      desks = c.new-2.ensures;
      begun = c.new-3.ensures;
    }
