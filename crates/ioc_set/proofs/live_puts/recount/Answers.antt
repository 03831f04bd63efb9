use Rattle.std.proofs.Common.{◌≡◌, ◌∙◌, List, ap, sym, subst}
use Rattle.std.specs.FinMap.{entries}
use Rattle.ioc_notify.specs.declared.live_numbers.Live.{Live}
use Rattle.ioc_notify.specs.declared.waiting_lists.Waiting.{Waiting}
use Rattle.ioc_notify.specs.Waits.{Waits}
use Rattle.ioc_events.specs.Holding.{HoldersCounted}
use Rattle.ioc_set.specs.Resting.{resting}
use Rattle.ioc_set.specs.Recounting.{gained_by, gained_each, lost_each}
use Rattle.ioc_set.proofs.Counted.{recounted, none-counted}
use Rattle.ioc_set.proofs.live_puts.recount.Given.{Over}
use Rattle.ioc_set.proofs.live_puts.recount.Goals.{After-clear_ended}
use Rattle.ioc_set.proofs.live_puts.recount.Goals as goal

-- The live ones at the end, by the steps that counted their parts.
module _ (g : Over) (c : After-clear_ended g) where
  counted_by : c.clear_ended.new.self.live.live
      ≡ lost_each c.args.kept.now.live.live (gained_each c.args.kept.now.waiting.waiting (gained_by g.K.RecordKind.rules (entries c.args.members.now.records) c.args.kept.now.live.live))
  counted_by =
      let candidates = c.as_slice.ensures.value ∙ c.copy_live.ensures.items ∙ c.live.ensures in
      c.clear_ended.ensures.live ∙ c.let_go_each.ensures.live
      ∙ ap (λ (l : List Live). lost_each l c.count_waiting.new.into.live.live) candidates
      ∙ ap (λ (l : List Live). lost_each c.args.kept.now.live.live l) (c.count_waiting.ensures.live
      ∙ ap (λ (w : Waits). gained_each w.waiting c.count_records.new.into.live.live) c.count_records.ensures.waiting
      ∙ ap (λ (l : List Live). gained_each c.args.kept.now.waiting.waiting l) c.count_records.ensures.live)

pub returns-clause-counted : goal.returns-clause-counted
returns-clause-counted g c =
    let k = g.K.RecordKind.rules in
    let rs = c.args.members.now.records in
    let ws = c.args.kept.now.waiting.waiting in
    let waits : c.clear_ended.new.self.waiting.waiting ≡ ws = ap (λ (w : Waits). w.waiting) (c.clear_ended.ensures.waiting ∙ c.let_go_each.ensures.waiting ∙ c.count_waiting.ensures.waiting ∙ c.count_records.ensures.waiting) in
    subst (λ (w : List Waiting). HoldersCounted k (resting rs c.clear_ended.new.self.live.live w)) (sym waits)
    (recounted k rs ws c.args.kept.now.live.live c.clear_ended.new.self.live.live c.requires.begun c.requires.live c.requires.waits_once c.requires.few
    (counted_by g (goal.at.returns-clause-counted g c).After-clear_ended))

pub returns-clause-none : goal.returns-clause-none
returns-clause-none g c none nobody =
    none-counted g.K.RecordKind.rules c.args.members.now.records c.clear_ended.new.self.live.live c.args.kept.now.live.live c.args.kept.now.waiting.waiting none nobody
    (counted_by g (goal.at.returns-clause-none g c).After-clear_ended)
