use Rattle.std.proofs.Common.{◌∙◌, ap}
use Rattle.ioc_store.specs.Scanning.{device_of}
use Rattle.ioc_set.specs.SetState.{SetState}
use Rattle.ioc_set_records.specs.Contents.{record_at}
use Rattle.ioc_set.proofs.Linked.{record_now}
use Rattle.ioc_set.proofs.lock_set.LockSet.device_text.Goals as goal

pub returns : goal.returns
returns g c =
    let k = g.K.RecordKind.rules in
    c.device_of.ensures ∙ ap (device_of k) (c.record.ensures ∙ ap (λ (h : SetState g.row.K.Denot g.row.D.Denot). record_at k h.records c.args.number) c.self.view_is ∙ record_now k c.args.self.now c.args.number)
