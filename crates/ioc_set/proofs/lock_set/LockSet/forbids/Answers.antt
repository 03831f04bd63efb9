use Rattle.std.proofs.Common.{◌∙◌, ap}
use Rattle.ioc_set_records.specs.Contents.{record_at}
use Rattle.ioc_dbcommon.specs.declared.common.Common.{Common}
use Rattle.ioc_record.specs.Values.{stops_put}
use Rattle.ioc_set.specs.SetState.{SetState}
use Rattle.ioc_set.proofs.Linked.{record_now}
use Rattle.ioc_set.proofs.lock_set.LockSet.forbids.Goals as goal

pub returns : goal.returns
returns g c =
    let k = g.K.RecordKind.rules in
    let same = c.record.ensures ∙ ap (λ (h : SetState g.row.K.Denot g.row.D.Denot). record_at k h.records c.args.number) c.self.view_is ∙ record_now k c.args.self.now c.args.number in
    c.stops_put.ensures ∙ ap (λ (x : Common). stops_put x c.args.field) c.common.ensures ∙ ap (λ (r : g.row.K.Denot). stops_put (k.common r) c.args.field) same
