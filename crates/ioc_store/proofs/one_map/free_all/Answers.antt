use Rattle.std.proofs.Common.{◌≡◌, ◌<◌, ◌≤◌, length, get_or, ap, append-nil, ◌∙◌, arith}
use Rattle.std.proofs.lemmas.List.{take_all, drop_all}
use Rattle.ioc_store.specs.World.{freed}
use Rattle.ioc_store.specs.Freeing.{map_more, get_more, all_mapped}
use Rattle.ioc_store.proofs.one_map.free_all.Goals as goal

pub loop-record-preserved : goal.loop-record-preserved
loop-record-preserved g c =
    let f = freed g.K.RecordKind.rules c.args.notification in
    let all = c.args.records.now.items in
    let i = c.loop-record.record-index in
    let x = c.record-item.result in
    let below : i < length all = omega (arith, c.loop-record-test.true, ap length c.deref_mut-record-items.ensures.value) in
    let new : c.free.new.record ≡ f (get_or all i x) = c.free.ensures ∙ ap (λ rs. f (get_or rs i x)) c.loop-record.invariant ∙ ap f (get_more f all i x below) in
    rw (new, c.loop-record.invariant) (map_more f all i x below)

pub returns : goal.returns
returns g c =
    let f = freed g.K.RecordKind.rules c.args.notification in
    let all = c.args.records.now.items in
    let after = c.loop-record.record-items in
    let few : length all ≤ length after = omega (arith, c.loop-record.auto.record-items, c.deref_mut-record-items.ensures.len, ap length c.deref_mut-record-items.ensures.value) in
    let fits : length after ≤ c.args.records.now.len = omega (arith, c.loop-record.auto.record-items, ap length c.deref_mut-record-items.ensures.value, c.args.records.now.ok.0) in
    let past : length all ≤ c.loop-record.record-index = omega (arith, c.loop-record-test.false, ap length c.deref_mut-record-items.ensures.value) in
    rw (drop_all (length after) all few, append-nil after, take_all c.args.records.now.len after fits) (c.loop-record.invariant ∙ all_mapped f all c.loop-record.record-index past)
