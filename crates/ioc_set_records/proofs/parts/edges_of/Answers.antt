use Rattle.std.proofs.Common.{length, ap, ◌∙◌, ◌++◌, refl}
use Rattle.std.proofs.lemmas.Option.{slice_get_read}
use Rattle.ioc_record.specs.RecordRules.{targets}
use Rattle.ioc_set_records.specs.Edges.{edges_from}
use Rattle.ioc_set_records.proofs.Linked.{edges_more, edges_whole}
use Rattle.ioc_set_records.proofs.parts.edges_of.Goals as goal

pub loop-number-preserved : goal.loop-number-preserved
loop-number-preserved g c =
    let k = g.K.RecordKind.rules in
    let all = c.args.all.now in
    let n = c.loop-number.number in
    let l = c.index-all-number.result in
    let es = c.loop-number.edges.items in
    edges_more k all es c.add_links.new.edges.items n l (slice_get_read all (length all) n l refl c.loop-number-test.true c.index-all-number.is)
    (c.in_ok-add_links.ensures ∙ ap (λ i. es ++ edges_from i (targets k l.fields)) c.new.ensures) c.loop-number.invariant

pub returns : goal.returns
returns g c = edges_whole g.K.RecordKind.rules c.args.all.now c.loop-number.edges.items c.loop-number.number c.loop-number-test.false c.loop-number.invariant
