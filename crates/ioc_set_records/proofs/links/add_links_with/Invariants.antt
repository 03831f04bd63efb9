use Rattle.std.proofs.Common.{◌≡◌, ◌++◌, take}
use Rattle.ioc_dbcommon.specs.Links.{named_by_all}
use Rattle.ioc_set_records.specs.Edges.{edges_from}
use Rattle.ioc_set_records.proofs.links.add_links_with.Given as goal

abbrev pub invariant-loop-field : goal.invariant-loop-field
invariant-loop-field g l =
    let k = g.K.RecordKind.rules in
    l.edges.items ≡ l.initial.edges.items ++ edges_from l.number (named_by_all (k.link (k.with_link l.fields l.changed l.link)) (take l.field-index (k.link_fields l.fields)))
