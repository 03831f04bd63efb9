use Rattle.ioc_fields.specs.declared.field_no.FieldNo.TheVariants.{Common as Common-field}
use Rattle.ioc_fields.specs.declared.field_no.CommonField.TheVariants.{Name}
use Rattle.ioc_set_records.proofs.EdgeLaws.{after_one}
use Rattle.ioc_set_records.proofs.links.add_links.Goals as goal

pub loop-field-preserved : goal.loop-field-preserved
loop-field-preserved g c =
    let k = g.K.RecordKind.rules in
    after_one c.args.edges.now.items c.loop-field.edges.items c.add_link.new.edges.items c.args.number (k.link c.args.fields.now) (k.link_fields c.args.fields.now) c.link_fields-field-items.result.now c.loop-field.field-index (Common-field Name) _
    c.link_fields-field-items.ensures c.loop-field-test.true c.loop-field.invariant c.link.ensures c.in_ok-add_link.ensures
