use Rattle.std.proofs.Common.{◌≡◌, true, false, Some, get_or, sym, ap, ◌∙◌}
use Rattle.ioc_fields.specs.declared.field_no.FieldNo.{FieldNo}
use Rattle.ioc_fields.specs.declared.field_no.FieldNo.TheVariants.{Common as Common-field}
use Rattle.ioc_fields.specs.declared.field_no.CommonField.TheVariants.{Name}
use Rattle.ioc_set_records.proofs.EdgeLaws.{after_one}
use Rattle.ioc_set_records.proofs.links.add_links_with.Goals as goal
use Rattle.ioc_set_records.proofs.links.add_links_with.Goals.{then-is_same+in_ok-add_link, else-is_same+in_ok-add_link-2}

pub loop-field-preserved : goal.loop-field-preserved
loop-field-preserved g c =
    let k = g.K.RecordKind.rules in
    let r = c.args.fields.now in
    let l = c.args.link.now in
    let changed = c.args.changed in
    let read = c.link_fields-field-items.result.now in
    let i = c.loop-field.field-index in
    let f : FieldNo = get_or read i (Common-field Name) in
    elim c.if-is_same.branch [
      | then-is_same+in_ok-add_link w ↦
          let e : f ≡ changed = c.is_same.ensures.0 w.if-is_same.true in
          after_one c.args.edges.now.items c.loop-field.edges.items c.if-is_same.edges.items c.args.number (k.link (k.with_link r changed l)) (k.link_fields r) read i (Common-field Name) (Some l)
          c.link_fields-field-items.ensures c.loop-field-test.true c.loop-field.invariant
          (sym (ap (k.link (k.with_link r changed l)) e ∙ g.met.K.RecordKind.lawful.set_here r changed l c.requires)) (ap (λ z. z.items) w.edges-is ∙ w.in_ok-add_link.ensures)
      | else-is_same+in_ok-add_link-2 w ↦
          let n = λ (h : f ≡ changed). absurd (let z : false ≡ true = sym w.if-is_same.false ∙ c.is_same.ensures.1 h in cc) in
          after_one c.args.edges.now.items c.loop-field.edges.items c.if-is_same.edges.items c.args.number (k.link (k.with_link r changed l)) (k.link_fields r) read i (Common-field Name) _
          c.link_fields-field-items.ensures c.loop-field-test.true c.loop-field.invariant
          (w.link.ensures ∙ sym (g.met.K.RecordKind.lawful.set_others r changed f l n)) (ap (λ z. z.items) w.edges-is ∙ w.in_ok-add_link-2.ensures)
    ]
