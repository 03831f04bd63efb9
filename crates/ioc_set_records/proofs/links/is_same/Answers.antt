use Rattle.std.proofs.Common.{sym, ap, ◌∙◌}
use Rattle.std.proofs.lemmas.Slice.Eq.{bytes_eq-Decides}
use Rattle.ioc_fields.specs.Names.{name_of}
use Rattle.ioc_set_records.proofs.FieldNames.{name_tells}
use Rattle.ioc_set_records.proofs.links.is_same.Goals as goal

pub returns : goal.returns
returns c =
    let same = bytes_eq-Decides c.name_of.result.now c.name_of-2.result.now in (
      λ t. name_tells c.args.one c.args.other (sym c.name_of.ensures ∙ same.0 (sym c.eq.ensures ∙ t) ∙ c.name_of-2.ensures),
      λ e. c.eq.ensures ∙ same.1 (c.name_of.ensures ∙ ap name_of e ∙ sym c.name_of-2.ensures),
    )
