use Rattle.std.proofs.Common.{ℕ, List, ◌++◌, ap, ◌∙◌}
use Rattle.std.proofs.lemmas.List.{take_all}
use Rattle.ioc_record.specs.Values.{text_of}
use Rattle.ioc_record.proofs.field_text.text_of.Goals as goal

pub returns : goal.returns
returns g c =
    let added = c.add_text.ensures.added ∙ ap (λ (bytes : List ℕ). bytes ++ text_of g.K.RecordKind.rules c.args.record.now c.args.field) c.new-out.ensures in
    c.cut.ensures ∙ take_all 120 c.as_slice.result.now c.as_slice.ensures.fits ∙ c.as_slice.ensures.value ∙ added
