use Rattle.std.proofs.Common.{◌++◌, ap, ◌∙◌}
use Rattle.ioc_record.specs.Values.{sort_at, digits_at, value_text}
use Rattle.ioc_record.proofs.PlainTexts.{plain_elsewhere}
use Rattle.ioc_record.proofs.field_text.add_value.Goals as goal

pub returns-in_default-clause-added : goal.returns-in_default-clause-added
returns-in_default-clause-added g c =
    c.add_unnumbered.ensures.added
    ∙ ap (λ l. c.args.out.now ++ l) (plain_elsewhere (sort_at g.K.RecordKind.rules c.args.record.now c.args.field) (digits_at g.K.RecordKind.rules c.args.record.now) c.args.value.now c.in_default.not-Enum)

pub returns-in-None-clause-added : goal.returns-in-None-clause-added
unfolding value_text
returns-in-None-clause-added g c = rw (← c.record_type.ensures, ← c.in-None.ensures) c.add_unnumbered-in-None.ensures.added
