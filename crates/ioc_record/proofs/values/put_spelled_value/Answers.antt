use Rattle.std.proofs.Common.{◌≡◌, Err, rules}
use Rattle.ioc_values.specs.Conversion.{converted_text}
use Rattle.ioc_record.specs.Values.{field_sort}
use Rattle.ioc_record.proofs.Refusing.{not_put}
use Rattle.ioc_record.proofs.values.put_spelled_value.Goals as goal

pub returns-in-Err-clause-err : goal.returns-in-Err-clause-err
returns-in-Err-clause-err g c =
    let refused : converted_text c.args.text.now (field_sort (g.K.RecordKind.rules.states c.args.record.now) c.args.kind) ≡ Err c.in-Err.field-0 = search rules in
    not_put g.K.RecordKind.rules c.args.record.now c.args.field c.args.kind c.args.text.now c.in-Err.field-0 refused
