use Rattle.std.proofs.Common.{◌≡◌, true, false, is_some, rules}
use Rattle.ioc_values.specs.Conversion.{value_in}
use Rattle.ioc_record.specs.RecordRules.{number_stored}
use Rattle.ioc_record.proofs.Putting.{number_put, number_left}
use Rattle.ioc_record.proofs.values.put_spelled_number.Goals as goal

pub returns-then-store_number-clause-ok : goal.returns-then-store_number-clause-ok
returns-then-store_number-clause-ok g c =
    let fits : is_some (value_in c.args.range c.in-Some.number) ≡ true = search rules in
    let stored : c.store_number.new.self ≡ number_stored g.K.RecordKind.rules c.args.record.now c.args.field (value_in c.args.range c.in-Some.number) = search rules in
    number_put g.K.RecordKind.rules c.args.record.now c.store_number.new.self c.args.field c.args.range c.args.text.now c.spelled_number.result c.in-Some.number
    c.spelled_number.ensures c.in-Some.is fits stored

pub returns-else-store_number-clause-err : goal.returns-else-store_number-clause-err
returns-else-store_number-clause-err g c =
    let none : is_some (value_in c.args.range c.in-Some.number) ≡ false = search rules in
    number_left g.K.RecordKind.rules c.args.record.now c.args.field c.args.range c.args.text.now c.spelled_number.result c.in-Some.number
    c.spelled_number.ensures c.in-Some.is none
