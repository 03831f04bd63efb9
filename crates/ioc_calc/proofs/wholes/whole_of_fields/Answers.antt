use Rattle.std.proofs.Common.{arith}
use Rattle.ioc_calc.proofs.WholeSizes.{fields_high, fields_middle, fields_low}
use Rattle.ioc_calc.proofs.wholes.whole_of_fields.Goals as goal

pub returns-then-field-ge1075-clause-value : goal.returns-then-field-ge1075-clause-value
returns-then-field-ge1075-clause-value c = fields_high c.args.field c.args.digits (omega arith)

pub returns-then-field-ge1023-clause-value : goal.returns-then-field-ge1023-clause-value
returns-then-field-ge1023-clause-value c = fields_middle c.args.field c.args.digits (omega arith) (omega arith)

pub returns-else-field-ge1023-clause-value : goal.returns-else-field-ge1023-clause-value
returns-else-field-ge1023-clause-value c = fields_low c.args.field c.args.digits (omega arith) c.requires.digits
