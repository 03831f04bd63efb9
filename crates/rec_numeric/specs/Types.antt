-- The types longin, int64in, longout and int64out, each with its laws.
use Rattle.std.specs.Prelude.{ℤ}
use Rattle.ioc_alarms.specs.Order.{whole_order}
use Rattle.ioc_record.specs.BodyRules.{BodyRules}
use Rattle.ioc_record.specs.BodyLaws.{IsLawfulBody}
use Rattle.rec_numeric.specs.Number.{long_number, int64_number}
use Rattle.rec_numeric.specs.NumberLaws.{long_lawful, int64_lawful}
use Rattle.rec_numeric.specs.Input.{numeric_input}
use Rattle.rec_numeric.specs.InputLaws.{input_lawful}
use Rattle.rec_numeric.specs.Output.{numeric_output}
use Rattle.rec_numeric.specs.OutputLaws.{output_lawful}
use Rattle.rec_numeric.specs.declared.input.NumericInput.{NumericInput}
use Rattle.rec_numeric.specs.declared.output.NumericOutput.{NumericOutput}

-- The rules of each type.
abbrev pub longin : BodyRules (NumericInput ℤ)
longin = numeric_input long_number whole_order

abbrev pub int64in : BodyRules (NumericInput ℤ)
int64in = numeric_input int64_number whole_order

abbrev pub longout : BodyRules (NumericOutput ℤ)
longout = numeric_output long_number whole_order

abbrev pub int64out : BodyRules (NumericOutput ℤ)
int64out = numeric_output int64_number whole_order

-- The laws of each type.
pub longin_lawful : IsLawfulBody longin
longin_lawful = input_lawful long_number whole_order long_lawful

pub int64in_lawful : IsLawfulBody int64in
int64in_lawful = input_lawful int64_number whole_order int64_lawful

pub longout_lawful : IsLawfulBody longout
longout_lawful = output_lawful long_number whole_order long_lawful

pub int64out_lawful : IsLawfulBody int64out
int64out_lawful = output_lawful int64_number whole_order int64_lawful
