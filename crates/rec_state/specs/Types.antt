-- The types bi, mbbi, bo and mbbo, each with its new record and its laws.
use Rattle.ioc_record.specs.BodyRules.{BodyRules}
use Rattle.ioc_record.specs.BodyLaws.{IsLawfulBody}
use Rattle.rec_state.specs.TwoStates.{two_states, two_lawful}
use Rattle.rec_state.specs.SixteenStates.{sixteen_states, sixteen_lawful}
use Rattle.rec_state.specs.Input.{state_input, new_input}
use Rattle.rec_state.specs.InputLaws.{input_lawful}
use Rattle.rec_state.specs.Output.{state_output, new_output}
use Rattle.rec_state.specs.OutputLaws.{output_lawful}
use Rattle.rec_state.specs.declared.two_states.TwoStates.{TwoStates}
use Rattle.rec_state.specs.declared.sixteen_states.SixteenStates.{SixteenStates}
use Rattle.rec_state.specs.declared.input.StateInput.{StateInput}
use Rattle.rec_state.specs.declared.output.StateOutput.{StateOutput}

-- The rules of each type.
abbrev pub bi : BodyRules (StateInput TwoStates)
bi = state_input two_states

abbrev pub mbbi : BodyRules (StateInput SixteenStates)
mbbi = state_input sixteen_states

abbrev pub bo : BodyRules (StateOutput TwoStates)
bo = state_output two_states

abbrev pub mbbo : BodyRules (StateOutput SixteenStates)
mbbo = state_output sixteen_states

-- The type-specific fields of a new record of each type.
abbrev pub new_bi : StateInput TwoStates
new_bi = new_input two_states

abbrev pub new_mbbi : StateInput SixteenStates
new_mbbi = new_input sixteen_states

abbrev pub new_bo : StateOutput TwoStates
new_bo = new_output two_states

abbrev pub new_mbbo : StateOutput SixteenStates
new_mbbo = new_output sixteen_states

-- The laws of each type.
pub bi_lawful : IsLawfulBody bi
bi_lawful = input_lawful two_states two_lawful

pub mbbi_lawful : IsLawfulBody mbbi
mbbi_lawful = input_lawful sixteen_states sixteen_lawful

pub bo_lawful : IsLawfulBody bo
bo_lawful = output_lawful two_states two_lawful

pub mbbo_lawful : IsLawfulBody mbbo
mbbo_lawful = output_lawful sixteen_states sixteen_lawful
