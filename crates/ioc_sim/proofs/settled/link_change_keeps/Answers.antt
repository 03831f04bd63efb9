use Rattle.std.specs.Prelude.{Ok}
use Rattle.ioc_device.specs.declared.Answer.TheVariants.{Fault}
use Rattle.ioc_ledger.specs.Requests.{None}
use Rattle.ioc_store.specs.Given.{Answers}
use Rattle.ioc_events.specs.declared.event.Call.TheVariants.{Link}
use Rattle.ioc_events.specs.StepRules.{takes_link}
use Rattle.ioc_sim.proofs.settled.link_change_keeps.Goals as goal

-- A link change calls no device.
no_answers : Answers
no_answers calls n ask = Fault

pub returns-clause-settled : goal.returns-clause-settled
returns-clause-settled c = λ w n field link taken settled. c.calls_leave_settled.ensures no_answers w _ (Link n field link (Ok tt)) None (takes_link taken) settled

pub returns-clause-count : goal.returns-clause-count
returns-clause-count c = λ w n field link taken closed. (c.calls_keep_records.ensures no_answers w _ (Link n field link (Ok tt)) None (takes_link taken) closed).count
