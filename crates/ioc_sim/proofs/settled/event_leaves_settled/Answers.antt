use Rattle.ioc_sim.proofs.settled.event_leaves_settled.Goals as goal

pub returns : goal.returns
returns c = λ answers w event settled. c.events_leave_settled.ensures.event answers w _ event _ _ (c.rules_are_steps.ensures.allowed answers w event) settled
