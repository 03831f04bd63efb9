use Rattle.ioc_journaled_set.proofs.journaled_set.JournaledSet.into_ended.Goals as goal

pub invariant_of-result : goal.invariant_of-result
invariant_of-result g c = (c.self.invariant.0.devices, c.self.invariant.2)
