use Rattle.ioc_calc.proofs.Programs.{accepted, rejected}
use Rattle.ioc_calc.proofs.expression.compile.Goals as goal

pub returns-clause-accepted : goal.returns-clause-accepted
returns-clause-accepted c = accepted _ _ c.compiled.ensures.compiled

pub returns-clause-rejected : goal.returns-clause-rejected
returns-clause-rejected c = rejected _ _ c.compiled.ensures.fault
