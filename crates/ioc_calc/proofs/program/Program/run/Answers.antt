use Rattle.std.proofs.Common.{take, arith, ◌∙◌, ap, sym}
use Rattle.ioc_calc.specs.Machine.{ran}
use Rattle.ioc_calc.specs.Program.{machine_of}
use Rattle.ioc_calc.proofs.Programs.{run_means}
use Rattle.ioc_calc.proofs.Runs.{machine}
use Rattle.ioc_calc.proofs.Turns.{turn_fits, turn_same, ended}
use Rattle.ioc_calc.proofs.program.Program.run.Goals as goal

pub loop-i-preserved : goal.loop-i-preserved
loop-i-preserved c = record {
  used = c.step.ensures.used;
  fits = turn_fits c.args.self.now.steps c.args.self.now.length c.loop-i.i _ _ _ _ _ c.loop-i-test.true
      (omega arith) c.loop-i.invariant.fits c.step.ensures.depth c.step.ensures.unused;
  same = turn_same c.args.value c.args.self.now.steps c.args.self.now.length c.loop-i.i _ _ _ c.loop-i-test.true
      (omega arith) c.step.ensures.value ∙ c.loop-i.invariant.same;
}

pub returns-clause-value : goal.returns-clause-value
returns-clause-value c = λ s p.
    c.new-2.ensures ∙ c.pop.ensures.value
    ∙ (ended c.args.value c.args.self.now.steps c.args.self.now.length c.loop-i.i c.args.self.now.numbers s c.args.arguments.now
    (machine_of c.args.self.now c.loop-i.run c.loop-i.arguments) (omega arith) (omega arith) p
    (c.loop-i.invariant.same
    ∙ ap (λ stack. ran c.args.value (take c.args.self.now.length c.args.self.now.steps)
    (machine c.args.arguments.now c.args.self.now.numbers stack)) c.new.ensures)).0

pub returns-clause-arguments : goal.returns-clause-arguments
returns-clause-arguments c = λ s p.
    (ended c.args.value c.args.self.now.steps c.args.self.now.length c.loop-i.i c.args.self.now.numbers s c.args.arguments.now
    (machine_of c.args.self.now c.loop-i.run c.loop-i.arguments) (omega arith) (omega arith) p
    (c.loop-i.invariant.same
    ∙ ap (λ stack. ran c.args.value (take c.args.self.now.length c.args.self.now.steps)
    (machine c.args.arguments.now c.args.self.now.numbers stack)) c.new.ensures)).1

pub returns-clause-of_text : goal.returns-clause-of_text
returns-clause-of_text c = λ text compiles.
    let meaning = run_means text compiles.statements compiles.expression c.args.value c.args.arguments.now in
    (returns-clause-value c compiles.statements compiles.program ∙ sym meaning.0, returns-clause-arguments c compiles.statements compiles.program ∙ sym meaning.1)
