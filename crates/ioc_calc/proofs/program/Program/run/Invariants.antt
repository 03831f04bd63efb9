use Rattle.std.proofs.Common.{◌≡◌, ◌-◌, ◌≤◌, IsTrue, length, take, drop}
use Rattle.ioc_calc.specs.Machine.{can_run, ran}
use Rattle.ioc_calc.specs.Program.{machine_of}
use Rattle.ioc_calc.proofs.program.Program.run.Given as goal

abbrev pub invariant-loop-i : goal.invariant-loop-i
invariant-loop-i l = record {
  used : l.run.used ≤ 40;
  fits : IsTrue (can_run (drop l.i (take l.self.length l.self.steps)) (length l.run.stack) (40 - l.run.used));
  same : ran l.value (drop l.i (take l.self.length l.self.steps)) (machine_of l.self l.run l.arguments) ≡ ran l.value
      (take l.self.length l.self.steps) (machine_of l.self l.initial.run l.initial.arguments);
}
