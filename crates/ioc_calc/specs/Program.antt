-- What a program and a run show.
use Rattle.std.specs.Prelude.{List, take, drop}
use Rattle.std.specs.Float.Ieee.{Float}
use Rattle.ioc_calc.specs.declared.program.Program.{Program}
use Rattle.ioc_calc.specs.declared.program.Run.{Run}
use Rattle.ioc_calc.specs.Machine.{Code, Machine}

abbrev pub code_of : Program → Code
code_of p = record { steps = take p.length p.steps; numbers = p.numbers }

abbrev pub machine_of : Program → Run → List Float → Machine
machine_of p run arguments = record { arguments = arguments; numbers = drop run.used p.numbers; stack = run.stack }
