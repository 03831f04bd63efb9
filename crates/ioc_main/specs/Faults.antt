-- Faults of a run of a script.
use Rattle.std.specs.Prelude.{String, Result, Ok, Err}
use Rattle.std.specs.Global.{Global}
use Rattle.std.specs.IoError.{error_kind}
use Rattle.std.specs.declared.io.Error.{Error}
use Rattle.ioc_values.specs.declared.error.LoadError.{LoadError}
use Rattle.ioc_values.specs.declared.error.LoadError.TheVariants as load
use Rattle.ioc_command_line.specs.declared.reason.Reason.TheVariants as reason
use Rattle.ioc_command_line.specs.declared.ending.Stage.TheVariants.{Loading, Line}
use Rattle.ioc_command_line.specs.declared.ending.FileRole.TheVariants.{Script}
use Rattle.ioc_command_line.specs.declared.ending.Stop.{Stop}
use Rattle.ioc_command_line.specs.declared.ending.Stop.TheVariants.{Unreadable, BadDb, Write, Memory}
use Rattle.ioc_command_line.specs.Endings.{reason_of}
use Rattle.ioc_main.specs.declared.fault.LineFault.{LineFault}
use Rattle.ioc_main.specs.declared.fault.LineFault.TheVariants as line
use Rattle.ioc_main.specs.declared.fault.ScriptFault.{ScriptFault}
use Rattle.ioc_main.specs.declared.fault.ScriptFault.TheVariants as script
use Rattle.ioc_main.specs.declared.fault.RunFault.{RunFault}
use Rattle.ioc_main.specs.declared.fault.RunFault.TheVariants as run

-- The error of a load as a fault of the run.
abbrev pub fault_of : LoadError → RunFault
fault_of (load.BadDb fault) = run.BadDb fault
fault_of load.NoMemory = run.Memory Loading

-- The fault of a line as a fault of the script.
abbrev pub script_fault_of : LineFault → ScriptFault
script_fault_of line.Write = script.Write
script_fault_of line.Memory = script.Memory

-- The fault of a script as a fault of the run.
abbrev pub run_fault_of : ScriptFault → RunFault
run_fault_of (script.Read reason) = run.Read reason
run_fault_of script.Write = run.Write
run_fault_of script.Memory = run.Memory Line

-- The result of a run of the script with this path, and then of the flush of its output: the first
-- fault counts. If a write failed, the flush tries once more, and its error is the reason.
abbrev pub whole_run : Result (Unit {0}) RunFault → Result (Unit {0}) Error → String Global → Result (Unit {0}) Stop
whole_run (Ok _) (Ok _) script = Ok tt
whole_run (Ok _) (Err e) script = Err (Write (reason_of (error_kind e)))
whole_run (Err run.Write) (Ok _) script = Err (Write reason.Other)
whole_run (Err run.Write) (Err e) script = Err (Write (reason_of (error_kind e)))
whole_run (Err (run.BadDb fault)) flushed script = Err (BadDb fault)
whole_run (Err (run.Read reason)) flushed script = Err (Unreadable Script script reason)
whole_run (Err (run.Memory stage)) flushed script = Err (Memory stage)
