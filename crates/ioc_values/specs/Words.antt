-- The words in which the programs print errors.
use Rattle.std.specs.Prelude.{ℕ, List, ◌++◌, codes, decimal}
use Rattle.ioc_values.specs.declared.error.IocError.{IocError}
use Rattle.ioc_values.specs.declared.error.IocError.TheVariants as refusal
use Rattle.ioc_values.specs.declared.error.LoadError.{LoadError}
use Rattle.ioc_values.specs.declared.error.LoadError.TheVariants as load
use Rattle.ioc_values.specs.declared.error.DbFault.{DbFault}
use Rattle.ioc_values.specs.declared.error.BadDbKind.{BadDbKind}
use Rattle.ioc_values.specs.declared.error.BadDbKind.TheVariants.{Syntax, Unclosed, OpenBody, BadType, BadField, NoMod, BadName, BadValue, BadLink, Duplicate, NoRecord, Macro, LeftOut, TooMany, BadCalc, CalcLeftOut}
use Rattle.ioc_calc.specs.declared.token.LeftOut.{LeftOut as Word}
use Rattle.ioc_calc.specs.Names.{name_of}

-- The reason why an expression that uses something left out was rejected: its name follows.
unfoldable pub left_out_words : Word → List ℕ
left_out_words word = codes "left out in calc: " ++ name_of word

-- The reason why a database text was rejected.
unfoldable pub kind_words : BadDbKind → List ℕ
kind_words Syntax = codes "syntax"
kind_words Unclosed = codes "text not closed"
kind_words OpenBody = codes "body not closed"
kind_words BadType = codes "unknown type"
kind_words BadField = codes "unknown field"
kind_words NoMod = codes "field not settable"
kind_words BadName = codes "bad name"
kind_words BadValue = codes "bad value"
kind_words BadLink = codes "bad link"
kind_words Duplicate = codes "duplicate"
kind_words NoRecord = codes "no record"
kind_words Macro = codes "macro"
kind_words LeftOut = codes "left out"
kind_words TooMany = codes "too many"
kind_words BadCalc = codes "bad calc"
kind_words (CalcLeftOut word) = left_out_words word

-- The number and the name of an error.
unfoldable pub refusal_words : IocError → List ℕ
refusal_words refusal.NoRecord = codes "E1 NoRecord"
refusal_words refusal.NoField = codes "E2 NoField"
refusal_words refusal.NoMod = codes "E3 NoMod"
refusal_words refusal.PutDisabled = codes "E4 PutDisabled"
refusal_words refusal.BadValue = codes "E5 BadValue"
refusal_words refusal.BadLink = codes "E6 BadLink"
refusal_words refusal.NotifyPending = codes "E7 NotifyPending"
refusal_words refusal.Stale = codes "E8 Stale"
refusal_words refusal.QueueFull = codes "E9 QueueFull"
refusal_words refusal.NoMemory = codes "E10 NoMemory"
refusal_words refusal.JournalFull = codes "E11 JournalFull"
refusal_words refusal.Stopped = codes "E12 Stopped"

-- What a program prints for a rejected database text: the line and the reason too.
unfoldable pub fault_text : DbFault → List ℕ
fault_text fault = codes "E13 BadDb line " ++ decimal fault.line ++ codes ": " ++ kind_words fault.kind

-- What a program prints for a database that wasn't loaded.
unfoldable pub load_text : LoadError → List ℕ
load_text (load.BadDb fault) = fault_text fault
load_text load.NoMemory = refusal_words refusal.NoMemory
