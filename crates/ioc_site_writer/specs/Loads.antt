-- Texts that load.
use Rattle.std.specs.Prelude.{◌≡◌, ℕ, List, [], Option, Some, None, Err, IsOk}
use Rattle.rec_types.specs.Record.{record_rules, new_record}
use Rattle.ioc_dblex.specs.Macros.{Defined}
use Rattle.ioc_dbfile.specs.Finished.{loaded_by}
use Rattle.ioc_values.specs.declared.error.DbFault.{DbFault}

-- Holds of a database text that gives a database, with these macros.
abbrev pub LoadsWith : List Defined → List ℕ → Type 0
LoadsWith macros text = IsOk (loaded_by record_rules new_record macros text)

-- Holds of a database text that gives a database, without macros.
abbrev pub Loads : List ℕ → Type 0
Loads text = LoadsWith [] text

-- Holds of the first fault for which the load refuses a text with these macros, and of no fault if the text loads.
abbrev pub IsRefusal : List Defined → List ℕ → Option DbFault → Type 0
IsRefusal macros text None = LoadsWith macros text
IsRefusal macros text (Some fault) = loaded_by record_rules new_record macros text ≡ Err fault
