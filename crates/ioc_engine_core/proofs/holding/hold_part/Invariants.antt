use Rattle.std.proofs.Common.{[]}
use Rattle.std.specs.FinMap.{keys}
use Rattle.ioc_journal.specs.Key.{record_keys}
use Rattle.ioc_engine_core.proofs.holding.hold_part.Given as goal

-- The keys of the records.
abbrev pub ghosts-hold : goal.ghosts-hold
ghosts-hold g a = record { keys = record_keys (keys a.members.records); rest = [] }
