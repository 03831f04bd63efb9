use Rattle.ioc_journaled_set.specs.LinkChanges.{keys_of}
use Rattle.ioc_journaled_set.proofs.journaled_set.JournaledSet.part.Given as goal

abbrev pub ghosts-keep_change : goal.ghosts-keep_change
ghosts-keep_change g a = record { keys = keys_of a.after.stay.now; rest = keys_of a.after.rest.now }
