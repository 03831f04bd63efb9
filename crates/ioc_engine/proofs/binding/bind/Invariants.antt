use Rattle.ioc_dbfile.specs.OwnerTable.{owner_in}
use Rattle.ioc_engine.proofs.Bindings.{AreBound}
use Rattle.ioc_engine.proofs.binding.bind.Given as goal

-- The devices so far are bound.
abbrev pub invariant-loop-name : goal.invariant-loop-name
invariant-loop-name g l = AreBound (owner_in l.fn.owners) l.fn.count l.yielded l.bound.devices.items l.bound.spare.items
