use Rattle.ioc_dbfile.specs.OwnDevices.{holder}
use Rattle.ioc_engine.proofs.Bindings.{AreBound}
use Rattle.ioc_engine.proofs.binding.bind_own.Given as goal

-- The devices so far are bound.
abbrev pub invariant-loop-number : goal.invariant-loop-number
invariant-loop-number g l = AreBound (holder l.fn.own.names.items) l.fn.count l.yielded l.bound.devices.items l.bound.spare.items
