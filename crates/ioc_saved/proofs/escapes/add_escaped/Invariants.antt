use Rattle.std.proofs.Common.{◌≡◌, ◌++◌, take}
use Rattle.ioc_saved.specs.Escapes.{escaped}
use Rattle.ioc_saved.proofs.escapes.add_escaped.Given as goal

abbrev pub invariant-loop-byte : goal.invariant-loop-byte
invariant-loop-byte l = l.out.items ≡ l.fn.out.items ++ escaped (take l.byte-index l.value)
