use Rattle.std.proofs.Common.{◌≡◌, take}
use Rattle.std.specs.Prelude.{map, Ok}
use Rattle.ioc_set.specs.SetState.{now_of}
use Rattle.ioc_engine_core.specs.Looked.{field_seen}
use Rattle.ioc_engine_core.proofs.looking.add_seen.Given as goal

abbrev pub invariant-loop-field : goal.invariant-loop-field
invariant-loop-field g l = map Ok l.shown.items ≡ map (field_seen g.K.RecordKind.rules (now_of l.held.set) l.number) (take l.field-index l.fields)
