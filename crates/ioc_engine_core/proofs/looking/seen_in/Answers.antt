use Rattle.std.proofs.Common.{sym, subst, ◌∙◌}
use Rattle.std.specs.Prelude.{Contains}
use Rattle.ioc_set.specs.SetState.{now_of}
use Rattle.ioc_journaled_set.specs.Holding.{HeldView, numbers_of}
use Rattle.ioc_journaled_set.proofs.Keys.{key_there}
use Rattle.ioc_engine_core.proofs.Looks.{seen_there}
use Rattle.ioc_engine_core.proofs.looking.seen_in.Goals as goal

pub record-requires : goal.record-requires
record-requires g c = key_there c.held.inside.set.records c.args.number (subst (λ (v : HeldView g.row.K.Denot g.row.D.Denot). Contains (numbers_of v) c.args.number) (sym c.held.view_is) c.requires)

pub returns : goal.returns
returns g c = rw (sym c.held.view_is) (seen_there g.K.RecordKind.rules (now_of c.held.inside.set) c.args.number c.args.field c.in_ok-text.text c.record.result.now c.get-2.result (sym c.get.ensures ∙ c.in_ok-text.was) c.record.ensures c.get-2.ensures)
