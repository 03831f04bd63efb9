use Rattle.std.proofs.Common.{subst}
use Rattle.ioc_watched.specs.Watched.{AreFresh}
use Rattle.ioc_journaled_set.specs.Holding.{HeldView}
use Rattle.ioc_journaled_set.proofs.ending.EndedSet.ends_as_told.Goals as goal

pub returns : goal.returns
returns g c = subst (λ (v : HeldView g.row.K.Denot g.row.D.Denot). AreFresh g.K.RecordKind.rules g.B.JournalName.base v.set.records v.watched) c.self.view_is c.self.invariant.1
