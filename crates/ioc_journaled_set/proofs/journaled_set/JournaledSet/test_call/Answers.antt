use Rattle.std.proofs.Common.{sym, subst}
use Rattle.std.specs.Prelude.{Contains}
use Rattle.ioc_journaled_set.specs.Holding.{HeldView, numbers_of}
use Rattle.ioc_journaled_set.proofs.Keys.{key_there}
use Rattle.ioc_journaled_set.proofs.journaled_set.JournaledSet.test_call.Goals as goal

pub no_call-requires : goal.no_call-requires
no_call-requires g c = record {
  there = λ n has. key_there c.self.inside.set.records n (subst (λ (v : HeldView g.row.K.Denot g.row.D.Denot). Contains (numbers_of v) n) (sym c.self.view_is) (c.requires.there n has));
}
