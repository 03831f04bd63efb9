use Rattle.std.proofs.Common.{◌≡◌, List, [], sym, subst, ap}
use Rattle.ioc_store.specs.declared.call.Call.{Call}
use Rattle.ioc_store.specs.Given.{Accords, listed, calls_of}
use Rattle.ioc_store.specs.OneMap.{world_of}
use Rattle.ioc_journal_audit.proofs.Played.{accords-none, none_begun}
use Rattle.ioc_journal_audit.proofs.played_map.PlayedMap.begin_at.Goals as goal

pub invariant_of-self : goal.invariant_of-self
invariant_of-self g c =
    let none = none_begun c.args.moment (world_of c.args.self.now.map) (world_of c.begin_at.new.self) c.begin_at.ensures.world in
    record { played = subst (λ (calls : List Call). Accords calls (listed c.new.result)) (sym none) (accords-none (listed c.new.result)) }
