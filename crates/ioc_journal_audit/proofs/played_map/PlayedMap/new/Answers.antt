use Rattle.std.proofs.Common.{◌≡◌, List, [], sym, subst, ap}
use Rattle.ioc_store.specs.declared.call.Call.{Call}
use Rattle.ioc_store.specs.Given.{Accords, listed, calls_of}
use Rattle.ioc_store.specs.OneMap.{world_of}
use Rattle.ioc_journal_audit.proofs.Played.{accords-none, none_begun}
use Rattle.ioc_journal_audit.proofs.played_map.PlayedMap.new.Goals as goal

pub invariant_of-result : goal.invariant_of-result
invariant_of-result g c =
    let none = none_begun 0 (world_of c.new-map.result) (world_of c.new-map.result) c.new-map.ensures.fresh in
    record { played = subst (λ (calls : List Call). Accords calls (listed c.new-3.result)) (sym none) (accords-none (listed c.new-3.result)) }
