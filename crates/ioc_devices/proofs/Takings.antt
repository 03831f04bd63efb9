-- Items that a lane takes one after another.
use Rattle.std.proofs.Common.{refl, List, [], ◌∷◌, ◌++◌}
use Rattle.ioc_shared_queues.specs.declared.order.SeenChange.{SeenChange}
use Rattle.ioc_shared_queues.specs.Seen.{Takes}
use Rattle.ioc_devices.specs.Asking.{TakesAll}

pub takes_one_more : {T : Type 0} (v u w : List (SeenChange T)) (items : List T) (item : T)
    → TakesAll v items u → Takes u item w → TakesAll v (items ++ item ∷ []) w
takes_one_more v u w [] item same taken = (w, (rw same taken), refl)
takes_one_more v u w (first ∷ items) item (next, took, rest) taken = (next, took, takes_one_more next u w items item rest taken)
