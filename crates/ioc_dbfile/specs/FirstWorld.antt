-- A loaded database before its first event.
use Rattle.std.specs.Prelude.{List, []}
use Rattle.ioc_store.specs.OneMap.{numbered}
use Rattle.ioc_store.specs.World.{World}

-- The world of these records by their numbers, with time stamp 0.
unfoldable pub first_world : {R : Type 0} → List R → World R
first_world records =
    record { records = numbered records; moment = 0; calls = []; outbox = []; dropped = 0; live = []; ended = []; waiting = [] }
