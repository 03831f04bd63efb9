-- The world of an engine without a name. This project's own.
use Rattle.std.specs.Prelude.{[]}
use Rattle.std.specs.FinMap.{empty}
use Rattle.ioc_store.specs.World.{World}

-- A world without records or events.
abbrev pub no_world : {R : Type 0} → World R
no_world = record { records = empty; moment = 0; calls = []; outbox = []; dropped = 0; live = []; ended = []; waiting = [] }
