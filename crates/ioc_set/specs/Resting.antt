-- A database between events.
use Rattle.std.specs.Prelude.{List, []}
use Rattle.ioc_notify.specs.declared.live_numbers.Live.{Live}
use Rattle.ioc_notify.specs.declared.waiting_lists.Waiting.{Waiting}
use Rattle.ioc_set_records.specs.Contents.{Records}
use Rattle.ioc_store.specs.World.{World}

-- A database between events with these records and puts with notification.
abbrev pub resting : {R : Type 0} → Records R → List Live → List Waiting → World R
resting records live waiting = record { records = records; moment = 0; calls = []; outbox = []; dropped = 0; live = live; ended = []; waiting = waiting }
