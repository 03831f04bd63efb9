-- The state of a lock set as a tuple.
use Rattle.std.specs.Prelude.{List, refl}
use Rattle.std.specs.FinMap as map
use Rattle.std.specs.Coded.{Coded, code_by, coded×, coded_list, coded_ℕ}
use Rattle.ioc_ledger.specs.declared.tally.Tally.{Tally}
use Rattle.ioc_ledger.specs.contracts.tally.Tally as tally_row
use Rattle.ioc_notify.specs.declared.live_numbers.Live.{Live}
use Rattle.ioc_notify.specs.contracts.live_numbers.Live as live_row
use Rattle.ioc_notify.specs.declared.waiting_lists.Waiting.{Waiting}
use Rattle.ioc_notify.specs.contracts.waiting_lists.Waiting as waiting_row
use Rattle.ioc_events.specs.declared.event.EventEntry.{EventEntry}
use Rattle.ioc_events.specs.contracts.event.EventEntry as entry_row
use Rattle.ioc_set_records.specs.Contents.{Records, Devices}
use Rattle.ioc_set.specs.SetState.{SetState}

abbrev pub held_code : {R D : Type 0} → Coded R → Coded D → Coded (SetState R D)
held_code {R} {D} r d =
    let records = map.code coded_ℕ r in
    let lives = coded_list live_row.the_row.coded in
    let waits = coded_list waiting_row.the_row.coded in
    let counts = tally_row.the_row.coded in
    code_by (Records R × (Devices D × (List Live × (List Waiting × (Tally × (Records R × (List Live × (List Waiting × (Tally × List EventEntry)))))))))
    (coded× records (coded× (map.code coded_ℕ d) (coded× lives (coded× waits (coded× counts (coded× records (coded× lives (coded× waits (coded× counts (coded_list entry_row.the_row.coded))))))))))
    (λ h. (h.records, (h.devices, (h.live, (h.waiting, (h.tally, (h.base.records, (h.base.live, (h.base.waiting, (h.base.tally, h.history))))))))))
    (λ p. record {
      records = p.0;
      devices = p.1.0;
      live = p.1.1.0;
      waiting = p.1.1.1.0;
      tally = p.1.1.1.1.0;
      base = record { records = p.1.1.1.1.1.0; live = p.1.1.1.1.1.1.0; waiting = p.1.1.1.1.1.1.1.0; tally = p.1.1.1.1.1.1.1.1.0 };
      history = p.1.1.1.1.1.1.1.1.1;
    })
    (λ _. refl)
