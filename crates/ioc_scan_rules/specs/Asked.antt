-- What the items that an event sends ask for, once it has ended. Application Developer's Guide,
-- "Scanning Specification": scanAdd, post_event, scanIoRequest, scanOnce, callbackRequest.
use Rattle.std.specs.Prelude.{ℕ, ◌-◌, ◌^◌, Bool, true, false, nat_lt, if◌then◌else◌, List, [], ◌∷◌, length, map, option_map, Option, Some}
use Rattle.std.specs.Prelude.{None as Nothing_}
use Rattle.ioc_scan.specs.declared.list_name.ListName.{ListName}
use Rattle.ioc_scan.specs.declared.list_name.ListName.TheVariants.{Event, Interrupt}
use Rattle.ioc_scan.specs.declared.position.Listed.{Listed}
use Rattle.ioc_scan.specs.Places.{event_word, given_word}
use Rattle.ioc_scan.specs.Scanned.{Scanned, changed}
use Rattle.ioc_scan.specs.Walked.{walked}
use Rattle.ioc_store.specs.declared.scan_change.ScanChange.{ScanChange}
use Rattle.ioc_store.specs.declared.outbox.OutboxItem.{OutboxItem}
use Rattle.ioc_store.specs.declared.outbox.OutboxItem.TheVariants.{Once as Once-item, Post, Change as Change-item}
use Rattle.ioc_scan_rules.specs.declared.asked.Asked.{Asked}
use Rattle.ioc_scan_rules.specs.declared.asked.Asked.TheVariants.{Once as Asks-once, Calls, Change, Dropped}
use Rattle.ioc_scan_rules.specs.Places.{place_by}

-- A request that waits in a queue.
pub data Request : Type 0 where
  -- The record's request waits in the once queue.
  Once : (number : ℕ) → Request
  -- The record's request waits in the callback queue of its priority.
  Callback : (member : Listed) → Request

-- The list of the records that wait for this event.
abbrev pub event_list : List ℕ → Option ListName
event_list name = option_map (λ word. Event word) (event_word name)

-- The list of the records with a device link whose first word is this.
abbrev pub interrupt_list : List ℕ → Option ListName
interrupt_list word = option_map (λ w. Interrupt w) (given_word word)

-- The records of a list, if there is one, in order.
abbrev pub members_of : Scanned → Option ListName → List Listed
members_of lists Nothing_ = []
members_of lists (Some list) = walked lists list

-- A request of each of these records, from the callback queue of its priority.
abbrev pub callbacks_of : List Listed → List Request
callbacks_of members = map (λ x. Callback x) members

-- Whether the lists have the record.
abbrev pub has_record : Scanned → ScanChange → Bool
has_record lists c = nat_lt c.target (length lists.entries)

-- Whether the lists have an order number left.
abbrev pub has_order : Scanned → Bool
has_order lists = nat_lt lists.last (2 ^ 64 - 1)

-- The lists after a change. One that is older than the last one done for its record is ignored, and
-- so is one for which no order number is left.
abbrev pub with_change : Scanned → ScanChange → Scanned
with_change lists c =
    if has_record lists c
    then (if has_order lists then changed lists c.target c.number (place_by c.scanning c.device) else lists)
    else lists

-- What a change asks of the queues: to be counted as dropped if no order number is left for it.
abbrev pub change_asks : Scanned → ScanChange → Asked
change_asks lists c = if has_record lists c then (if has_order lists then Change else Dropped) else Change

-- The requests that an item asks for, in order: that of a record, from the once queue, or those of
-- all records that wait for the posted event, each from the callback queue of its priority.
abbrev pub asked_of : Scanned → OutboxItem → List Request
asked_of lists (Once-item n) = Once n ∷ []
asked_of lists (Post name) = callbacks_of (members_of lists (event_list name))
asked_of lists (Change-item change) = []

-- The lists after an item.
abbrev pub lists_after : Scanned → OutboxItem → Scanned
lists_after lists (Once-item n) = lists
lists_after lists (Post name) = lists
lists_after lists (Change-item change) = with_change lists change

-- Whether a change is dropped.
abbrev pub drops : Asked → Bool
drops (Asks-once n) = false
drops Calls = false
drops Change = false
drops Dropped = true

-- Whether an item is dropped: a change for which no order number is left.
abbrev pub is_dropped : Scanned → OutboxItem → Bool
is_dropped lists (Once-item n) = false
is_dropped lists (Post name) = false
is_dropped lists (Change-item change) = drops (change_asks lists change)

-- The requests that this says, if these records were walked.
abbrev pub requests_of : Asked → List Listed → List Request
requests_of (Asks-once n) walked = Once n ∷ []
requests_of Calls walked = callbacks_of walked
requests_of Change walked = []
requests_of Dropped walked = []
