-- The scan lists and the queues of a database, and the operations on them. Application Developer's
-- Guide, "Scanning Specification": scanAdd, post_event, scanIoRequest, scanOnce, callbackRequest.
use Rattle.std.specs.Prelude.{ℕ, ◌+◌, Bool, nat_lt, if◌then◌else◌, List, [], ◌∷◌, length, Option}
use Rattle.ioc_ledger.specs.Requests.{more_by}
use Rattle.ioc_callback.specs.declared.queues.Queues.{Queues}
use Rattle.ioc_callback.specs.Serving.{callbacks, with_callback, with_once, with_dropped}
use Rattle.ioc_scan.specs.declared.list_name.ListName.{ListName}
use Rattle.ioc_scan.specs.declared.position.Listed.{Listed}
use Rattle.ioc_scan.specs.Scanned.{Scanned}
use Rattle.ioc_store.specs.declared.outbox.OutboxItem.{OutboxItem}
use Rattle.ioc_store.specs.World.{World}
use Rattle.ioc_scan_rules.specs.Asked.{Request, Once, Callback, members_of, callbacks_of, asked_of, lists_after, is_dropped}

-- The place of each record on the scan lists, and the waiting requests with the number of dropped
-- items.
pub record Scanner : Type 0 where
  pub lists : Scanned
  pub queues : Queues ℕ

-- Whether the callback queue of this record's priority has room. It holds 2,000 requests.
abbrev pub has_room : Queues ℕ → Listed → Bool
has_room q x = nat_lt (length (callbacks q x.priority)) 2000

-- The queues with a record put on the callback queue of its priority, or dropped.
abbrev pub with_called : Queues ℕ → Listed → Queues ℕ
with_called q x = if has_room q x then with_callback q x.priority x.number else with_dropped q

-- The queues with a request put on its queue, or dropped if the queue is full. The once queue holds
-- 1,000 requests.
abbrev pub with_request : Queues ℕ → Request → Queues ℕ
with_request q (Once n) = if nat_lt (length q.once) 1000 then with_once q n else with_dropped q
with_request q (Callback x) = with_called q x

-- The queues with each of these requests put on its queue, in order.
abbrev pub with_requests : Queues ℕ → List Request → Queues ℕ
with_requests q [] = q
with_requests q (r ∷ rs) = with_requests (with_request q r) rs

-- The number of these records that find room.
abbrev pub count_called : Queues ℕ → List Listed → ℕ
count_called q [] = 0
count_called q (x ∷ xs) = (if has_room q x then 1 else 0) + count_called (with_called q x) xs

-- A scanner, and the number of queued requests.
pub record Queued : Type 0 where
  pub scanner : Scanner
  pub count : ℕ

-- The scanner with the records of a list, if there is one, put on their callback queues.
abbrev pub called_on : Scanner → Option ListName → Queued
called_on s list =
    let xs = members_of s.lists list in
    record { scanner = record s { queues = with_requests s.queues (callbacks_of xs) }; count = count_called s.queues xs }

-- The queues with an item counted as dropped, if it is.
abbrev pub with_dropped_if : Bool → Queues ℕ → Queues ℕ
with_dropped_if is_dropped q = if is_dropped then with_dropped q else q

-- The scanner after it took an item: its lists are changed, and what it asks for is queued.
abbrev pub with_item : Scanner → OutboxItem → Scanner
with_item s item =
    record {
      lists = lists_after s.lists item;
      queues = with_requests (with_dropped_if (is_dropped s.lists item) s.queues) (asked_of s.lists item);
    }

abbrev pub with_items : Scanner → List OutboxItem → Scanner
with_items s [] = s
with_items s (item ∷ items) = with_items (with_item s item) items

-- The scanner with this many more dropped items.
abbrev pub with_more_dropped : Scanner → ℕ → Scanner
with_more_dropped s count = record s { queues = record s.queues { dropped = more_by s.queues.dropped count } }

-- The scanner after it took what an event sent, in order. Items for which the event found no room
-- count as dropped.
unfoldable pub with_outbox : {R : Type 0} → Scanner → World R → Scanner
with_outbox s w = with_more_dropped (with_items s w.outbox) w.dropped
