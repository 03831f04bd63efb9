-- The parts of a put with notification, which are records and its place in the waiting list, and
-- when it ends.
--
-- Application Developer's Guide, "Put with Notification" (dbPutNotify, dbNotifyCompletion): it is
-- complete when all that it has reached is done.
use Rattle.std.specs.Prelude.{◌≡◌, ◌⊎◌, ◌↔◌, ℕ, ◌+◌, ◌≤◌, ◌<◌, ◌^◌, ◌==◌, if◌then◌else◌, nat_lt, Some, IsSome, List, [], ◌∷◌, Contains}
use Rattle.std.specs.FinMap.{entries, len}
use Rattle.ioc_notify.specs.Living.{holders_of}
use Rattle.ioc_notify.specs.declared.waiting_lists.Waiting.{Waiting}
use Rattle.ioc_record.specs.RecordRules.{RecordRules}
use Rattle.ioc_store.specs.World.{World, Has, IsClosed, common_at, total, is_notification}
use Rattle.ioc_events.specs.declared.event.Event.TheVariants.{Cancel}
use Rattle.ioc_events.specs.declared.event.Entry.{Entry}
use Rattle.ioc_events.specs.declared.event.Call.{Call}
use Rattle.ioc_events.specs.declared.event.Call.TheVariants as call
use Rattle.ioc_events.specs.declared.reply.Reply.TheVariants.{Notify as Notify-reply}

-- The number of items of a list with this number.
abbrev pub how_many : {A : Type 0} → (A → ℕ) → ℕ → List A → ℕ
how_many number n [] = 0
how_many number n (x ∷ xs) = if number x == n then 1 + how_many number n xs else how_many number n xs

-- Holds of the call that begins this put with notification, and of one that cancels it.
abbrev pub Begins : Call → ℕ → Type 0
Begins (call.Event event reply) n = reply ≡ Notify-reply n
Begins _ n = ⊥

abbrev pub Cancels : Call → ℕ → Type 0
Cancels (call.Event event reply) n = event ≡ Cancel n
Cancels _ n = ⊥

module _ {R : Type 0} (k : RecordRules R) where
  abbrev pub one_if_has : ℕ → R → ℕ
  one_if_has n r = if is_notification n (k.common r).notification then 1 else 0

  -- The number of parts of this put with notification: records, and its places in the waiting list.
  unfoldable pub holders : World R → ℕ → ℕ
  holders w n = total (one_if_has n) (entries w.records) + how_many (λ x. x.number) n w.waiting

  -- Holds if a put with notification is live if and only if a record or a waiting list is part of
  -- it, each is live once, with the count of its parts, and none waits twice.
  pub record HoldersCounted (w : World R) : Type 0 where
    pub counted : (n : ℕ) → holders_of n w.live ≡ holders w n
    pub live : (n : ℕ) → how_many (λ l. l.number) n w.live ≡ (if nat_lt 0 (holders w n) then 1 else 0)
    pub waits_once : (n : ℕ) → how_many (λ x. x.number) n w.waiting ≤ 1

  -- A world between events: no link leaves it, it has fewer than 2^63 records, and the parts of
  -- each put with notification are counted.
  pub record IsCounted (w : World R) : Type 0 where
    pub closed : IsClosed k w
    pub few : len w.records < 2 ^ 63
    pub counted : HoldersCounted w

  -- Holds if a record or a waiting list is part of this put with notification.
  pub data IsHeld : World R → ℕ → Type 0 where
    by_a_record : {w : World R} {n : ℕ} (s : ℕ)
        → Has w s
        → (common_at k w s).notification ≡ Some n
        → IsHeld w n
    in_a_waiting_list : {w : World R} (x : Waiting)
        → Contains w.waiting x
        → IsHeld w x.number

  -- A call ends a put with notification if and only if something was part of it before, or it began
  -- by this call, and nothing is part of it afterwards, unless it was cancelled. The call ends it
  -- once.
  pub record EndsExactly (before : World R) (c : Call) (after : World R) : Type 0 where
    pub ended : (n : ℕ) → Contains after.ended n ↔ ((IsHeld before n ⊎ Begins c n) × (IsHeld after n → ⊥) × (Cancels c n → ⊥))
    pub once : (n : ℕ) → how_many (λ m. m) n after.ended ≤ 1

  -- Between events, a record that is part of a put with notification awaits a completion, and so
  -- does one that a put with notification waits for.
  pub record HoldersAwait (w : World R) : Type 0 where
    pub records : (n : ℕ) → Has w n → IsSome (common_at k w n).notification → IsSome (common_at k w n).pending
    pub waiting : (x : Waiting) → Contains w.waiting x → Has w x.target → IsSome (common_at k w x.target).pending

  -- Nothing is part of this put with notification, and it hasn't ended in the last event.
  pub record IsOver (w : World R) (n : ℕ) : Type 0 where
    pub not_held : IsHeld w n → ⊥
    pub not_ended : Contains w.ended n → ⊥

-- No call of these begins this put with notification.
abbrev pub NoneBegins : List Entry → ℕ → Type 0
NoneBegins entries n = (entry : Entry) → Contains entries entry → Begins entry.call n → ⊥
