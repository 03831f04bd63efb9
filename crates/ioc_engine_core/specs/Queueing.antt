-- Requests that are put on the callback queues and the once queue. Application Developer's Guide,
-- "Scanning Specification": callbackRequest, scanOnce.
use Rattle.std.specs.Prelude.{◌≡◌, ◌⊎◌, ◌+◌, ℕ, Bool, true, false, List, [], ◌∷◌}
use Rattle.ioc_shared_queues.specs.declared.rank.Rank.{Rank}
use Rattle.ioc_shared_queues.specs.declared.rank.Rank.TheVariants as rank
use Rattle.ioc_shared_queues.specs.declared.record_requests.RecordRequest.{RecordRequest}
use Rattle.ioc_shared_queues.specs.Ranks.{rank_of}
use Rattle.ioc_shared_queues.specs.Requests.{request}
use Rattle.ioc_scan_rules.specs.Asked.{Request, Once, Callback}

-- One of these tickets is taken: a counted one, if there is any.
abbrev pub IsTaken : ℕ → Bool → ℕ → Type 0
IsTaken before true after = after + 1 ≡ before
IsTaken before false after = (before ≡ 0) × (after ≡ 0)

module _ {P L : Type 0} (puts : P → Rank → RecordRequest L → P → Type 0) (finds_full : P → Rank → P → Type 0) where
  -- A request of this record is put on a queue with one of so many tickets, or the queue is found full
  -- and all tickets are left.
  abbrev pub IsPut : Rank → ℕ → (before after : ℕ) → P → P → Type 0
  IsPut rank number before after l m = ((ticket : Bool) × puts l rank (request number ticket) m × IsTaken before ticket after)
      ⊎ (finds_full l rank m × (after ≡ before))

  -- A request is put on its queue: the once queue, or the callback queue of its priority.
  abbrev pub IsPushed : Request → (before after : ℕ) → P → P → Type 0
  IsPushed (Once number) before after l m = IsPut rank.Once number before after l m
  IsPushed (Callback member) before after l m = IsPut (rank_of member.priority) member.number before after l m

  -- Each of these requests is put on its queue, one after another.
  abbrev pub ArePushed : List Request → (before after : ℕ) → P → P → Type 0
  ArePushed [] before after l m = (m ≡ l) × (after ≡ before)
  ArePushed (r ∷ requests) before after l m = (a : P) × (left : ℕ) × IsPushed r before left l a × ArePushed requests left after a m
