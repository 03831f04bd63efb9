-- The tickets of a list with one more call.
use Rattle.std.proofs.Common.{◌≡◌, ℕ, ◌+◌, ◌<◌, ◌^◌, List, [], ◌∷◌, ◌++◌, refl, sym, ap, ◌∙◌, subst, arith}
use Rattle.ioc_ledger.specs.Counts.{counts}
use Rattle.ioc_record.specs.RecordRules.{RecordRules}
use Rattle.ioc_store.specs.World.{World}
use Rattle.ioc_journal.specs.declared.entry.Note.{Note}
use Rattle.ioc_journal.specs.Legal.{entry_of, done, map_of}
use Rattle.ioc_journal.specs.Tickets.{TicketsView, tickets_view, AreTickets}
use Rattle.ioc_journal.specs.Counting.{one_if_request, requests_in, once_by, once_sent, IsFew, AreTicketsOf}

requests-end : (log : List Note) (n : Note) → requests_in (log ++ n ∷ []) ≡ one_if_request (entry_of n).call + requests_in log
requests-end [] n = refl
requests-end (m ∷ log) n = let rest = requests-end log n in omega (arith, rest)

module _ {R : Type 0} (k : RecordRules R) where
  -- No call has begun a ticket yet.
  pub none-yet : (base : World R) (t : TicketsView) → t ≡ tickets_view (counts 0 0 0 0) 0 0 0 → AreTicketsOf k base [] t
  none-yet base t is = subst (λ (v : TicketsView). AreTickets v 0 0) (sym is) (record { most = omega arith; spent = λ few. refl; sent_are = λ few. refl; begun_are = λ few. refl })

  once-end : (m : World R) (log : List Note) (n : Note) → once_sent k m (log ++ n ∷ []) ≡ once_by k (map_of k m log) n + once_sent k m log
  once-end m [] n = refl
  once-end m (l ∷ log) n = let rest = once-end (done k m l).world log n in omega (arith, rest)

  module _ (base : World R) (log : List Note) (n : Note) (sent r : ℕ) (once_is : sent ≡ once_by k (map_of k base log) n) (request_is : r ≡ one_if_request (entry_of n).call) where
    -- The tickets of the list with one more call.
    pub tickets-then : (old new : TicketsView) → AreTicketsOf k base log old
        → ((requests once : ℕ) → AreTickets old requests once → AreTickets new (r + requests) (sent + once))
        → AreTicketsOf k base (log ++ n ∷ []) new
    tickets-then old new are then =
        subst (λ (o : ℕ). AreTickets new (requests_in (log ++ n ∷ [])) o) (ap (λ x. x + once_sent k base log) once_is ∙ sym (once-end base log n))
        (subst (λ (q : ℕ). AreTickets new q (sent + once_sent k base log)) (ap (λ x. x + requests_in log) request_is ∙ sym (requests-end log n))
        (then (requests_in log) (once_sent k base log) are))

    -- As many tickets begin as once requests were sent.
    pub begun-then : (old : TicketsView) (batch : ℕ) → AreTicketsOf k base log old
        → ((requests once : ℕ) → AreTickets old requests once → (r + requests) + (sent + once) < 2 ^ 63 → batch ≡ sent)
        → IsFew k base (log ++ n ∷ []) → batch ≡ sent
    begun-then old batch are begun few =
        begun (requests_in log) (once_sent k base log) are
        (let a = requests-end log n in let b = once-end base log n in omega (arith, a, b, once_is, request_is, few))
