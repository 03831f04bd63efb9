-- The items that the calls of a list drop, with one more call.
use Rattle.std.proofs.Common.{◌≡◌, ℕ, ◌+◌, ◌-◌, ◌^◌, List, [], ◌∷◌, ◌++◌, refl, sym, ap, ◌∙◌, arith}
use Rattle.ioc_ledger.specs.Requests.{capped}
use Rattle.ioc_record.specs.RecordRules.{RecordRules}
use Rattle.ioc_store.specs.World.{World}
use Rattle.ioc_journal.specs.declared.entry.Note.{Note}
use Rattle.ioc_journal.specs.Legal.{done, map_of}
use Rattle.ioc_journal.specs.Counting.{sent_by, dropped_in}

-- A sum that is capped once more is capped.
capped-sum : (n more : ℕ) → capped (capped n + more) ≡ capped (more + n)
capped-sum n more = omega arith

module _ {R : Type 0} (k : RecordRules R) where
  dropped-end : (m : World R) (log : List Note) (n : Note) → dropped_in k m (log ++ n ∷ []) ≡ (sent_by k (map_of k m log) n).dropped + dropped_in k m log
  dropped-end m [] n = refl
  dropped-end m (l ∷ log) n = let rest = dropped-end (done k m l).world log n in omega (arith, rest)

  -- The count of the list with one more call.
  pub drops-then : (base : World R) (log : List Note) (n : Note) (before after dropped : ℕ) → dropped ≡ (sent_by k (map_of k base log) n).dropped
      → before ≡ capped (dropped_in k base log) → after ≡ capped (before + dropped) → after ≡ capped (dropped_in k base (log ++ n ∷ []))
  drops-then base log n before after dropped drops is then =
      then ∙ ap (λ (b : ℕ). capped (b + dropped)) is ∙ capped-sum (dropped_in k base log) dropped
      ∙ ap (λ (d : ℕ). capped (d + dropped_in k base log)) drops ∙ ap (λ (d : ℕ). capped d) (sym (dropped-end base log n))
