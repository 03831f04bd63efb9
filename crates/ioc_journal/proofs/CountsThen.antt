-- The counts of a list with one more call.
use Rattle.std.proofs.Common.{◌≡◌, List, [], ◌∷◌, ◌++◌, Option, Some, None, refl, sym, ap, ◌∙◌}
use Rattle.std.specs.Option.{IfSome}
use Rattle.ioc_ledger.specs.declared.tally.Tally.{Tally}
use Rattle.ioc_ledger.specs.Shared.{ShareView}
use Rattle.ioc_record.specs.RecordRules.{RecordRules}
use Rattle.ioc_store.specs.World.{World}
use Rattle.ioc_store.specs.Given.{later_among}
use Rattle.ioc_journal.specs.declared.entry.Note.{Note}
use Rattle.ioc_journal.specs.Legal.{done, map_of}
use Rattle.ioc_journal.specs.Counting.{is_completion, tallied_by, counts_on, counts_of, DoesCount, IsCountedOn, IsRecorded}
use Rattle.ioc_journal.proofs.Counting.{tallied-is}

module _ {R : Type 0} (k : RecordRules R) where
  counts-end : (t : Tally) (m : World R) (log : List Note) (n : Note) → counts_on k t m (log ++ n ∷ []) ≡ tallied_by k (counts_on k t m log) (map_of k m log) n
  counts-end t m [] n = refl
  counts-end t m (l ∷ log) n = counts-end (tallied_by k t m l) (done k m l).world log n

  -- What an event counts are its requests, calls that are answered later, and a completion.
  pub adds : (m : World R) (n : Note) (share : Option ShareView) (before after : Tally) → DoesCount k m n share before after → IfSome share (λ _. IsCountedOn before after)
  adds m n None before after does = tt
  adds m n (Some s) before after does = ((done k m n).requests, later_among (done k m n).world.calls, is_completion (done k m n).call, does ∙ tallied-is k before m n)

  -- The book counts the list with one more call.
  pub counts-then : (base : World R) (log : List Note) (n : Note) (share : Option ShareView) (before after book then : Tally)
      → DoesCount k (map_of k base log) n share before after → book ≡ counts_of k base log → IsRecorded share before after book then → then ≡ counts_of k base (log ++ n ∷ [])
  counts-then base log n None before after book then does is recorded = recorded ∙ is ∙ sym (does (counts_of k base log)) ∙ sym (counts-end _ base log n)
  counts-then base log n (Some s) before after book then does is recorded =
      let m = map_of k base log in
      recorded (done k m n).requests (later_among (done k m n).world.calls) (is_completion (done k m n).call) (does ∙ tallied-is k before m n)
      ∙ sym (tallied-is k book m n) ∙ ap (λ t. tallied_by k t m n) is ∙ sym (counts-end _ base log n)
