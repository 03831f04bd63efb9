-- The records that the dropped calls of a journal lead to.
use Rattle.std.proofs.Common.{◌≡◌, ℕ, ◌≤◌, List, [], ◌∷◌, ◌++◌, length, take, drop, Option, sym, subst, take-append-drop}
use Rattle.std.proofs.lemmas.List.{take-append-le}
use Rattle.ioc_record.specs.RecordRules.{RecordRules}
use Rattle.ioc_store.specs.World.{World}
use Rattle.ioc_journal.specs.declared.entry.Note.{Note}
use Rattle.ioc_journal.specs.declared.base.JournalBase.{JournalBase}
use Rattle.ioc_journal.specs.Legal.{IsLegal, map_of}
use Rattle.std.specs.Prelude.{MatchOption}
use Rattle.ioc_journal.specs.Base.{IsBaseOf}
use Rattle.ioc_journal.specs.Desks.{LeadsFrom}
use Rattle.ioc_journal.proofs.Lists.{legal-right}

module _ {R : Type 0} (k : RecordRules R) (base : World R) where
  -- They stay the same with one more call.
  pub still_leads : (from : Option (JournalBase R)) (dropped : ℕ) (seen : List Note) (n : Note) → dropped ≤ length seen → LeadsFrom k base from dropped seen → LeadsFrom k base from dropped (seen ++ n ∷ [])
  still_leads from dropped seen n within leads =
      subst (λ (l : List Note). MatchOption from (dropped ≡ 0) (λ (b : JournalBase R). IsBaseOf (map_of k base l) b.records.items b.waiting.items)) (sym (take-append-le dropped seen (n ∷ []) within)) leads

  -- The other calls are legal from there on.
  pub legal_from : (dropped : ℕ) (seen : List Note) → IsLegal k base seen → IsLegal k (map_of k base (take dropped seen)) (drop dropped seen)
  legal_from dropped seen legal = legal-right k (take dropped seen) (drop dropped seen) base (subst (IsLegal k base) (sym (take-append-drop dropped seen)) legal)
