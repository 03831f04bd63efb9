-- The records of lock sets, one set after another.
use Rattle.std.proofs.Common.{◌≡◌, ℕ, Option, List, [], ◌∷◌, ◌++◌, map, refl, sym, ap, ◌∙◌, append-nil, append_assoc}
use Rattle.rec_types.specs.Record.{Record}
use Rattle.ioc_set_records.specs.declared.slots.Slot.{Slot}
use Rattle.ioc_journaled_set.specs.Holding.{HeldView}
use Rattle.ioc_engine.specs.declared.report.StoppedRecord.{StoppedRecord}
use Rattle.ioc_engine.specs.Stopped.{stopped_of, AreOfSet, GivesBack}

module _ {D : Type 0} where
  stopped_more : (slots : List (Slot Record D)) (s : Slot Record D) → map stopped_of (slots ++ s ∷ []) ≡ map stopped_of slots ++ stopped_of s ∷ []
  stopped_more [] s = refl
  stopped_more (t ∷ ts) s = ap (λ (l : List (StoppedRecord D)). stopped_of t ∷ l) (stopped_more ts s)

  -- One more record was appended.
  pub one_appended : (before all then : List (StoppedRecord D)) (slots : List (Slot Record D)) (s : Slot Record D) → all ≡ before ++ map stopped_of slots → then ≡ all ++ stopped_of s ∷ []
      → then ≡ before ++ map stopped_of (slots ++ s ∷ [])
  one_appended before all then slots s so is =
      is ∙ ap (λ (l : List (StoppedRecord D)). l ++ stopped_of s ∷ []) so ∙ append_assoc before (map stopped_of slots) (stopped_of s ∷ []) ∙ ap (λ (l : List (StoppedRecord D)). before ++ l) (sym (stopped_more slots s))

  -- The records of one more set were appended.
  pub set_appended : (had : ℕ → Option D → Type 0) (gone : List (HeldView Record D)) (all first : List (StoppedRecord D)) (h : HeldView Record D) → GivesBack had gone all → AreOfSet had h first → GivesBack had (gone ++ h ∷ []) (all ++ first)
  set_appended had [] all first h none of = (first, [], ap (λ (l : List (StoppedRecord D)). l ++ first) none ∙ sym (append-nil first), of, refl)
  set_appended had (e ∷ es) all first h (one, rest, is, of-one, more) of =
      (one, rest ++ first, ap (λ (l : List (StoppedRecord D)). l ++ first) is ∙ append_assoc one rest first, of-one, set_appended had es rest first h more of)
