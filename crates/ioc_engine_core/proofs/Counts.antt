-- The counts of sets, added one after another.
use Rattle.std.proofs.Common.{◌≡◌, ℕ, ◌+◌, List, [], ◌∷◌, ◌++◌, map, refl, sym, ap, ◌∙◌, arith}
use Rattle.std.proofs.lemmas.List.Sums.{sum_by-cons}
use Rattle.std.specs.List.{sum_by}
use Rattle.ioc_ledger.specs.declared.tally.Tally.{Tally}
use Rattle.ioc_ledger.specs.Requests.{filled, no_counts}
use Rattle.ioc_ledger.specs.Requests.{added}
use Rattle.ioc_set.specs.SetState.{SetState}
use Rattle.ioc_journaled_set.specs.Holding.{HeldView}
use Rattle.ioc_engine_core.specs.Ended.{counts_in}

-- The tally with the counts of each set added in turn.
abbrev pub counted_with : {R D : Type 0} → Tally → List (HeldView R D) → Tally
counted_with t [] = t
counted_with t (h ∷ hs) = counted_with (added t h.set.tally) hs

-- The counts of a set may be added last.
pub counted_last : {R D : Type 0} (t : Tally) (sets : List (HeldView R D)) (h : HeldView R D) → counted_with t (sets ++ h ∷ []) ≡ added (counted_with t sets) h.set.tally
counted_last t [] h = refl
counted_last t (x ∷ xs) h = counted_last (added t x.set.tally) xs h

-- A sum that stops at the greatest number may be made in two steps.
filled-on : (n a b : ℕ) → filled (filled n a) b ≡ filled n (a + b)
filled-on n a b = omega arith

-- The tally with the sums of the counts of the sets, each stopping at the greatest number.
abbrev summed_with : {R D : Type 0} → Tally → List (HeldView R D) → Tally
summed_with t sets = record {
  begun = filled t.begun (sum_by (λ (h : HeldView _ _). h.set.tally.begun) sets);
  processed = filled t.processed (sum_by (λ (h : HeldView _ _). h.set.tally.processed) sets);
  disabled = filled t.disabled (sum_by (λ (h : HeldView _ _). h.set.tally.disabled) sets);
  active = filled t.active (sum_by (λ (h : HeldView _ _). h.set.tally.active) sets);
  reprocess = filled t.reprocess (sum_by (λ (h : HeldView _ _). h.set.tally.reprocess) sets);
  started = filled t.started (sum_by (λ (h : HeldView _ _). h.set.tally.started) sets);
  completed = filled t.completed (sum_by (λ (h : HeldView _ _). h.set.tally.completed) sets);
}

-- Two tallies with the same counts are equal.
alike : (t u : Tally) → t.begun ≡ u.begun → t.processed ≡ u.processed → t.disabled ≡ u.disabled → t.active ≡ u.active → t.reprocess ≡ u.reprocess → t.started ≡ u.started → t.completed ≡ u.completed → t ≡ u
alike t u a b c d e f g =
    ap (λ (n : ℕ). record { begun = n; processed = t.processed; disabled = t.disabled; active = t.active; reprocess = t.reprocess; started = t.started; completed = t.completed }) a ∙ ap (λ (n : ℕ). record { begun = u.begun; processed = n; disabled = t.disabled; active = t.active; reprocess = t.reprocess; started = t.started; completed = t.completed }) b ∙ ap (λ (n : ℕ). record { begun = u.begun; processed = u.processed; disabled = n; active = t.active; reprocess = t.reprocess; started = t.started; completed = t.completed }) c ∙ ap (λ (n : ℕ). record { begun = u.begun; processed = u.processed; disabled = u.disabled; active = n; reprocess = t.reprocess; started = t.started; completed = t.completed }) d ∙ ap (λ (n : ℕ). record { begun = u.begun; processed = u.processed; disabled = u.disabled; active = u.active; reprocess = n; started = t.started; completed = t.completed }) e ∙ ap (λ (n : ℕ). record { begun = u.begun; processed = u.processed; disabled = u.disabled; active = u.active; reprocess = u.reprocess; started = n; completed = t.completed }) f ∙ ap (λ (n : ℕ). record { begun = u.begun; processed = u.processed; disabled = u.disabled; active = u.active; reprocess = u.reprocess; started = u.started; completed = n }) g

-- The count of the first set and those of the others may be added in turn.
first_count : {R D : Type 0} (n : ℕ) (count : HeldView R D → ℕ) (h : HeldView R D) (hs : List (HeldView R D)) → filled (filled n (count h)) (sum_by count hs) ≡ filled n (sum_by count (h ∷ hs))
first_count n count h hs = filled-on n (count h) (sum_by count hs) ∙ ap (λ (s : ℕ). filled n s) (sym (sum_by-cons count h hs))

first_too : {R D : Type 0} (t : Tally) (h : HeldView R D) (hs : List (HeldView R D)) → summed_with (added t h.set.tally) hs ≡ summed_with t (h ∷ hs)
first_too t h hs = alike (summed_with (added t h.set.tally) hs) (summed_with t (h ∷ hs))
    (first_count t.begun (λ (g : HeldView _ _). g.set.tally.begun) h hs)
    (first_count t.processed (λ (g : HeldView _ _). g.set.tally.processed) h hs)
    (first_count t.disabled (λ (g : HeldView _ _). g.set.tally.disabled) h hs)
    (first_count t.active (λ (g : HeldView _ _). g.set.tally.active) h hs)
    (first_count t.reprocess (λ (g : HeldView _ _). g.set.tally.reprocess) h hs)
    (first_count t.started (λ (g : HeldView _ _). g.set.tally.started) h hs)
    (first_count t.completed (λ (g : HeldView _ _). g.set.tally.completed) h hs)

-- Adding zero changes no count.
full_or_less : (n a : ℕ) → filled (filled n a) 0 ≡ filled n a
full_or_less n a = omega arith

none_more : (R D : Type 0) (t u : Tally) → summed_with {R = R} {D = D} (added t u) [] ≡ added t u
none_more R D t u = alike (summed_with {R = R} {D = D} (added t u) []) (added t u)
    (full_or_less t.begun u.begun)
    (full_or_less t.processed u.processed)
    (full_or_less t.disabled u.disabled)
    (full_or_less t.active u.active)
    (full_or_less t.reprocess u.reprocess)
    (full_or_less t.started u.started)
    (full_or_less t.completed u.completed)

all_from : {R D : Type 0} (t u : Tally) (sets : List (HeldView R D)) → counted_with (added t u) sets ≡ summed_with (added t u) sets
all_from {R} {D} t u [] = sym (none_more R D t u)
all_from t u (h ∷ hs) = all_from (added t u) h.set.tally hs ∙ first_too (added t u) h hs

-- The counts of sets depend only on the sets.
pub counts_alike : {R D : Type 0} (before after : List (HeldView R D)) → map (λ (h : HeldView R D). h.set) after ≡ map (λ (h : HeldView R D). h.set) before → counts_in after ≡ counts_in before
counts_alike {R} {D} before after same = alike (counts_in after) (counts_in before)
    (each (λ t. t.begun)) (each (λ t. t.processed)) (each (λ t. t.disabled)) (each (λ t. t.active)) (each (λ t. t.reprocess)) (each (λ t. t.started)) (each (λ t. t.completed))
  where
    by_sets : (count : Tally → ℕ) (hs : List (HeldView R D)) → sum_by (λ (h : HeldView R D). count h.set.tally) hs ≡ sum_by (λ (s : SetState R D). count s.tally) (map (λ (h : HeldView R D). h.set) hs)
    by_sets count [] = refl
    by_sets count (h ∷ hs) =
        let one = sum_by-cons (λ (h : HeldView R D). count h.set.tally) h hs in
        let other = sum_by-cons (λ (s : SetState R D). count s.tally) h.set (map (λ (h : HeldView R D). h.set) hs) in
        let rest = by_sets count hs in
        omega (arith, one, other, rest)

    each : (count : Tally → ℕ) → filled 0 (sum_by (λ (h : HeldView R D). count h.set.tally) after) ≡ filled 0 (sum_by (λ (h : HeldView R D). count h.set.tally) before)
    each count = ap (λ n. filled 0 n) (by_sets count after ∙ ap (λ l. sum_by (λ (s : SetState R D). count s.tally) l) same ∙ sym (by_sets count before))

pub counted_all : {R D : Type 0} (sets : List (HeldView R D)) → counted_with no_counts sets ≡ counts_in sets
counted_all [] = refl
counted_all (h ∷ hs) = all_from no_counts h.set.tally hs ∙ first_too no_counts h hs
