-- Shares of sets that are merged one after another, and the parts that they have together.
use Rattle.std.proofs.Common.{◌≡◌, ℕ, ◌+◌, ◌-◌, ◌<◌, List, [], ◌∷◌, ◌++◌, length, get_or, sum_by, refl, sym, ap, ◌∙◌, subst, arith}
use Rattle.std.specs.Prelude.{All, IsSome}
use Rattle.std.specs.FinMap.{get, len}
use Rattle.std.proofs.lemmas.List.Sums.{sum_by-append, sum_by-cons}
use Rattle.ioc_ledger.specs.declared.tally.Tally.{Tally}
use Rattle.ioc_ledger.specs.Requests.{added, no_counts}
use Rattle.ioc_ledger.specs.Shared.{ShareView, share_view}
use Rattle.ioc_store.specs.World.{World, Has}
use Rattle.ioc_topology.specs.Gathered.{HoldEach}
use Rattle.ioc_journaled_set.specs.Copies.{IsIn}
use Rattle.ioc_journaled_set.specs.Holding.{HeldView, numbers_of}
use Rattle.ioc_journaled_set.proofs.Keys.{key_there, keys_count}
use Rattle.ioc_engine_core.proofs.Counts.{counted_last, counted_with}
use Rattle.ioc_engine_core.proofs.EachOnce.{each-once}
use Rattle.ioc_engine_core.proofs.SameKeys.{keys-distinct}

module _ {R D : Type 0} where
  -- The number of a set's records.
  abbrev pub size : HeldView R D → ℕ
  size h = len h.set.records

  -- A set that is merged last.
  module _ (all then : ShareView) (sets : List (HeldView R D)) (h : HeldView R D) (merged : then ≡ share_view (all.parts + size h) (added all.counts h.set.tally)) where
    pub counts_more : all.counts ≡ counted_with no_counts sets → then.counts ≡ counted_with no_counts (sets ++ h ∷ [])
    counts_more counts = ap (λ (s : ShareView). s.counts) merged ∙ ap (λ (t : Tally). added t h.set.tally) counts ∙ sym (counted_last no_counts sets h)

    pub parts_more : (n : ℕ) → all.parts ≡ n + sum_by size sets → then.parts ≡ n + sum_by size (sets ++ h ∷ [])
    parts_more n parts =
        let last = sum_by-append size sets (h ∷ []) in
        let one = sum_by-cons size h [] in
        let now = ap (λ (s : ShareView). s.parts) merged in
        omega (arith, last, one, now, parts)

  -- Sets that have each record once have as many records together, if there are no others.
  pub sizes_add_up : (m : World R) (sets : List (HeldView R D)) (count : ℕ) → HoldEach numbers_of sets count → All (IsIn m) sets → ((n : ℕ) → Has m n → n < count) → sum_by size sets ≡ count
  sizes_add_up m sets count each are_in known =
      sums sets ∙ each-once numbers_of sets count each
      (λ i d lt. keys-distinct (get_or sets i d).set.records)
      (λ i d q lt has.
      let there : IsSome (get (get_or sets i d).set.records q) = key_there (get_or sets i d).set.records q has in
      known q (subst (λ o. IsSome o) (sym ((are_in i d lt).records q there)) there))
    where
      sums : (sets : List (HeldView R D)) → sum_by size sets ≡ sum_by (λ (h : HeldView R D). length (numbers_of h)) sets
      sums [] = refl
      sums (h ∷ hs) =
          let first = sum_by-cons size h hs in
          let other = sum_by-cons (λ (h : HeldView R D). length (numbers_of h)) h hs in
          let here = keys_count h.set.records in
          let rest = sums hs in
          omega (arith, first, other, here, rest)
