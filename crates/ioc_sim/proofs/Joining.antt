-- The links of a database, and the numbers of its records.
use Rattle.std.proofs.Common.{◌≡◌, Ordering, Less, ℕ, zero, suc, ◌-◌, ◌<◌, ◌≤◌, ◌+◌, Bool, true, false, take, drop, get_or, List, [], ◌∷◌, ◌++◌, length, Some, T, refl, sym, ap, ◌∙◌, subst, append_assoc, arith}
use Rattle.std.specs.Prelude.{All, Contains, slice_get, ◌&&◌}
use Rattle.std.specs.List.{enumerate_from}
use Rattle.std.specs.Ordering.{nat_cmp, is_lt}
use Rattle.std.specs.Cmp.{nat_cmp_total, nat_cmp_is}
use Rattle.std.specs.FinMap.{len, len-entries, entries, from_sorted, entries-from_sorted, get-from_sorted, get-from_entries, is_sorted, same_map, nat_cmp-IsAntisymmetric}
use Rattle.std.specs.FinMap.Entries.{below_all}
use Rattle.std.proofs.lemmas.List.{take_all}
use Rattle.std.proofs.lemmas.List.Elements.{All-cons, All-append}
use Rattle.std.proofs.lemmas.List.FromFn.{length-enumerate_from}
use Rattle.ioc_graph.specs.declared.edges.Edge.{Edge}
use Rattle.ioc_record.specs.RecordRules.{RecordRules}
use Rattle.ioc_graph.specs.Members.{part_numbers}
use Rattle.ioc_record.specs.RecordRules.{targets}
use Rattle.ioc_store.specs.OneMap.{numbered, world_of}
use Rattle.ioc_store.specs.OneMapLaws.{has_within, at-numbered}
use Rattle.ioc_store.specs.declared.one_map.OneMap.{OneMap}
use Rattle.ioc_store.specs.World.{World, IsClosed}
use Rattle.ioc_sim.specs.Sets.{joined_to, joined_by, parts_of}

both_hold : (a b : Bool) → T a → T b → T (a && b)
both_hold true b p q = q
both_hold false b p q = p

module _ {R : Type 0} where
  below_enumerate : (xs : List R) (n i : ℕ) → n < i → T (below_all nat_cmp n (enumerate_from i xs))
  below_enumerate [] n i l = tt
  below_enumerate (x ∷ xs) n i l = both_hold _ _ (subst (λ (o : Ordering). T (is_lt o)) (nat_cmp_is n i Less l) tt) (below_enumerate xs n (i + 1) (omega (arith, l)))

  sorted_enumerate : (xs : List R) (i : ℕ) → T (is_sorted nat_cmp (enumerate_from i xs))
  sorted_enumerate [] i = tt
  sorted_enumerate (x ∷ xs) i = both_hold _ _ (below_enumerate xs i (i + 1) (omega arith)) (sorted_enumerate xs (i + 1))

  -- The entries of a map of numbered records are the records with their places.
  pub entries-numbered : (xs : List R) → entries (numbered xs) ≡ enumerate_from 0 xs
  entries-numbered xs =
      let sorted = sorted_enumerate xs 0 in
      let same : numbered xs ≡ from_sorted (enumerate_from 0 xs) =
      same_map nat_cmp_total nat_cmp-IsAntisymmetric _ _ (λ q. get-from_entries nat_cmp_total (enumerate_from 0 xs) q ∙ sym (get-from_sorted nat_cmp (enumerate_from 0 xs) q sorted))
      in
      ap entries same ∙ entries-from_sorted nat_cmp (enumerate_from 0 xs) sorted

  pub count-numbered : (xs : List R) → len (numbered xs) ≡ length xs
  count-numbered xs = len-entries (numbered xs) ∙ ap length (entries-numbered xs) ∙ length-enumerate_from 0 xs

-- Holds if both ends of an edge are below `count`.
abbrev pub Within : ℕ → Edge → Type 0
Within count e = (e.from < count) × (e.to < count)

named_first : (t : ℕ) (ts : List ℕ) → Contains (t ∷ ts) t
named_first t ts = (0, omega arith, refl)

named_later : (t : ℕ) (ts : List ℕ) (u : ℕ) → Contains ts u → Contains (t ∷ ts) u
named_later t ts u c = (suc c.0, omega (arith, c.1), c.2)

to_within : (count n : ℕ) (ts : List ℕ) → n < count → ((t : ℕ) → Contains ts t → t < count) → All (Within count) (joined_to n ts)
to_within count n [] l h = λ i d lt. absurd (omega (arith, lt))
to_within count n (t ∷ ts) l h = All-cons (Within count) (record { from = n; to = t }) (joined_to n ts) (l, h t (named_first t ts)) (to_within count n ts l (λ u c. h u (named_later t ts u c)))

place_within : {X : Type 0} (xs : List X) (n : ℕ) (x : X) → slice_get xs n ≡ Some x → n < length xs
place_within [] n x is = cc
place_within (y ∷ ys) zero x is = omega arith
place_within (y ∷ ys) (suc n) x is = let h = place_within ys n x is in omega (arith, h)

module _ {R : Type 0} (k : RecordRules R) where
  by_within : (count : ℕ) (xs : List R) (i : ℕ) → ((j : ℕ) (x : R) → slice_get xs j ≡ Some x → (i + j < count) × ((t : ℕ) → Contains (targets k x) t → t < count))
      → All (Within count) (joined_by k (enumerate_from i xs))
  by_within count [] i h = λ j d lt. absurd (omega (arith, lt))
  by_within count (x ∷ xs) i h =
      let here = h 0 x refl in
      All-append (Within count) (joined_to i (targets k x)) (joined_by k (enumerate_from (i + 1) xs)) (to_within count i (targets k x) (omega (arith, here.0)) here.1)
      (by_within count xs (i + 1) (λ j y is. let next = h (suc j) y is in (omega (arith, next.0), next.1)))

  -- No link leaves the database.
  pub links_within : {D : Type 0} (s : OneMap R D) → IsClosed k (world_of s) → All (Within (length s.records.items)) (joined_by k (enumerate_from 0 s.records.items))
  links_within s is =
      by_within (length s.records.items) s.records.items 0
      (λ j x there. (omega (arith, place_within s.records.items j x there), λ t named. has_within s.records.items t (is.closed j t (subst (λ (r : R). Contains (targets k r) t) (at-numbered k s j x there) named))))

  -- The edges of the remaining records are those of the first, followed by those of the others.
  pub joined_more : (edges after : List Edge) (n : ℕ) (x : R) (rest : List R) → 1 ≤ length rest → x ≡ get_or rest 0 x → after ≡ edges ++ joined_to n (targets k x)
      → after ++ joined_by k (enumerate_from (n + 1) (take (length rest - 1) (drop 1 rest))) ≡ edges ++ joined_by k (enumerate_from n rest)
  joined_more edges after n x [] l is e = absurd (omega (arith, l))
  joined_more edges after n x (y ∷ ys) l is e =
      let others : take (length (y ∷ ys) - 1) ys ≡ ys = take_all _ ys (omega arith) in
      rw (e, others, ← is) (append_assoc edges (joined_to n (targets k x)) (joined_by k (enumerate_from (n + 1) ys)))

  -- The parts of a map are those of its list.
  pub parts_same : (w : World R) (items : List R) (links : List Edge) (count : ℕ) → w.records ≡ numbered items → links ≡ joined_by k (enumerate_from 0 items) → count ≡ length items
      → part_numbers links count ≡ parts_of k w
  unfolding parts_of
  parts_same w items links count is e f = rw (is, e, f, entries-numbered items, count-numbered items) refl
