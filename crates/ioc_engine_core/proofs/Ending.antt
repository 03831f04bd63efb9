-- Sets that have moved on to a longer list.
use Rattle.std.proofs.Common.{◌≡◌, ℕ, ◌<◌, zero, suc, List, [], ◌∷◌, ◌++◌, length, map, take, refl, sym, ap, ◌∙◌, subst, arith}
use Rattle.std.proofs.Math.ListN.{get_or}
use Rattle.std.proofs.Math.Seq.{take-append_seam}
use Rattle.std.proofs.lemmas.List.{get_or-map, length-map}
use Rattle.std.specs.Prelude.{Contains, IsSome, All}
use Rattle.std.specs.FinMap.{get, keys}
use Rattle.ioc_notify.specs.Waits.{at_record}
use Rattle.ioc_store.specs.World.{World}
use Rattle.ioc_journal.specs.Covering.{WaitsWithin}
use Rattle.ioc_set.specs.SetState.{SetState, now_of}
use Rattle.ioc_journaled_set.specs.Copies.{IsIn}
use Rattle.ioc_journaled_set.specs.Holding.{HeldView}
use Rattle.ioc_topology.specs.Gathered.{HoldEach}

-- An element within the list is the default of itself.
get_or_self : {X : Type 0} (xs : List X) (i : ℕ) (d : X) → i < length xs → get_or xs i (get_or xs i d) ≡ get_or xs i d
get_or_self [] i d lt = absurd (let z : ⊥ = omega (arith, lt) in z)
get_or_self (x ∷ xs) zero d lt = refl
get_or_self (x ∷ xs) (suc i) d lt = get_or_self xs i d (let l : i < length xs = omega (arith, lt) in l)

-- Which set has each record depends only on what `f` shows of the sets.
module _ {X Y : Type 0} (f : X → Y) (numbers : Y → List ℕ) (xs ys : List X) (same : map f ys ≡ map f xs) where
  as_long : length ys ≡ length xs
  as_long = sym (length-map ys f) ∙ ap (λ l. length l) same ∙ length-map xs f

  same_at : (i : ℕ) (d : X) → i < length ys → f (get_or ys i d) ≡ f (get_or xs i d)
  same_at i d lt =
      let e = as_long in
      let other : i < length xs = omega (arith, lt, e) in
      sym (get_or-map f ys i d (f d) lt) ∙ ap (λ l. get_or l i (f d)) same ∙ get_or-map f xs i d (f d) other

  pub still_hold_each : (n : ℕ) → HoldEach (λ x. numbers (f x)) xs n → HoldEach (λ x. numbers (f x)) ys n
  still_hold_each n h = record {
    once = λ i j d lt within p q cp cq.
        let first : i < length ys = omega (arith, lt, within) in
        let e = as_long in
        let other : j < length xs = omega (arith, within, e) in
        h.once i j d lt other p q (subst (λ y. Contains (numbers y) p) (same_at i d first) cp) (subst (λ y. Contains (numbers y) q) (same_at j d within) cq);
    each = λ q lt.
        let a = h.each q lt in
        let e = as_long in
        let l = a.2 in
        let within : a.0 < length ys = omega (arith, l, e) in (
          a.0,
          get_or ys a.0 a.1,
          within,
          get_or_self ys a.0 a.1 within,
          subst (λ y. Contains (numbers y) q) (sym (same_at a.0 a.1 within ∙ ap f a.3)) a.4,
        );
  }

-- The first `length xs` elements of `xs ++ ys` are `xs`.
pub whole : {X : Type 0} (xs ys : List X) (n : ℕ) → n ≡ length xs → take n (xs ++ ys) ≡ xs
whole xs ys n is = ap (λ m. take m (xs ++ ys)) is ∙ take-append_seam xs ys

-- A set is in a world by its records and waiting lists alone.
in_by_set : {R D : Type 0} (m : World R) (before after : HeldView R D) → after.set ≡ before.set → IsIn m before → IsIn m after
in_by_set {R} {D} m before after same is = record {
  records = subst (λ (s : SetState R D). (n : ℕ) → IsSome (get s.records n) → get m.records n ≡ get s.records n) (sym same) is.records;
  waiting = subst (λ (s : SetState R D). (n : ℕ) → IsSome (get s.records n) → at_record n m.waiting ≡ at_record n s.waiting) (sym same) is.waiting;
  within = subst (λ (s : SetState R D). WaitsWithin (now_of s)) (sym same) is.within;
}

pub still_in : {R D : Type 0} (m : World R) (before after : List (HeldView R D)) → map (λ (h : HeldView R D). h.set) after ≡ map (λ (h : HeldView R D). h.set) before → All (IsIn m) before → All (IsIn m) after
still_in {R} {D} m before after same are i d lt =
    let e = as_long (λ (h : HeldView R D). h.set) (λ (s : SetState R D). keys s.records) before after same in
    let other : i < length before = omega (arith, lt, e) in
    in_by_set m (get_or before i d) (get_or after i d) (same_at (λ (h : HeldView R D). h.set) (λ (s : SetState R D). keys s.records) before after same i d lt) (are i d other)
