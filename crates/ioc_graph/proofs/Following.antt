-- The nodes of a part follow one another.
use Rattle.std.proofs.Common.{◌≡◌, ◌≢◌, ℕ, suc, ◌<◌, ◌≤◌, ◌+◌, ◌-◌, Bool, true, false, eqb, cond, List, [], ◌∷◌, ◌++◌, length, take, drop, set, get_or, refl, sym, ap, ◌∙◌, subst, arith, eq-eqb, ⊎_elim, get_or-set_other}
use Rattle.std.specs.Prelude.{filter, slice_index}
use Rattle.std.specs.List.{range_with_len}
use Rattle.std.proofs.lemmas.Bool.{cases_eq, cases_lt, ne_eqb}
use Rattle.std.proofs.lemmas.Grind.{get_or-set_at, same_number_lists}
use Rattle.std.proofs.Math.ListN.{length-set}
use Rattle.std.proofs.lemmas.List.{take_all, take-append-le}
use Rattle.ioc_graph.specs.declared.edges.Edge.{Edge}
use Rattle.ioc_graph.specs.Forest.{renumbered}
use Rattle.ioc_graph.specs.Parts.{all_below}
use Rattle.ioc_graph.specs.Members.{numbers_after, part_numbers, members_from, Follow}
use Rattle.ioc_graph.proofs.All.{count_of, itself}

-- A list in which each node is its own parent is the list of all nodes.
pub all_alone : (n : ℕ) (ps : List ℕ) → length ps ≡ n → ((i : ℕ) → i < length ps → slice_index ps i ≡ i) → ps ≡ all_below n
all_alone n ps len at = same_number_lists ps (all_below n) (len ∙ sym (count_of n)) (λ i l. at i l ∙ sym (itself n i (omega (arith, l, len))))

after_more : (numbers : List ℕ) (es : List Edge) (e : Edge) → numbers_after numbers (es ++ e ∷ []) ≡ renumbered (numbers_after numbers es) e.from e.to
after_more numbers [] e = refl
after_more numbers (d ∷ ds) e = after_more (renumbered numbers d.from d.to) ds e

pub one_more : (all : List ℕ) (es more : List Edge) (numbers : List ℕ) (e : Edge) (a b : ℕ) → more ≡ es ++ e ∷ [] → numbers ≡ numbers_after all es → a ≡ e.from → b ≡ e.to
    → renumbered numbers a b ≡ numbers_after all more
one_more all es more numbers e a b is same f t = rw (is, same, f, t) (sym (after_more all es e))

range_step : (a n : ℕ) → a < n → range_with_len a (n - a) ≡ a ∷ range_with_len (a + 1) (n - (a + 1))
range_step a n l = let e : n - a ≡ suc (n - (a + 1)) = omega arith in rw e refl

module _ (numbers : List ℕ) (p : ℕ) where
  pub none_from : (a : ℕ) → a ≡ length numbers → members_from numbers p a ≡ []
  unfolding members_from
  none_from a e = let z : length numbers - a ≡ 0 = omega arith in rw z refl

  pub one_here : (a : ℕ) → a < length numbers → slice_index numbers a ≡ p → members_from numbers p a ≡ a ∷ members_from numbers p (a + 1)
  unfolding members_from
  one_here a l e = rw (range_step a (length numbers) l, eq-eqb (slice_index numbers a) p e) refl

  pub none_here : (a : ℕ) → a < length numbers → slice_index numbers a ≢ p → members_from numbers p a ≡ members_from numbers p (a + 1)
  unfolding members_from
  none_here a l n = rw (range_step a (length numbers) l, ne_eqb (slice_index numbers a) p n) refl

-- Writing before an index doesn't change what follows from there.
set_follow : (next : List ℕ) (j v at : ℕ) (ns : List ℕ) → j < at → Follow next at ns → Follow (set next j v) at ns
set_follow next j v at [] l f = f ∙ sym (length-set {A = ℕ} next j v)
set_follow next j v at (n ∷ ns) l f =
    let other : slice_index (set next j v) n ≡ slice_index next n = get_or-set_other next j n v 0 (λ e. absurd (omega (arith, l, f.0, e))) in
    let len : length (set next j v) ≡ length next = length-set {A = ℕ} next j v in
    (f.0, rw other f.1, omega (arith, len, f.2), rw other (set_follow next j v (slice_index next n) ns (omega (arith, l, f.0, f.1)) f.3))

next_above : (p i : ℕ) → i ≤ p → p ≢ i → i + 1 ≤ p
next_above p i l n = ⊎_elim (λ (h : i < p). omega (arith, h)) (λ (h : p ≤ i). absurd (n (omega (arith, h, l)))) (cases_lt i p)

-- The state after the nodes from `place` on are visited.
pub record Built (numbers next : List ℕ) (place : ℕ) : Type 0 where
  pub one_each : length next ≡ length numbers
  pub within : place ≤ length numbers
  -- Each node leads to a later one, and to none that isn't visited.
  pub behind : (j : ℕ) → j < length numbers → (place ≤ slice_index next j) × (j < slice_index next j)
  -- The visited nodes of a part follow its first node, if that one isn't visited.
  pub before : (p : ℕ) → p < length numbers → slice_index numbers p ≡ p → p < place → Follow next (slice_index next p) (members_from numbers p place)
  pub done : (p : ℕ) → p < length numbers → slice_index numbers p ≡ p → place ≤ p → Follow next (slice_index next p) (members_from numbers p (p + 1))

-- The state before any node is visited.
pub nothing_built : (numbers next : List ℕ) (count : ℕ) → length next ≡ length numbers → count ≡ length numbers → ((j : ℕ) → j < length numbers → slice_index next j ≡ count) → Built numbers next count
nothing_built numbers next count len is at = record {
  one_each = len;
  within = omega (arith, is);
  behind = λ j l. (omega (arith, at j l), omega (arith, at j l, is, l));
  before = λ p l own lower. rw (none_from numbers p count is) (at p l ∙ is ∙ sym len);
  done = λ p l own lower. absurd (omega (arith, l, lower, is));
}

module _ (numbers next : List ℕ) (i place : ℕ) (up : place ≡ i + 1) (b : Built numbers next place) where
  here : i < length numbers
  here = omega (arith, up, b.within)

  -- The first node of a part is visited.
  pub build_own : slice_index numbers i ≡ i → Built numbers next i
  build_own own = record {
    one_each = b.one_each;
    within = omega (arith, here);
    behind = λ j l. let h = b.behind j l in (omega (arith, h.0, up), h.1);
    before = λ p l first lower.
        rw (none_here numbers p i here (λ e. absurd (omega (arith, e, own, lower))), ← up) (b.before p l first (omega (arith, lower, up)));
    done = λ p l first lower.
        ⊎_elim
        (λ (e : p ≡ i). let f = b.before p l first (omega (arith, e, up)) in subst (λ (k : ℕ). Follow next (slice_index next p) (members_from numbers p k)) (omega (arith, e, up)) f)
        (λ n. b.done p l first (omega (arith, up, next_above p i lower n)))
        (cases_eq p i);
  }

  -- A node after the first node `q` of its part is visited.
  module _ (q : ℕ) (is : q ≡ slice_index numbers i) (low : q < i) where
    abbrev mid : List ℕ
    mid = set next i (slice_index next q)

    abbrev after : List ℕ
    after = set mid q i

    there : q < length numbers
    there = omega (arith, low, here)

    len_mid : length mid ≡ length next
    len_mid = length-set {A = ℕ} next i (slice_index next q)

    len_after : length after ≡ length next
    len_after = length-set {A = ℕ} mid q i ∙ len_mid

    at_q : slice_index after q ≡ i
    at_q = get_or-set_at mid q q i 0 refl (omega (arith, there, len_mid, b.one_each))

    at_i : slice_index after i ≡ slice_index next q
    at_i = get_or-set_other mid q i i 0 (λ e. absurd (omega (arith, e, low))) ∙ get_or-set_at next i i (slice_index next q) 0 refl (omega (arith, here, b.one_each))

    at_other : (j : ℕ) → j ≢ q → j ≢ i → slice_index after j ≡ slice_index next j
    at_other j n m = get_or-set_other mid q j i 0 n ∙ get_or-set_other next i j (slice_index next q) 0 m

    follow_after : (at : ℕ) (ns : List ℕ) → i < at → Follow next at ns → Follow after at ns
    follow_after at ns l f = set_follow mid q i at ns (omega (arith, l, low)) (set_follow next i (slice_index next q) at ns l f)

    behind_after : (j : ℕ) → j < length numbers → (i ≤ slice_index after j) × (j < slice_index after j)
    behind_after j l =
        ⊎_elim
        (λ (e : j ≡ q). rw (e, at_q) (omega arith, low))
        (λ n. ⊎_elim
        (λ (e : j ≡ i). let h = b.behind q there in rw (e, at_i) (omega (arith, h.0, up), omega (arith, h.0, up)))
        (λ m. let h = b.behind j l in rw (at_other j n m) (omega (arith, h.0, up), h.1))
        (cases_eq j i))
        (cases_eq j q)

    before_after : (p : ℕ) → p < length numbers → slice_index numbers p ≡ p → p < i → Follow after (slice_index after p) (members_from numbers p i)
    before_after p l first lower =
        let f = subst (λ (k : ℕ). Follow next (slice_index next p) (members_from numbers p k)) up (b.before p l first (omega (arith, lower, up))) in
        let h = b.behind p l in
        let g = follow_after (slice_index next p) (members_from numbers p (i + 1)) (omega (arith, h.0, up)) f in
        ⊎_elim
        (λ (e : p ≡ q).
        rw (one_here numbers p i here (sym is ∙ sym e))
        (ap (slice_index after) e ∙ at_q, (behind_after i here).1, omega (arith, here, len_after, b.one_each), subst (λ (k : ℕ). Follow after k (members_from numbers p (i + 1))) (ap (slice_index next) e ∙ sym at_i) g))
        (λ n. rw (none_here numbers p i here (λ e. n (sym e ∙ sym is)), at_other p n (λ e. absurd (omega (arith, e, lower)))) g)
        (cases_eq p q)

    pub build_behind : Built numbers after i
    build_behind = record {
      one_each = len_after ∙ b.one_each;
      within = omega (arith, here);
      behind = behind_after;
      before = before_after;
      done = λ p l first lower.
          let n : p ≢ i = λ e. absurd (omega (arith, sym (ap (slice_index numbers) e) ∙ first ∙ e, is, low)) in
          let h = b.behind p l in
          rw (at_other p (λ e. absurd (omega (arith, e, low, lower))) n)
          (follow_after (slice_index next p) (members_from numbers p (p + 1)) (omega (arith, h.1, lower)) (b.done p l first (omega (arith, up, next_above p i lower n))));
    }

-- The numbers after all edges.
pub all_joined : (edges : List Edge) (numbers : List ℕ) (k count : ℕ) → numbers ≡ numbers_after (all_below count) (take k edges) → length edges ≤ k → numbers ≡ part_numbers edges count
unfolding part_numbers
all_joined edges numbers k count is l = is ∙ ap (numbers_after (all_below count)) (take_all k edges l)

-- A list that is wholly overwritten.
pub whole : (ps items : List ℕ) (n : ℕ) → length ps ≡ n → length items ≡ n → take n (ps ++ drop (length ps) items) ≡ ps
whole ps items n e f = take-append-le n ps (drop (length ps) items) (omega (arith, e)) ∙ take_all n ps (omega (arith, e))
