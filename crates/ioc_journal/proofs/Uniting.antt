-- The world of all that two worlds without a common record have.
use Rattle.std.proofs.Common.{◌≡◌, ◌⊎◌, ℕ, true, false, cond, List, [], ◌∷◌, ◌++◌, Option, Some, None as Nothing_, refl, sym, ap, subst, ◌∙◌, inl, inr, ⊎_elim, append-nil}
use Rattle.std.specs.Prelude.{is_some}
use Rattle.std.specs.Ordering.{nat_cmp, eq_by_cmp}
use Rattle.std.specs.Cmp.{nat_cmp_total}
use Rattle.std.specs.FinMap.{get, find, entries, from_entries, get-entries, get-from_entries}
use Rattle.std.proofs.lemmas.List.Elements.{Contains-append_cases, filter-append}
use Rattle.ioc_notify.specs.declared.waiting_lists.Waiting.{Waiting}
use Rattle.ioc_notify.specs.Waits.{at_record}
use Rattle.ioc_store.specs.World.{World, Has}
use Rattle.ioc_journal.specs.Covering.{AreHalves, WaitsWithin}
use Rattle.ioc_journal.proofs.Basics.{is-none, nobody-waits}
use Rattle.ioc_journal.proofs.Sharing.{none-there, there-as, one-in, turned, from-one}

-- The first option, or else the second.
abbrev pub first-of : {X : Type 0} → Option X → Option X → Option X
first-of o p = cond (is_some o) o p

find-both : {X : Type 0} (es fs : List (ℕ × X)) (q : ℕ) → find nat_cmp q (es ++ fs) ≡ first-of (find nat_cmp q es) (find nat_cmp q fs)
find-both [] fs q = refl
find-both (e ∷ es) fs q = elim (eq_by_cmp nat_cmp q e.0) as (λ b. cond b (Some e.1) (find nat_cmp q (es ++ fs)) ≡ first-of (cond b (Some e.1) (find nat_cmp q es)) (find nat_cmp q fs)) [
  | true ↦ refl
  | false ↦ find-both es fs q
]

pub united : {R : Type 0} → World R → World R → World R
united a b = record a { records = from_entries (entries a.records ++ entries b.records); waiting = a.waiting ++ b.waiting }

module _ {R : Type 0} (a b : World R) (disjoint : (q : ℕ) → Has a q → Has b q → ⊥) (within : WaitsWithin a) (other_within : WaitsWithin b) where
  pub united-get : (q : ℕ) → get (united a b).records q ≡ first-of (get a.records q) (get b.records q)
  unfolding united
  united-get q =
      get-from_entries nat_cmp_total (entries a.records ++ entries b.records) q ∙ find-both (entries a.records) (entries b.records) q
      ∙ ap (λ (o : Option R). first-of o (find nat_cmp q (entries b.records))) (sym (get-entries a.records q))
      ∙ ap (λ (o : Option R). first-of (get a.records q) o) (sym (get-entries b.records q))

  shared-one : (o p u : Option R) → u ≡ first-of o p → (is_some o ≡ true → is_some p ≡ true → ⊥) → ((o ≡ u) × (p ≡ Nothing_)) ⊎ ((o ≡ Nothing_) × (p ≡ u))
  shared-one Nothing_ p u is never = inr (refl, sym is)
  shared-one (Some x) p u is never = inl (sym is, is-none p (λ there. never refl there))

  alone : (q : ℕ) → Has a q → at_record q b.waiting ≡ []
  alone q there = nobody-waits b.waiting q (λ x c e. disjoint q there (subst (λ (n : ℕ). Has b n) e (other_within x c)))

  other-alone : (q : ℕ) → Has b q → at_record q a.waiting ≡ []
  other-alone q there = nobody-waits a.waiting q (λ x c e. disjoint q (subst (λ (n : ℕ). Has a n) e (within x c)) there)

  waits : (q : ℕ) → Has a q → at_record q a.waiting ≡ at_record q (united a b).waiting
  unfolding united
  waits q there =
      sym (append-nil (at_record q a.waiting)) ∙ ap (λ (l : List Waiting). at_record q a.waiting ++ l) (sym (alone q there)) ∙ sym (filter-append _ a.waiting b.waiting)

  other-waits : (q : ℕ) → Has b q → at_record q b.waiting ≡ at_record q (united a b).waiting
  unfolding united
  other-waits q there = ap (λ (l : List Waiting). l ++ at_record q b.waiting) (sym (other-alone q there)) ∙ sym (filter-append _ a.waiting b.waiting)

  pub united-halves : AreHalves (united a b) a b
  united-halves = record {
    records = λ q. shared-one (get a.records q) (get b.records q) (get (united a b).records q) (united-get q) (disjoint q);
    first = record { waiting = waits; within = within };
    second = record { waiting = other-waits; within = other_within };
  }

  pub united-within : WaitsWithin (united a b)
  unfolding united
  united-within x c = ⊎_elim
      (λ here. one-in (united a b) a b united-halves x.target (within x here))
      (λ here. one-in (united a b) b a (turned (united a b) a b united-halves) x.target (other_within x here))
      (Contains-append_cases a.waiting b.waiting x c)

-- Three parts: `c` is `p` and `r`, and `a` is `p` and `o`.
module _ {R : Type 0} (c p r a o : World R) (halves : AreHalves c p r) (others : AreHalves a p o) (disjoint : (q : ℕ) → Has c q → Has o q → ⊥) (c_within : WaitsWithin c) (a_within : WaitsWithin a) where
  rest-apart : (q : ℕ) → Has a q → Has r q → ⊥
  rest-apart q there rests =
      let in_r = from-one c r p (turned c p r halves) q rests in
      let in_c : Has c q = there-as (get r.records q) (get c.records q) (sym in_r.0) rests in
      ⊎_elim
      (λ one. none-there (get p.records q) in_r.1 (there-as (get a.records q) (get p.records q) (sym one.0) there))
      (λ one. disjoint q in_c (there-as (get a.records q) (get o.records q) (sym one.1) there))
      (others.records q)

  abbrev pub whole : World R
  whole = united a r

  pub whole-halves : AreHalves whole a r
  whole-halves = united-halves a r rest-apart a_within halves.second.within

  pub whole-within : WaitsWithin whole
  whole-within = united-within a r rest-apart a_within halves.second.within

  -- The entries of one number.
  three-one : (u c' p' r' a' o' : Option R) → ((a' ≡ u) × (r' ≡ Nothing_)) ⊎ ((a' ≡ Nothing_) × (r' ≡ u)) → ((p' ≡ c') × (r' ≡ Nothing_)) ⊎ ((p' ≡ Nothing_) × (r' ≡ c'))
      → ((p' ≡ a') × (o' ≡ Nothing_)) ⊎ ((p' ≡ Nothing_) × (o' ≡ a')) → (is_some c' ≡ true → is_some o' ≡ true → ⊥) → ((c' ≡ u) × (o' ≡ Nothing_)) ⊎ ((c' ≡ Nothing_) × (o' ≡ u))
  three-one u c' p' r' a' o' (inl x) (inl y) (inl z) never = inl (sym y.0 ∙ z.0 ∙ x.0, z.1)
  three-one u c' p' r' a' o' (inl x) (inl y) (inr z) never = inr (sym y.0 ∙ z.0, z.1 ∙ x.0)
  three-one u c' p' r' a' o' (inl x) (inr y) (inl z) never = inl (sym y.1 ∙ x.1 ∙ sym y.0 ∙ z.0 ∙ x.0, z.1)
  three-one u c' p' r' a' o' (inl x) (inr y) (inr z) never = inr (sym y.1 ∙ x.1, z.1 ∙ x.0)
  three-one u c' p' r' a' o' (inr x) (inl y) (inl z) never = inl (sym y.0 ∙ z.0 ∙ x.0 ∙ sym y.1 ∙ x.1, z.1)
  three-one u c' p' r' a' o' (inr x) (inl y) (inr z) never = inr (sym y.0 ∙ z.0, z.1 ∙ x.0 ∙ sym y.1 ∙ x.1)
  three-one u c' p' r' a' o' (inr x) (inr y) (inl z) never = inl (sym y.1 ∙ x.1, z.1)
  three-one u c' p' r' a' o' (inr x) (inr y) (inr z) never = inl (sym y.1 ∙ x.1, z.1 ∙ x.0)

  waits-whole : (q : ℕ) → Has c q → at_record q c.waiting ≡ at_record q whole.waiting
  waits-whole q there = ⊎_elim
      (λ one. let in_p = there-as (get c.records q) (get p.records q) (sym one.0) there in
      sym (halves.first.waiting q in_p) ∙ others.first.waiting q in_p ∙ whole-halves.first.waiting q (one-in a p o others q in_p))
      (λ one. let in_r = there-as (get c.records q) (get r.records q) (sym one.1) there in
      sym (halves.second.waiting q in_r) ∙ whole-halves.second.waiting q in_r)
      (halves.records q)

  others-wait : (q : ℕ) → Has o q → at_record q o.waiting ≡ at_record q whole.waiting
  others-wait q there = others.second.waiting q there ∙ whole-halves.first.waiting q (one-in a o p (turned a p o others) q there)

  pub whole-shared : AreHalves whole c o
  whole-shared = record {
    records = λ q. three-one (get whole.records q) (get c.records q) (get p.records q) (get r.records q) (get a.records q) (get o.records q) (whole-halves.records q) (halves.records q) (others.records q) (disjoint q);
    first = record { waiting = waits-whole; within = c_within };
    second = record { waiting = others-wait; within = others.second.within };
  }
