-- Two parts that a new link joins are one.
use Rattle.std.proofs.Common.{◌≡◌, ◌⊎◌, ℕ, sym, ap, ◌∙◌, inl, inr, ⊎_elim}
use Rattle.std.specs.Prelude.{IsSome, is_some}
use Rattle.ioc_graph.specs.Paths.{Connected}
use Rattle.ioc_graph.proofs.PathLaws.{stays, steps, follows, back, carries}
use Rattle.ioc_set_records.specs.Joined.{Links, Names, Joined, IsClosed, IsOnePart, IsPart, AreShared}
use Rattle.ioc_set_records.proofs.Moves.{names_by, names_some, not_some}

-- The records of `f` are those of `g` and those of `h`; `g` has all links of `old`, and one more,
-- from `n` to `t`.
module _ (old f g h : Links) (n t : ℕ) (shared : AreShared f g h) (same_has : (q : ℕ) → IsSome (g q) → IsSome (old q)) (has_same : (q : ℕ) → IsSome (old q) → IsSome (g q))
    (kept : (a b : ℕ) → Names old a b → Names g a b) (from_old : (a b : ℕ) → Names g a b → Names old a b ⊎ (b ≡ t)) (new : Names g n t) (t_in : IsSome (h t)) (n_in : IsSome (old n)) where
  abbrev C : ℕ → ℕ → Type 0
  C = Connected (Joined f)

  turn : (a b : ℕ) → Joined f a b → Joined f b a
  turn a b = ⊎_elim (λ l. inr l) (λ l. inl l)

  of_g : (q : ℕ) → IsSome (g q) → f q ≡ g q
  of_g q s = ⊎_elim (λ k. sym k.0) (λ k. absurd (not_some (g q) k.0 s)) (shared q)

  of_h : (q : ℕ) → IsSome (h q) → f q ≡ h q
  of_h q s = ⊎_elim (λ k. absurd (not_some (h q) k.1 s)) (λ k. sym k.1) (shared q)

  names_g : (a b : ℕ) → Names g a b → Names f a b
  names_g a b c = names_by g f a b (of_g a (names_some g a b c)) c

  names_h : (a b : ℕ) → Names h a b → Names f a b
  names_h a b c = names_by h f a b (of_h a (names_some h a b c)) c

  joins_old : (a b : ℕ) → Joined old a b → Joined f a b
  joins_old a b = ⊎_elim (λ c. inl (names_g a b (kept a b c))) (λ c. inr (names_g b a (kept b a c)))

  joins_h : (a b : ℕ) → Joined h a b → Joined f a b
  joins_h a b = ⊎_elim (λ c. inl (names_h a b c)) (λ c. inr (names_h b a c))

  whose : (q : ℕ) → IsSome (f q) → IsSome (g q) ⊎ IsSome (h q)
  whose q s = ⊎_elim (λ k. inl (ap is_some k.0 ∙ s)) (λ k. inr (ap is_some k.1 ∙ s)) (shared q)

  module _ (one : IsPart old) (other : IsPart h) where
    to_n : (q : ℕ) → IsSome (f q) → C q n
    to_n q s =
        ⊎_elim
        (λ k. carries (Joined old) (Joined f) joins_old q n (one.one_part q n (same_has q k) n_in))
        (λ k. follows (Joined f) q t n (carries (Joined h) (Joined f) joins_h q t (other.one_part q t k t_in)) (steps (Joined f) t n n (inr (names_g n t new)) (stays (Joined f) n)))
        (whose q s)

    one_part : IsOnePart f
    one_part a b sa sb = follows (Joined f) a n b (to_n a sa) (back (Joined f) turn b n (to_n b sb))

    in_g : (q : ℕ) → IsSome (g q) → IsSome (f q)
    in_g q s = ap is_some (of_g q s) ∙ s

    in_h : (q : ℕ) → IsSome (h q) → IsSome (f q)
    in_h q s = ap is_some (of_h q s) ∙ s

    closed : IsClosed f
    closed a b c =
        ⊎_elim
        (λ k.
        let d = names_by f g a b (sym (of_g a k)) c in
        ⊎_elim
        (λ o. in_g b (has_same b (one.closed a b o)))
        (λ e. ap (λ q. is_some (f q)) e ∙ in_h t t_in)
        (from_old a b d))
        (λ k. in_h b (other.closed a b (names_by f h a b (sym (of_h a k)) c)))
        (whose a (names_some f a b c))

    pub joined_part : IsPart f
    joined_part = record { one_part = one_part; closed = closed }
