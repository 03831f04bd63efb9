-- Parts of records whose links change.
use Rattle.std.proofs.Common.{◌≡◌, ◌⊎◌, ℕ, Option, None, true, false, sym, ap, ◌∙◌, inl, inr, ⊎_elim}
use Rattle.std.specs.Prelude.{IsSome, is_some}
use Rattle.ioc_graph.specs.Paths.{Connected}
use Rattle.ioc_graph.proofs.PathLaws.{steps, follows, back, carries_within, through}
use Rattle.ioc_set_records.specs.Joined.{Links, Names, Joined, IsClosed, IsOnePart, IsPart}

turn : (f : Links) (a b : ℕ) → Joined f a b → Joined f b a
turn f a b = ⊎_elim (λ l. inr l) (λ l. inl l)

pub not_some : {X : Type 0} (o : Option X) → o ≡ None → IsSome o → ⊥
not_some o n s = let f : false ≡ true = ap is_some (sym n) ∙ s in cc

pub names_some : (f : Links) (a b : ℕ) → Names f a b → IsSome (f a)
names_some f a b n = ap is_some n.1

-- A record with the same links names the same records.
pub names_by : (f g : Links) (a b : ℕ) → g a ≡ f a → Names f a b → Names g a b
names_by f g a b e n = (n.0, e ∙ n.1, n.2)

-- Some of the records, from which no link leads to the others.
module _ (f g : Links) (P : ℕ → Type 0) (within : (q : ℕ) → ((g q ≡ f q) × P q) ⊎ ((g q ≡ None) × (P q → ⊥))) (keeps : (a b : ℕ) → Joined f a b → P a → P b) where
  same_in : (q : ℕ) → P q → g q ≡ f q
  same_in q p = ⊎_elim (λ k. k.0) (λ k. absurd (k.1 p)) (within q)

  pub in_part : (q : ℕ) → IsSome (g q) → P q
  in_part q s = ⊎_elim (λ k. k.1) (λ k. absurd (not_some _ k.0 s)) (within q)

  pub part_closed : IsClosed f → IsClosed g
  part_closed c a b n =
      let p = in_part a (names_some g a b n) in
      let n' = names_by g f a b (sym (same_in a p)) n in
      ap is_some (same_in b (keeps a b (inl n') p)) ∙ c a b n'

  pub part_path : (a b : ℕ) → P a → Connected (Joined f) a b → Connected (Joined g) a b
  part_path =
      carries_within (Joined f) (Joined g) P (λ a b p j. (
        ⊎_elim (λ n. inl (names_by f g a b (same_in a p) n)) (λ n. inr (names_by f g b a (same_in b (keeps a b j p)) n)) j,
        keeps a b j p,
      ))

-- The part of `r`, and the rest.
module _ (f : Links) (r : ℕ) where
  abbrev C : ℕ → ℕ → Type 0
  C = Connected (Joined f)

  -- Holds of a record in the part of `r`.
  abbrev pub OfPart : ℕ → Type 0
  OfPart q = IsSome (f q) × C q r

  -- Holds of any other record.
  abbrev pub OfRest : ℕ → Type 0
  OfRest q = IsSome (f q) × (OfPart q → ⊥)

  module _ (closed : IsClosed f) where
    joined_there : (a b : ℕ) → Joined f a b → IsSome (f b)
    joined_there a b = ⊎_elim (λ n. closed a b n) (λ n. names_some f b a n)

    keeps_part : (a b : ℕ) → Joined f a b → OfPart a → OfPart b
    keeps_part a b j p = (joined_there a b j, steps (Joined f) b a r (turn f a b j) p.1)

    keeps_rest : (a b : ℕ) → Joined f a b → OfRest a → OfRest b
    keeps_rest a b j p = (joined_there a b j, λ o. p.1 (p.0, steps (Joined f) a b r j o.1))

    module _ (g : Links) (within : (q : ℕ) → ((g q ≡ f q) × OfPart q) ⊎ ((g q ≡ None) × (OfPart q → ⊥))) where
      part_one : IsOnePart g
      part_one a b sa sb =
          let pa = in_part f g OfPart within keeps_part a sa in
          let pb = in_part f g OfPart within keeps_part b sb in
          part_path f g OfPart within keeps_part a b pa (follows (Joined f) a r b pa.1 (back (Joined f) (turn f) b r pb.1))

      pub part_of : IsPart g
      part_of = record { one_part = part_one; closed = part_closed f g OfPart within keeps_part closed }

    -- If each record reaches `r` or `u`, the rest is one part.
    module _ (u : ℕ) (reach : (q : ℕ) → IsSome (f q) → C q r ⊎ C q u) (h : Links) (within : (q : ℕ) → ((h q ≡ f q) × OfRest q) ⊎ ((h q ≡ None) × (OfRest q → ⊥))) where
      to_u : (q : ℕ) → OfRest q → C q u
      to_u q p = ⊎_elim (λ c. absurd (p.1 (p.0, c))) (λ c. c) (reach q p.0)

      rest_one : IsOnePart h
      rest_one a b sa sb =
          let pa = in_part f h OfRest within keeps_rest a sa in
          let pb = in_part f h OfRest within keeps_rest b sb in
          part_path f h OfRest within keeps_rest a b pa (follows (Joined f) a u b (to_u a pa) (back (Joined f) (turn f) b u (to_u b pb)))

      pub rest_of : IsPart h
      rest_of = record { one_part = rest_one; closed = part_closed f h OfRest within keeps_rest closed }

-- Without the link between `r` and `u`, each record of what was one part reaches `r` or `u`.
module _ (old f : Links) (r u : ℕ) (goes : (a b : ℕ) → Joined old a b → Joined f a b ⊎ (((a ≡ r) × (b ≡ u)) ⊎ ((a ≡ u) × (b ≡ r)))) where
  pub reaches : IsOnePart old → IsSome (old r) → (q : ℕ) → IsSome (old q) → Connected (Joined f) q r ⊎ Connected (Joined f) q u
  reaches one sr q sq =
      ⊎_elim (λ c. inl c) (⊎_elim (λ c. inl c.0) (λ c. inr c.0))
      (through (Joined f) (Joined old) r u goes q r (one q r sq sr))
