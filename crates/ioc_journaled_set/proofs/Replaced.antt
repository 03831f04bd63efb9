-- Elements of a list that are replaced one after another.
use Rattle.std.proofs.Common.{◌≡◌, ℕ, ◌+◌, ◌<◌, ◌≤◌, suc, List, [], ◌∷◌, length, map, get_or, refl, sym, ap, ◌∙◌, subst, ⊎_elim, get_or-set_other, arith}
use Rattle.std.specs.Prelude.{All}
use Rattle.std.proofs.Math.ListN.{set}
use Rattle.std.proofs.lemmas.Grind.{get_or-set_at}
use Rattle.std.proofs.lemmas.List.{get_or_default, length-set}
use Rattle.ioc_journaled_set.proofs.Copied.{last_or_before}

module _ {X Y : Type 0} (f g : X → Y) where
  pub maps_same : (xs ys : List X) → length xs ≡ length ys → ((i : ℕ) (d : X) → i < length xs → f (get_or xs i d) ≡ g (get_or ys i d)) → map f xs ≡ map g ys
  maps_same [] [] long same = refl
  maps_same [] (y ∷ ys) long same = absurd (let z : ⊥ = omega (arith, long) in z)
  maps_same (x ∷ xs) [] long same = absurd (let z : ⊥ = omega (arith, long) in z)
  maps_same (x ∷ xs) (y ∷ ys) long same =
      ap (λ (z : Y). z ∷ map f xs) (same 0 x (omega arith))
      ∙ ap (λ (zs : List Y). g y ∷ zs) (maps_same xs ys (let l : length xs ≡ length ys = omega (arith, long) in l) (λ i d lt. same (suc i) d (let l : suc i < length (x ∷ xs) = omega (arith, lt) in l)))

  -- The elements before a place were replaced, each by one whose `f` is `g` of the old one, of which
  -- `P` holds.
  module _ (P : X → Type 0) (before : List X) where
    pub record AreReplaced (place : ℕ) (now : List X) : Type 0 where
      pub long : length now ≡ length before
      pub done : (i : ℕ) (d : X) → i < place → f (get_or now i d) ≡ g (get_or before i d)
      pub rest : (i : ℕ) (d : X) → place ≤ i → get_or now i d ≡ get_or before i d
      pub held : (i : ℕ) (d : X) → i < place → P (get_or before i d)

    pub none_replaced : AreReplaced 0 before
    none_replaced = record {
      long = refl;
      done = λ i d lt. absurd (let z : ⊥ = omega (arith, lt) in z);
      rest = λ i d le. refl;
      held = λ i d lt. absurd (let z : ⊥ = omega (arith, lt) in z);
    }

    module _ (place : ℕ) (now : List X) (x y : X) (within : place < length now) (becomes : f y ≡ g (get_or now place x)) (holds : P (get_or now place x)) (are : AreReplaced place now) where
      was : (i : ℕ) (d : X) → i ≡ place → get_or now place x ≡ get_or before i d
      was i d e =
          are.rest place x (omega arith) ∙ get_or_default before place x d (let long = are.long in omega (arith, within, long)) ∙ ap (λ (j : ℕ). get_or before j d) (sym e)

      pub one_replaced : AreReplaced (place + 1) (set now place y)
      one_replaced = record {
        long = length-set now place y ∙ are.long;
        done = λ i d lt. ⊎_elim
            (λ (e : i ≡ place). ap f (get_or-set_at now place i y d e within) ∙ becomes ∙ ap g (was i d e))
            (λ (l : i < place). ap f (get_or-set_other now place i y d (λ e. let m : i ≡ place = e in let z : ⊥ = omega (arith, l, m) in z)) ∙ are.done i d l)
            (last_or_before i place lt);
        rest = λ i d le. get_or-set_other now place i y d (λ e. let m : i ≡ place = e in let z : ⊥ = omega (arith, le, m) in z) ∙ are.rest i d (let l : place ≤ i = omega (arith, le) in l);
        held = λ i d lt. ⊎_elim
            (λ (e : i ≡ place). subst P (was i d e) holds)
            (λ (l : i < place). are.held i d l)
            (last_or_before i place lt);
      }

    module _ (place : ℕ) (now : List X) (are : AreReplaced place now) (all : length now ≤ place) where
      pub all_replaced : map f now ≡ map g before
      all_replaced = maps_same now before are.long (λ i d lt. are.done i d (omega (arith, lt, all)))

      pub all_held : All P before
      all_held i d lt = are.held i d (let long = are.long in omega (arith, lt, long, all))
