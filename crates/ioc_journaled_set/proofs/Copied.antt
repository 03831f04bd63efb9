-- Records that are copied to the places of their numbers, those of one set after another.
use Rattle.std.proofs.Common.{◌≡◌, ◌≢◌, ℕ, zero, suc, ◌+◌, true, false, ◌<◌, ◌≤◌, List, ◌++◌, ◌∷◌, [], length, get_or, take, Option, Some, None, refl, sym, ap, ◌∙◌, subst, inl, inr, ⊎_elim, get_or-set_other, arith}
use Rattle.std.specs.Prelude.{◌⊎◌, IsSome, is_some, slice_get, Contains, Any}
use Rattle.std.specs.Option.{option_or}
use Rattle.std.specs.List.{flat_map}
use Rattle.std.specs.FinMap.{get, keys, len}
use Rattle.std.proofs.Math.ListN.{set}
use Rattle.std.proofs.lemmas.Bool.Decides.{eqb_tells}
use Rattle.std.proofs.lemmas.Grind.{get_or-set_at, flat_map-append}
use Rattle.std.proofs.lemmas.List.{append-nil, get_or_past, get_or_default, length-set, take_more}
use Rattle.std.proofs.lemmas.Option.{get_or_from_slice_get, slice_get-get_or}
use Rattle.ioc_set_records.specs.Contents.{Records}
use Rattle.ioc_journaled_set.specs.Copies.{AreCopied, AreEmpty}
use Rattle.ioc_journaled_set.proofs.BaseOf.{below_or_past}
use Rattle.ioc_journaled_set.proofs.Keys.{there_key, key_there, keys_count}

pub last_or_before : (i n : ℕ) → i < n + 1 → (i ≡ n) ⊎ (i < n)
last_or_before i n lt = ⊎_elim (λ (l : i < n). inr l) (λ (l : n ≤ i). inl (omega (arith, lt, l))) (below_or_past i n)

-- A list without records, with one more place.
pub empty_more : {R : Type 0} (places : List (Option R)) → AreEmpty places → AreEmpty (places ++ None ∷ [])
empty_more [] empty zero = refl
empty_more [] empty (suc n) = refl
empty_more (x ∷ xs) empty zero = empty 0
empty_more (x ∷ xs) empty (suc n) = empty_more xs (λ i. empty (suc i)) n

-- The number at a place is that of a record.
module _ {R : Type 0} (records : Records R) (place : ℕ) (within : place < len records) where
  inside : place < length (keys records)
  inside = let count = keys_count records in omega (arith, within, count)

  pub never_past : slice_get (keys records) place ≡ None → ⊥
  never_past none = let no : Some (get_or (keys records) place 0) ≡ None = sym (slice_get-get_or (keys records) place 0 inside) ∙ none in cc

  pub there_at : (n : ℕ) → slice_get (keys records) place ≡ Some n → IsSome (get records n)
  there_at n some = key_there records n (place, inside, get_or_from_slice_get (keys records) place n n some)

-- The records with the first numbers of a set were copied.
module _ {R : Type 0} (records : Records R) (before : List (Option R)) where
  pub record AreFirst (place : ℕ) (now : List (Option R)) : Type 0 where
    pub count : length now ≡ length before
    pub done : (i : ℕ) → i < place → get_or (keys records) i 0 < length before → get_or now (get_or (keys records) i 0) None ≡ get records (get_or (keys records) i 0)
    pub other : (n : ℕ) → ((get_or now n None ≡ get records n) × IsSome (get records n)) ⊎ (get_or now n None ≡ get_or before n None)

  pub none_first : AreFirst 0 before
  none_first = record { count = refl; done = λ i lt. absurd (let z : ⊥ = omega (arith, lt) in z); other = λ n. inr refl }

  -- The next record has this number.
  module _ (place n : ℕ) (now : List (Option R)) (first : AreFirst place now) (is : get_or (keys records) place 0 ≡ n) where
    -- Its place isn't within the list.
    pub one_beyond : length now ≤ n → AreFirst (place + 1) now
    one_beyond past = record {
      count = first.count;
      done = λ i lt below. ⊎_elim
          (λ (e : i ≡ place).
          let here : get_or (keys records) i 0 ≡ n = ap (λ j. get_or (keys records) j 0) e ∙ is in
          let long = first.count in
          absurd (let z : ⊥ = omega (arith, here, long, past, below) in z))
          (λ (l : i < place). first.done i l below)
          (last_or_before i place lt);
      other = first.other;
    }

    -- Its record is copied to the place of its number.
    module _ (r : R) (there : get records n ≡ Some r) (within : n < length now) where
      here : (q : ℕ) → q ≡ n → get_or (set now n (Some r)) q None ≡ get records q
      here q e = get_or-set_at now n q (Some r) None e within ∙ sym there ∙ ap (λ j. get records j) (sym e)

      elsewhere : (q : ℕ) → q ≢ n → get_or (set now n (Some r)) q None ≡ get_or now q None
      elsewhere q apart = get_or-set_other now n q (Some r) None apart

      pub one_copied : AreFirst (place + 1) (set now n (Some r))
      one_copied = record {
        count = length-set now n (Some r) ∙ first.count;
        done = λ i lt below.
            let q = get_or (keys records) i 0 in
            ⊎_elim
            (λ (e : i ≡ place). here q (ap (λ j. get_or (keys records) j 0) e ∙ is))
            (λ (l : i < place). ⊎_elim (λ e. here q e.1) (λ e. elsewhere q e.1 ∙ first.done i l below) (eqb_tells q n))
            (last_or_before i place lt);
        other = λ q. ⊎_elim
            (λ e. inl (here q e.1, ap (λ (o : Option R). is_some o) (ap (λ j. get records j) e.1 ∙ there)))
            (λ e. subst (λ (o : Option R). ((o ≡ get records q) × IsSome (get records q)) ⊎ (o ≡ get_or before q None)) (sym (elsewhere q e.1)) (first.other q))
            (eqb_tells q n);
      }

  pub all_copied : (now : List (Option R)) → AreFirst (length (keys records)) now → AreCopied records before now
  all_copied now first n below = elim (get records n) as (λ (o : Option R). get records n ≡ o → get_or now n None ≡ option_or o (get_or before n None)) [
    | None ↦ λ none. ⊎_elim
        (λ p. let no : true ≡ false = sym p.1 ∙ ap (λ (o : Option R). is_some o) none in cc)
        (λ same. same)
        (first.other n)
    | (Some r) ↦ λ some.
        let has = there_key records n (ap (λ (o : Option R). is_some o) some) in
        let at : get_or (keys records) has.0 0 ≡ n = get_or_default (keys records) has.0 0 n has.1 ∙ has.2 in
        subst (λ (q : ℕ). get_or now q None ≡ get records q) at (first.done has.0 has.1 (let e : get_or (keys records) has.0 0 ≡ n = at in omega (arith, e, below))) ∙ some
  ] refl

-- The records of the first sets were copied.
module _ {X R : Type 0} (records : X → Records R) (sets : List X) where
  pub record AreOfFirst (place : ℕ) (copies : List (Option R)) : Type 0 where
    pub of_set : (n : ℕ) (r : R) → get_or copies n None ≡ Some r → Any (λ (x : X). get (records x) n ≡ Some r) sets
    pub each : (i : ℕ) (d : X) → i < place → (n : ℕ) → n < length copies → IsSome (get (records (get_or sets i d)) n) → IsSome (get_or copies n None)

  pub none_of_first : (copies : List (Option R)) → AreEmpty copies → AreOfFirst 0 copies
  none_of_first copies empty = record {
    of_set = λ n r some. let no : None ≡ Some r = sym (empty n) ∙ some in cc;
    each = λ i d lt. absurd (let z : ⊥ = omega (arith, lt) in z);
  }

  -- The records of one more set are copied.
  module _ (place : ℕ) (x : X) (within : place < length sets) (is : x ≡ get_or sets place x) (copies after : List (Option R)) (count : length after ≡ length copies)
      (copied : AreCopied (records x) copies after) (first : AreOfFirst place copies) where
    of_this : (r : R) (n : ℕ) → get (records x) n ≡ Some r → Any (λ (y : X). get (records y) n ≡ Some r) sets
    of_this r n some = (place, x, within, sym is, some)

    from : (n : ℕ) (r : R) (o : Option R) → get (records x) n ≡ o → option_or o (get_or copies n None) ≡ Some r → Any (λ (y : X). get (records y) n ≡ Some r) sets
    from n r None none some = first.of_set n r some
    from n r (Some y) there some = of_this r n (there ∙ some)

    kept : (o p : Option R) → IsSome p → IsSome (option_or o p)
    kept None p some = some
    kept (Some y) p some = refl

    came : (o p : Option R) → IsSome o → IsSome (option_or o p)
    came None p some = cc
    came (Some y) p some = refl

    pub more_of : AreOfFirst (place + 1) after
    more_of = record {
      of_set = λ n r some. ⊎_elim
          (λ (below : n < length copies). from n r (get (records x) n) refl (sym (copied n below) ∙ some))
          (λ (past : length copies ≤ n). let no : None ≡ Some r = sym (get_or_past after n None (let l : length after ≤ n = omega (arith, past, count) in l)) ∙ some in cc)
          (below_or_past n (length copies));
      each = λ i d lt n below has.
          let inside : n < length copies = omega (arith, below, count) in
          subst (λ (o : Option R). IsSome o) (sym (copied n inside)) (⊎_elim
          (λ (e : i ≡ place). came (get (records x) n) (get_or copies n None)
          (subst (λ (y : X). IsSome (get (records y) n)) (ap (λ j. get_or sets j d) e ∙ get_or_default sets place d x within ∙ sym is) has))
          (λ (l : i < place). kept (get (records x) n) (get_or copies n None) (first.each i d l n inside has))
          (last_or_before i place lt));
    }

  pub each_copied : (copies : List (Option R)) → AreOfFirst (length sets) copies → (n : ℕ) → n < length copies → Any (λ (x : X). Contains (keys (records x)) n) sets → IsSome (get_or copies n None)
  each_copied copies first n below some =
      first.each some.0 some.1 some.2 n below (key_there (records (get_or sets some.0 some.1)) n (subst (λ (x : X). Contains (keys (records x)) n) (sym some.3) some.4))

-- The lists of the first elements, one after another, with that of one more.
pub list_more : {X A : Type 0} (f : X → List A) (xs : List X) (i : ℕ) (x : X) → i < length xs → x ≡ get_or xs i x → flat_map f (take i xs) ++ f x ≡ flat_map f (take (i + 1) xs)
list_more f xs i x within is =
    ap (λ y. flat_map f (take i xs) ++ f y) is ∙ ap (λ l. flat_map f (take i xs) ++ l) (sym (append-nil (f (get_or xs i x)))) ∙ sym (flat_map-append f (take i xs) (get_or xs i x ∷ [])) ∙ ap (λ l. flat_map f l) (sym (take_more xs i x within))
