-- The sets after one more record is assigned.
use Rattle.std.proofs.Common.{◌≡◌, ◌≢◌, ℕ, zero, suc, ◌+◌, ◌<◌, ◌≤◌, List, [], ◌∷◌, ◌++◌, Option, Some, None, Bool, true, false, cond, length, take, set, get_or, refl, sym, ap, ◌∙◌, subst, ⊎_elim, arith, drop, drop-cons, add-one}
use Rattle.std.specs.Prelude.{◌==◌, IsSome, is_some, slice_get, slice_index}
use Rattle.std.specs.Option.{option_map, option_and_then}
use Rattle.std.specs.Ordering.{nat_cmp}
use Rattle.std.specs.FinMap.{get, insert, get-empty}
use Rattle.std.proofs.Math.Seq.{take-append_seam}
use Rattle.std.proofs.lemmas.Bool.{cases_eq, cases_lt}
use Rattle.std.proofs.lemmas.Option.{slice_get_past}
use Rattle.std.proofs.lemmas.List.{take_more, length-take-le, get_or-set_same, get_or-set_other}
use Rattle.ioc_set_records.specs.Contents.{Contents, nothing, with_device}
use Rattle.ioc_set_records.specs.declared.loaded.Loaded.{Loaded}
use Rattle.ioc_set_records.specs.Dealing.{dealt_at, HasPart, with_loaded}
use Rattle.ioc_set_records.proofs.LoadedMapLaws.{same_number, other_number, get_here, get_there}

module _ {X : Type 0} where
  got_here : (xs : List X) (x : X) → slice_get (xs ++ x ∷ []) (length xs) ≡ Some x
  got_here [] x = refl
  got_here (y ∷ xs) x = got_here xs x

  got_there : (xs : List X) (x : X) (i : ℕ) → i ≢ length xs → slice_get (xs ++ x ∷ []) i ≡ slice_get xs i
  got_there [] x zero a = absurd (a refl)
  got_there [] x (suc i) a = refl
  got_there (y ∷ xs) x zero a = refl
  got_there (y ∷ xs) x (suc i) a = got_there xs x i (λ e. a (ap suc e))

  cond_none : (b : Bool) (o : Option X) → o ≡ None → cond b o None ≡ None
  cond_none true o e = e
  cond_none false o e = refl

module _ {R D : Type 0} (parts : List ℕ) where
  abbrev record_in : Option (Loaded R D) → Option R
  record_in o = option_map (λ l. l.fields) o

  abbrev device_in : Option (Loaded R D) → Option D
  device_in o = option_and_then (λ l. l.device) o

  -- If the part or the index is another, the assignment is unchanged.
  dealt_elsewhere : (xs : List (Loaded R D)) (l : Loaded R D) (p q : ℕ) → q ≢ length xs → dealt_at (xs ++ l ∷ []) parts p q ≡ dealt_at xs parts p q
  dealt_elsewhere xs l p q a = ap (λ o. cond (slice_index parts q == p) o None) (got_there xs l q a)

  none_past : (xs : List (Loaded R D)) (p q : ℕ) → length xs ≤ q → dealt_at xs parts p q ≡ None
  none_past xs p q past = cond_none (slice_index parts q == p) (slice_get xs q) (slice_get_past xs q past)

  dealt_here : (xs : List (Loaded R D)) (l : Loaded R D) (p : ℕ) → slice_index parts (length xs) ≡ p → dealt_at (xs ++ l ∷ []) parts p (length xs) ≡ Some l
  dealt_here xs l p own = ap (λ b. cond b (slice_get (xs ++ l ∷ []) (length xs)) None) (same_number (slice_index parts (length xs)) p own) ∙ got_here xs l

  dealt_to_another : (xs : List (Loaded R D)) (l : Loaded R D) (p q : ℕ) → slice_index parts (length xs) ≢ p → dealt_at (xs ++ l ∷ []) parts p q ≡ dealt_at xs parts p q
  dealt_to_another xs l p q other =
      ⊎_elim
      (λ (h : q ≡ length xs).
      ap (λ b. cond b (slice_get (xs ++ l ∷ []) q) None) (other_number (slice_index parts q) p (λ e. other (ap (slice_index parts) (sym h) ∙ e)))
      ∙ sym (none_past xs p q (omega arith)))
      (dealt_elsewhere xs l p q)
      (cases_eq q (length xs))

  -- No set has a record before any is assigned.
  pub has_none : (p : ℕ) → HasPart [] parts p (nothing {R = R} {D = D})
  has_none p = record {
    records = λ q. get-empty nat_cmp q ∙ sym (ap record_in (none_past [] p q (omega arith)));
    devices = λ q. get-empty nat_cmp q ∙ sym (ap device_in (none_past [] p q (omega arith)));
    base = refl;
  }

  module _ (xs : List (Loaded R D)) (p : ℕ) (m : Contents R D) (has : HasPart xs parts p m) where
    -- The numbers in a set are below the next.
    pub all_below : (q : ℕ) → IsSome (get m.records q) → q < length xs
    all_below q there =
        ⊎_elim
        (λ (h : q < length xs). h)
        (λ (h : length xs ≤ q). absurd (
        let e : true ≡ false = sym there ∙ ap is_some (has.records q) ∙ ap (λ o. is_some (record_in o)) (none_past xs p q h) in cc))
        (cases_lt q (length xs))

    device_more : (l : Loaded R D) (o : Option D) (q : ℕ) → slice_index parts (length xs) ≡ p → l.device ≡ o
        → get (with_device m.devices (length xs) o) q ≡ device_in (dealt_at (xs ++ l ∷ []) parts p q)
    device_more l (Some d) q own is =
        ⊎_elim
        (λ (h : q ≡ length xs).
        ap (get (insert m.devices (length xs) d)) h ∙ get_here m.devices (length xs) d ∙ sym is
        ∙ sym (ap (λ i. device_in (dealt_at (xs ++ l ∷ []) parts p i)) h ∙ ap device_in (dealt_here xs l p own)))
        (λ a. get_there m.devices (length xs) d q a ∙ has.devices q ∙ ap device_in (sym (dealt_elsewhere xs l p q a)))
        (cases_eq q (length xs))
    device_more l None q own is =
        ⊎_elim
        (λ (h : q ≡ length xs).
        has.devices q ∙ ap device_in (none_past xs p q (omega arith)) ∙ sym is
        ∙ sym (ap (λ i. device_in (dealt_at (xs ++ l ∷ []) parts p i)) h ∙ ap device_in (dealt_here xs l p own)))
        (λ a. has.devices q ∙ ap device_in (sym (dealt_elsewhere xs l p q a)))
        (cases_eq q (length xs))

    -- A record of its own part is added to a set.
    pub has_more : (l : Loaded R D) → slice_index parts (length xs) ≡ p → HasPart (xs ++ l ∷ []) parts p (with_loaded m (length xs) l)
    has_more l own = record {
      records = λ q. ⊎_elim
          (λ (h : q ≡ length xs). ap (get (insert m.records (length xs) l.fields)) h ∙ get_here m.records (length xs) l.fields
          ∙ sym (ap (λ i. record_in (dealt_at (xs ++ l ∷ []) parts p i)) h ∙ ap record_in (dealt_here xs l p own)))
          (λ a. get_there m.records (length xs) l.fields q a ∙ has.records q ∙ ap record_in (sym (dealt_elsewhere xs l p q a)))
          (cases_eq q (length xs));
      devices = λ q. device_more l l.device q own refl;
      base = ap (λ b. insert b (length xs) l.fields) has.base;
    }

    -- A record of another part leaves a set unchanged.
    pub has_as_before : (l : Loaded R D) → slice_index parts (length xs) ≢ p → HasPart (xs ++ l ∷ []) parts p m
    has_as_before l other = record {
      records = λ q. has.records q ∙ ap record_in (sym (dealt_to_another xs l p q other));
      devices = λ q. has.devices q ∙ ap device_in (sym (dealt_to_another xs l p q other));
      base = has.base;
    }

-- The first items of a slice that was borrowed, if its length is unchanged.
pub lent_back : {X : Type 0} (xs ys : List X) (n : ℕ) → length xs ≡ n → take n (xs ++ ys) ≡ xs
lent_back xs ys n e = ap (λ i. take i (xs ++ ys)) (sym e) ∙ take-append_seam xs ys

-- The next record of those that are left.
pub next_loaded : {X : Type 0} (all left after : List X) (n : ℕ) (l : X) → n < length all → left ≡ drop n all → left ≡ l ∷ after → (get_or all n l ≡ l) × (after ≡ drop (n + 1) all)
next_loaded all left after n l within was is =
    let at : drop n all ≡ get_or all n l ∷ drop (n + 1) all = rw (add-one) (drop-cons all n l within) in
    let e = sym is ∙ was ∙ at in (cc, cc)

-- The step that assigns one more record, over all sets.
module _ {R D : Type 0} (all : List (Loaded R D)) (parts : List ℕ) (n : ℕ) (l : Loaded R D) (within : n < length all) (at : get_or all n l ≡ l) where
  taken_more : take (n + 1) all ≡ take n all ++ l ∷ []
  taken_more = take_more all n l within ∙ ap (λ (x : Loaded R D). take n all ++ x ∷ []) at

  taken : length (take n all) ≡ n
  taken = length-take-le n all (omega arith)

  module _ (sets after : List (Contents R D)) (len : length sets ≡ length all) (there : slice_index parts n < length all)
      (is : after ≡ set sets (slice_index parts n) (with_loaded (get_or sets (slice_index parts n) nothing) n l))
      (so_far : (p : ℕ) → p < length all → HasPart (take n all) parts p (get_or sets p nothing)) where
    after_here : (p : ℕ) → p ≡ slice_index parts n → get_or after p nothing ≡ with_loaded (get_or sets p nothing) (length (take n all)) l
    after_here p h =
        let part = slice_index parts n in
        let m = with_loaded (get_or sets part nothing) n l in
        ap (λ z. get_or z p nothing) is ∙ ap (λ i. get_or (set sets part m) i nothing) h ∙ get_or-set_same sets part m nothing (omega arith)
        ∙ ap (λ i. with_loaded (get_or sets i nothing) n l) (sym h) ∙ ap (λ i. with_loaded (get_or sets p nothing) i l) (sym taken)

    after_there : (p : ℕ) → p ≢ slice_index parts n → get_or after p nothing ≡ get_or sets p nothing
    after_there p a =
        let part = slice_index parts n in
        let m = with_loaded (get_or sets part nothing) n l in
        ap (λ z. get_or z p nothing) is ∙ get_or-set_other sets part p m nothing a

    more_for : (p : ℕ) (m : Contents R D) → get_or after p nothing ≡ m → HasPart (take n all ++ l ∷ []) parts p m → HasPart (take (n + 1) all) parts p (get_or after p nothing)
    more_for p m e has =
        subst (λ z. HasPart z parts p (get_or after p nothing)) (sym taken_more) (subst (λ c. HasPart (take n all ++ l ∷ []) parts p c) (sym e) has)

    pub dealt_more : (p : ℕ) → p < length all → HasPart (take (n + 1) all) parts p (get_or after p nothing)
    dealt_more p w =
        let xs = take n all in
        let m = get_or sets p nothing in
        ⊎_elim
        (λ (h : p ≡ slice_index parts n). more_for p _ (after_here p h) (has_more parts xs p m (so_far p w) l (ap (slice_index parts) taken ∙ sym h)))
        (λ a. more_for p _ (after_there p a) (has_as_before parts xs p m (so_far p w) l (λ e. a (sym (sym (ap (slice_index parts) taken) ∙ e)))))
        (cases_eq p (slice_index parts n))

  pub numbers_below : (p : ℕ) (m : Contents R D) → HasPart (take n all) parts p m → (q : ℕ) → IsSome (get m.records q) → q < n
  numbers_below p m has q there = let b = all_below parts (take n all) p m has q there in let t = taken in omega arith
