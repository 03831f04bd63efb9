-- The number of a map's keys.
use Rattle.std.proofs.Common.{◌≡◌, ◌<◌, ℕ, Bool, true, false, ◌&&◌, T, eqb, List, [], ◌∷◌, length, map, IsSome, Ordering, Less, Equal, Greater, nat_cmp, is_lt, is_eq, refl, sym, ap, subst, ◌∙◌, arith}
use Rattle.std.specs.Ordering.{eq_by_cmp}
use Rattle.std.specs.Cmp.{nat_eq_equiv, unsigned_tied}
use Rattle.std.specs.List.{AllByRecursion, IsDistinct, list_any}
use Rattle.std.specs.FinMap.{FinMap, get, contains_key, contains_key-keys, keys, entries, entries_sorted}
use Rattle.std.specs.FinMap.Entries.{is_sorted, below_all}
use Rattle.std.proofs.lemmas.Map.Made.{length-from_same_keys}

-- The first of two tests that both pass.
first : (a b : Bool) → T (a && b) → T a
first true b p = tt
first false b p = p

-- The second of two tests that both pass.
second : (a b : Bool) → T (a && b) → T b
second true b p = p
second false b p = absurd p

-- What is less isn't equal.
apart : (o : Ordering) → T (is_lt o) → is_eq o ≡ false
apart Less p = refl
apart Equal p = absurd p
apart Greater p = refl

-- A number below all keys is none of them.
below_apart : {X : Type 0} (q : ℕ) (es : List (ℕ × X)) → T (below_all nat_cmp q es) → AllByRecursion (λ y. eq_by_cmp nat_cmp q y ≡ false) (map (λ e. e.0) es)
below_apart q [] below = tt
below_apart q (e ∷ es) below = (apart (nat_cmp q e.0) (first _ (below_all nat_cmp q es) below), below_apart q es (second _ _ below))

-- No key is twice among entries whose keys rise.
sorted_distinct : {X : Type 0} (es : List (ℕ × X)) → T (is_sorted nat_cmp es) → IsDistinct (eq_by_cmp nat_cmp) (map (λ e. e.0) es)
unfolding IsDistinct
sorted_distinct [] sorted = tt
sorted_distinct (e ∷ es) sorted = (below_apart e.0 es (first _ (is_sorted nat_cmp es) sorted), sorted_distinct es (second _ _ sorted))

-- The order of numbers has the same number equal as the test has.
pub same-test : eq_by_cmp nat_cmp ≡ eqb
same-test = λ i p q. unsigned_tied p q i

-- No number is twice among the keys of a map.
pub keys-distinct : {R : Type 0} (m : FinMap nat_cmp R) → IsDistinct eqb (keys m)
keys-distinct m = subst (λ (e : ℕ → ℕ → Bool). IsDistinct e (keys m)) same-test (sorted_distinct (entries m) (entries_sorted m))

-- A number is a key of a map exactly if it is in the list of the keys.
pub has-key : {R : Type 0} (m : FinMap nat_cmp R) (q : ℕ) → contains_key m q ≡ list_any (eqb q) (keys m)
has-key m q = contains_key-keys m q ∙ ap (λ (e : ℕ → ℕ → Bool). list_any (e q) (keys m)) same-test

-- Two maps that have the same keys have as many of them.
pub same-length : {R S : Type 0} (m : FinMap nat_cmp R) (w : FinMap nat_cmp S) → ((q : ℕ) → contains_key m q ≡ contains_key w q) → length (keys m) ≡ length (keys w)
same-length m w same = length-from_same_keys nat_eq_equiv (keys m) (keys w) (keys-distinct m) (keys-distinct w) (λ q. sym (has-key m q) ∙ same q ∙ has-key w q)

-- A list in which an element passes a test isn't empty.
some_in : (p : ℕ → Bool) (ks : List ℕ) → list_any p ks ≡ true → 0 < length ks
some_in p [] found = cc
some_in p (k ∷ ks) found = omega arith

-- A map that has a value at a number has at least one key.
pub some-key : {R : Type 0} (m : FinMap nat_cmp R) (q : ℕ) → IsSome (get m q) → 0 < length (keys m)
some-key m q some = some_in (eqb q) (keys m) (sym (has-key m q) ∙ some)
