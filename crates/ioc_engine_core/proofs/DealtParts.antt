-- The set of one part of a database at rest.
use Rattle.std.proofs.Common.{◌≡◌, ℕ, zero, suc, ◌<◌, ◌≤◌, ◌+◌, Bool, true, false, cond, List, [], ◌∷◌, ◌++◌, length, map, Option, Some, None, refl, sym, ap, ◌∙◌, subst, ⊎_elim, arith}
use Rattle.std.specs.Prelude.{◌==◌, ◌↔◌, IsTrue, Contains, IsSome, is_some, unwrap_or, slice_get, slice_index}
use Rattle.std.specs.Option.{option_map, option_and_then}
use Rattle.std.specs.FinMap.{get, keys, len}
use Rattle.std.proofs.Math.ListN.{get_or, set}
use Rattle.std.proofs.lemmas.List.{get_or-set_other, length-set, length-map}
use Rattle.std.proofs.lemmas.Option.{slice_get-map}
use Rattle.ioc_notify.specs.Waits.{at_record}
use Rattle.ioc_record.specs.RecordRules.{RecordRules, targets}
use Rattle.ioc_set_records.specs.Contents.{Contents, nothing, record_at}
use Rattle.ioc_set_records.specs.Joined.{links_of, Names, IsPart}
use Rattle.ioc_store.specs.OneMapLaws.{get-numbered, len-numbered}
use Rattle.ioc_store.specs.World.{World, Has, IsClosed, at, common_at}
use Rattle.ioc_journal.specs.Key.{Key, record_keys}
use Rattle.ioc_journal.specs.Key.{Has as Has_key}
use Rattle.ioc_journal.specs.KeyLaws.{has_either, record_kind}
use Rattle.ioc_journal.specs.Covering.{Holds}
use Rattle.ioc_set.specs.Resting.{resting}
use Rattle.ioc_ledger.specs.Requests.{no_counts}
use Rattle.ioc_journaled_set.specs.Holding.{KeepsDevices}
use Rattle.ioc_set.specs.Linking.{with_empty_history, AreCalm, IsCalm, NoneAwaits}
use Rattle.ioc_set_records.specs.declared.loaded.Loaded.{Loaded}
use Rattle.ioc_set_records.specs.Dealing.{HasPart}
use Rattle.ioc_set_records.specs.Linked.{AreParts, links_in}
use Rattle.ioc_engine_core.specs.Loading.{loaded_world, device_in, AreOfPartsBelow, IsIdle, IsAtRest, IsSetOf, AreSetsFrom}
use Rattle.ioc_journaled_set.proofs.Keys.{record_contains, key_there}

none_in : {A : Type 0} (x : A) → Contains [] x → ⊥
none_in x c = let l = c.1 in omega arith

none_some : {A : Type 0} (o : Option A) → o ≡ None → IsSome o → ⊥
none_some {A = A} o none some = let h : false ≡ true = sym (ap (λ (p : Option A). is_some p) none) ∙ some in cc

some_mapped : {A B : Type 0} (f : A → B) (o : Option A) → IsSome (option_map f o) → IsSome o
some_mapped f None some = some
some_mapped f (Some a) some = refl

-- If a conditional option has a value, the condition is true.
module _ {A B : Type 0} (f : A → B) (o : Option A) where
  chosen : (b : Bool) (x : Option B) → x ≡ option_map f (cond b o None) → IsSome x → (b ≡ true) × (x ≡ option_map f o)
  chosen true x is some = (refl, is)
  chosen false x is some = absurd (none_some x is some)

  choose : (b : Bool) (x : Option B) → x ≡ option_map f (cond b o None) → b ≡ true → x ≡ option_map f o
  choose true x is answer = is
  choose false x is answer = cc

some_below : {A : Type 0} (xs : List A) (q : ℕ) → q < length xs → (x : A) × (slice_get xs q ≡ Some x)
some_below [] q lt = absurd (let z : ⊥ = omega (arith, lt) in z)
some_below (x ∷ xs) zero lt = (x, refl)
some_below (x ∷ xs) (suc q) lt = some_below xs q (omega (arith, lt))

some_same : {A : Type 0} {x y : A} → Some x ≡ Some y → x ≡ y
some_same e = cc

-- An idle record is active exactly if it awaits a completion, because it does neither.
neither : (b : Bool) (o : Option ℕ) → b ≡ false → o ≡ None → IsTrue b ↔ IsSome o
neither true o idle none = cc
neither false None idle none = (λ is. cc, λ is. cc)
neither false (Some n) idle none = cc

idle_calm : {R : Type 0} {k : RecordRules R} {r : R} → IsIdle k r → IsCalm k r
idle_calm idle = record { quiet = neither _ _ idle.inactive idle.nothing_awaited; free = idle.free }

same : (m n : ℕ) → (m == n) ≡ true → m ≡ n
same m n e = search (e, arith)

is_same : (m n : ℕ) → m ≡ n → (m == n) ≡ true
is_same m n e = search (e, arith)

idle_of : {R D : Type 0} {k : RecordRules R} (all : List (Loaded R D)) (q : ℕ) (l : Loaded R D) → slice_get all q ≡ Some l → ((i : ℕ) (d : Loaded R D) → i < length all → IsIdle k (get_or all i d).fields) → IsIdle k l.fields
idle_of [] q l found idle = absurd (none_some (Some l) (sym found) refl)
idle_of {R = R} {D = D} {k = k} (x ∷ xs) zero l found idle = subst (λ (y : Loaded R D). IsIdle k y.fields) (some_same found) (idle zero x (omega arith))
idle_of (x ∷ xs) (suc q) l found idle = idle_of xs q l found (λ i d lt. idle (suc i) d (omega (arith, lt)))

module _ {R D : Type 0} (k : RecordRules R) (missing : targets k k.missing ≡ []) (base : World R) (had : ℕ → Option D → Type 0) (parts : List ℕ) (all : List (Loaded R D)) (rest : IsAtRest k base had parts all)
    (part : ℕ) (c : Contents R D) (has : HasPart all parts part c) where
  -- The record of the database at a number.
  loaded : (q : ℕ) → get base.records q ≡ option_map (λ (l : Loaded R D). l.fields) (slice_get all q)
  loaded q = ap (λ (w : World R). get w.records q) rest.world ∙ get-numbered (map (λ (l : Loaded R D). l.fields) all) q ∙ slice_get-map (λ (l : Loaded R D). l.fields) all q

  -- A record of the set is in the part, as it was loaded.
  here : (q : ℕ) → IsSome (get c.records q) → (slice_index parts q ≡ part) × (get c.records q ≡ get base.records q)
  here q some =
      let h = chosen (λ (l : Loaded R D). l.fields) (slice_get all q) (slice_index parts q == part) (get c.records q) (has.records q) some in
      (same (slice_index parts q) part h.0, h.1 ∙ sym (loaded q))

  there : (q : ℕ) → slice_index parts q ≡ part → get c.records q ≡ get base.records q
  there q is = choose (λ (l : Loaded R D). l.fields) (slice_get all q) (slice_index parts q == part) (get c.records q) (has.records q) (is_same (slice_index parts q) part is) ∙ sym (loaded q)

  -- A record that is found is idle if all loaded records are.
  idle_at : (q : ℕ) (o : Option (Loaded R D)) (x : Option R) → slice_get all q ≡ o → x ≡ option_map (λ (l : Loaded R D). l.fields) o → IsSome x → IsIdle k (unwrap_or x k.missing)
  idle_at q None x found is some = absurd (none_some x is some)
  idle_at q (Some l) x found is some = subst (λ (y : Option R). IsIdle k (unwrap_or y k.missing)) (sym is) (idle_of all q l found rest.idle)

  set_is_idle : (n : ℕ) → IsSome (get c.records n) → IsIdle k (record_at k c.records n)
  set_is_idle n some = idle_at n (slice_get all n) (get c.records n) refl ((here n some).1 ∙ loaded n) some

  pub set_is_calm : AreCalm k c.records
  set_is_calm n some = idle_calm (set_is_idle n some)

  pub set_awaits_none : NoneAwaits k c.records
  set_awaits_none n some = (set_is_idle n some).nothing_awaited

  -- The targets of a record's links are those of the loaded record.
  names_of : (a t : ℕ) (o : Option (Loaded R D)) → slice_get all a ≡ o → Contains (targets k (unwrap_or (option_map (λ (l : Loaded R D). l.fields) o) k.missing)) t → Names (links_in k all) a t
  names_of a t None found named = absurd (none_in t (subst (λ (l : List ℕ). Contains l t) missing named))
  names_of a t (Some r) found named = (targets k r.fields, ap (option_map (λ (l : Loaded R D). targets k l.fields)) found, named)

  own_names_of : (a t : ℕ) (o : Option R) → get c.records a ≡ o → Contains (targets k (unwrap_or o k.missing)) t → Names (links_of k c.records) a t
  own_names_of a t None is named = absurd (none_in t (subst (λ (l : List ℕ). Contains l t) missing named))
  own_names_of a t (Some r) is named = (targets k r, ap (option_map (targets k)) is, named)

  shut : IsPart (links_of k c.records) → IsClosed k (resting c.records [] [])
  unfolding at
  shut p = record { closed = λ n target named. some_mapped (targets k) (get c.records target) (p.closed n target (own_names_of n target (get c.records n) refl named)) }

  some_there : (a : ℕ) (o : Option (Loaded R D)) → slice_get all a ≡ o → (named : List ℕ) → links_in k all a ≡ Some named → IsSome (get base.records a)
  some_there a None found named is = absurd (none_some (Some named) (sym is ∙ ap (option_map (λ (l : Loaded R D). targets k l.fields)) found) refl)
  some_there a (Some l) found named is = subst (λ (x : Option R). IsSome x) (sym (loaded a ∙ ap (option_map (λ (l : Loaded R D). l.fields)) found)) refl

  apart : (a n : ℕ) → (IsSome (get c.records a) → ⊥) → IsSome (get c.records n) → Contains (targets k (at k base a)) n → ⊥
  unfolding at
  apart a n out inside named =
      let names = names_of a n (slice_get all a) refl (subst (λ (o : Option R). Contains (targets k (unwrap_or o k.missing)) n) (loaded a) named) in
      let a_is : slice_index parts a ≡ part = (rest.parts_are.together a n names).1 ∙ (here n inside).0 in
      out (subst (λ (o : Option R). IsSome o) (sym (there a a_is)) (some_there a (slice_get all a) refl names.0 names.1))

  its_device : (b : Bool) (q : ℕ) (d : Option D) → d ≡ option_and_then (λ (l : Loaded R D). l.device) (cond b (slice_get all q) None) → b ≡ true
      → d ≡ device_in all q
  its_device true q d is own = is
  its_device false q d is own = cc

  pub set_keeps_devices : KeepsDevices had (with_empty_history c.records c.devices [] [] no_counts)
  set_keeps_devices q some =
      subst (λ (o : Option D). had q o) (sym (its_device (slice_index parts q == part) q (get c.devices q) (has.devices q) (is_same (slice_index parts q) part (here q some).0))) (rest.devices q)

  pub set_holds : IsPart (links_of k c.records) → Holds k base (resting c.records [] [])
  set_holds p = record {
    records = λ n has_n. sym (here n has_n).1;
    waiting = λ n has_n. ap (λ (w : World R). at_record n w.waiting) rest.world;
    within = λ x w. absurd (none_in x w);
    shut = shut p;
    apart = apart;
  }

  -- The keys of the set are those of records of the part.
  key_of_part : (key : Key) → Has_key key (record_keys (keys c.records)) → (key.0 ≡ 0) × (slice_index parts key.1 ≡ part)
  key_of_part key h = (record_kind key (keys c.records) h, (here key.1 (key_there c.records key.1 (record_contains key (keys c.records) h))).0)

  pub set_is_fresh : (born : List Key) → AreOfPartsBelow parts part born → (key : Key) → Has_key key (record_keys (keys c.records)) → Has_key key born → ⊥
  set_is_fresh born below key own other =
      let is = (key_of_part key own).1 in
      let lt = (below key other).1 in
      omega (arith, is, lt)

  pub set_is_born : (born : List Key) → AreOfPartsBelow parts part born → AreOfPartsBelow parts (part + 1) (record_keys (keys c.records) ++ born)
  set_is_born born below key h =
      ⊎_elim
      (λ (own : Has_key key (record_keys (keys c.records))). let p = key_of_part key own in (p.0, (let is = p.1 in omega (arith, is))))
      (λ (other : Has_key key born). let p = below key other in (p.0, (let lt = p.1 in omega (arith, lt))))
      (has_either key (record_keys (keys c.records)) born h)

-- A whole database at rest.
module _ {R D : Type 0} (k : RecordRules R) (missing : targets k k.missing ≡ []) (parts : List ℕ) (all : List (Loaded R D)) (idle : (i : ℕ) (d : Loaded R D) → i < length all → IsIdle k (get_or all i d).fields) (are : AreParts k all parts) where
  fields_at : (q : ℕ) → get (loaded_world all).records q ≡ option_map (λ (l : Loaded R D). l.fields) (slice_get all q)
  fields_at q = get-numbered (map (λ (l : Loaded R D). l.fields) all) q ∙ slice_get-map (λ (l : Loaded R D). l.fields) all q

  names_there : (a t : ℕ) (o : Option (Loaded R D)) → slice_get all a ≡ o → Contains (targets k (unwrap_or (option_map (λ (l : Loaded R D). l.fields) o) k.missing)) t → Names (links_in k all) a t
  names_there a t None found named = absurd (none_in t (subst (λ (l : List ℕ). Contains l t) missing named))
  names_there a t (Some r) found named = (targets k r.fields, ap (option_map (λ (l : Loaded R D). targets k l.fields)) found, named)

  there_below : (q : ℕ) → q < length all → IsSome (get (loaded_world all).records q)
  there_below q lt = subst (λ (o : Option R). IsSome o) (sym (fields_at q ∙ ap (option_map (λ (l : Loaded R D). l.fields)) (some_below all q lt).1)) refl

  pub database_is_shut : IsClosed k (loaded_world all)
  unfolding at
  database_is_shut = record { closed = λ n target named. there_below target (are.together n target (names_there n target (slice_get all n) refl (subst (λ (o : Option R). Contains (targets k (unwrap_or o k.missing)) target) (fields_at n) named))).0 }

  free_at : (q : ℕ) (o : Option (Loaded R D)) (x : Option R) → slice_get all q ≡ o → x ≡ option_map (λ (l : Loaded R D). l.fields) o → IsSome x → IsIdle k (unwrap_or x k.missing)
  free_at q None x found is some = absurd (none_some x is some)
  free_at q (Some l) x found is some = subst (λ (y : Option R). IsIdle k (unwrap_or y k.missing)) (sym is) (idle_of all q l found idle)

  pub database_is_free : (n : ℕ) → Has (loaded_world all) n → (common_at k (loaded_world all) n).notification ≡ None
  unfolding at
  database_is_free n has = (free_at n (slice_get all n) (get (loaded_world all).records n) refl (fields_at n) has).free

  pub database_is_small : (n : ℕ) → length all < n → len (loaded_world all).records < n
  database_is_small n lt = omega (arith, lt, len-numbered (map (λ (l : Loaded R D). l.fields) all), length-map all (λ (l : Loaded R D). l.fields))

-- The sets that remain after the first is taken.
pub sets_left : {R D : Type 0} (k : RecordRules R) (base : World R) (had : ℕ → Option D → Type 0) (parts : List ℕ) (from : ℕ) (sets : List (Contents R D)) (x : Contents R D) → AreSetsFrom k base had parts from sets → AreSetsFrom k base had parts (from + 1) (set sets from x)
sets_left {R} {D} k base had parts from sets x left =
    let as_long = length-set sets from x in
    let other = λ (p : ℕ) (le : from + 1 ≤ p). get_or-set_other sets from p x nothing (λ e. let m : p ≡ from = e in let z : ⊥ = omega (arith, le, m) in z) in
    record {
      all = left.all;
      rest = left.rest;
      each = λ p le lt. subst (λ (c : Contents R D). HasPart left.all parts p c) (sym (other p le)) (left.each p (omega (arith, le)) (omega (arith, lt, as_long)));
      one_part = λ p le lt. subst (λ (c : Contents R D). IsPart (links_of k c.records)) (sym (other p le)) (left.one_part p (omega (arith, le)) (omega (arith, lt, as_long)));
    }

-- The first of the remaining sets.
pub set_here : {R D : Type 0} (k : RecordRules R) (base : World R) (had : ℕ → Option D → Type 0) (parts : List ℕ) (from : ℕ) (sets : List (Contents R D)) (c : Contents R D) → c ≡ get_or sets from nothing → from < length sets → AreSetsFrom k base had parts from sets → IsSetOf k base had parts from c
set_here {R} {D} k base had parts from sets c is lt left = record {
  all = left.all;
  rest = left.rest;
  has = subst (λ (x : Contents R D). HasPart left.all parts from x) (sym is) (left.each from (omega arith) lt);
  one_part = subst (λ (x : Contents R D). IsPart (links_of k x.records)) (sym is) (left.one_part from (omega arith) lt);
}

-- An element within the list doesn't depend on the default.
pub get_or_any : {X : Type 0} (xs : List X) (i : ℕ) (d e : X) → i < length xs → get_or xs i d ≡ get_or xs i e
get_or_any [] i d e lt = absurd (let z : ⊥ = omega (arith, lt) in z)
get_or_any (x ∷ xs) zero d e lt = refl
get_or_any (x ∷ xs) (suc i) d e lt = get_or_any xs i d e (omega (arith, lt))
