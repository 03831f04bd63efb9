-- The keys of a set's records among other keys.
use Rattle.std.proofs.Common.{◌≡◌, ℕ, Bool, true, false, cond, ◌&&◌, not, List, [], ◌∷◌, ◌++◌, Option, None, refl, sym, ap, subst, ◌∙◌, inl, inr, ⊎_elim}
use Rattle.std.specs.Prelude.{IsSome, is_some}
use Rattle.std.specs.List.{filter}
use Rattle.std.specs.FinMap.{get, keys, contains_key}
use Rattle.std.proofs.lemmas.Bool.{eq-eqb}
use Rattle.ioc_journal.specs.Key.{Key, Has}
use Rattle.ioc_journal.specs.KeyLaws.{has_either, record_kind}
use Rattle.ioc_journal.specs.Legal.{notifications_key}
use Rattle.ioc_journal.specs.Covering.{Cover}
use Rattle.ioc_set.specs.SetState.{SetState, now_of}
use Rattle.ioc_journaled_set.specs.GiveUpLaws.{ShareNone}
use Rattle.ioc_journaled_set.proofs.Keys.{key_there, there_key, record_contains, contains_record}
use Rattle.ioc_journaled_set.specs.Passes.{keys_of, is_key_of, other_keys}

-- The keys that pass a test.

has_filter : (p : Key → Bool) (key : Key) (ks : List Key) → Has key ks → p key ≡ true → Has key (filter p ks)
has_filter p key [] h is = absurd h
has_filter p key (x ∷ xs) h is = ⊎_elim
    (λ (e : x ≡ key). subst (λ (b : Bool). Has key (cond b (x ∷ filter p xs) (filter p xs))) (sym (ap p e ∙ is)) (inl e))
    (λ (t : Has key xs). let rest = has_filter p key xs t is in elim (p x) as (λ b. Has key (cond b (x ∷ filter p xs) (filter p xs))) [
      | true ↦ inr rest
      | false ↦ rest
    ])
    h

filter_has : (p : Key → Bool) (key : Key) (ks : List Key) → Has key (filter p ks) → Has key ks × (p key ≡ true)
filter_has p key [] h = absurd h
filter_has p key (x ∷ xs) h = elim (p x) as (λ b. p x ≡ b → Has key (cond b (x ∷ filter p xs) (filter p xs)) → Has key (x ∷ xs) × (p key ≡ true)) [
  | true ↦ λ is t. ⊎_elim (λ (e : x ≡ key). (inl e, sym (ap p e) ∙ is)) (λ (u : Has key (filter p xs)). let rest = filter_has p key xs u in (inr rest.0, rest.1)) t
  | false ↦ λ is t. let rest = filter_has p key xs t in (inr rest.0, rest.1)
] refl h

not_both : {b : Bool} → b ≡ true → not b ≡ true → ⊥
not_both is isnt = cc

none_some : {A : Type 0} (o : Option A) → o ≡ None → IsSome o → ⊥
none_some {A = A} o none some = let h : false ≡ true = sym (ap (λ (p : Option A). is_some p) none) ∙ some in cc

module _ {R D : Type 0} (h : SetState R D) where
  -- A key of the set is that of one of its records.
  own_record : (key : Key) → Has key (keys_of h) → contains_key h.records key.1 ≡ true
  own_record key has = key_there h.records key.1 (record_contains key (keys h.records) has)

  as_record : (key : Key) → Has key (keys_of h) → (0, key.1) ≡ key
  as_record key has = ap (λ (x : ℕ). (x, key.1)) (sym (record_kind key (keys h.records) has))

  is_own : (key : Key) → Has key (keys_of h) → is_key_of h key ≡ true
  is_own key has =
      ap (λ (b : Bool). b && contains_key h.records key.1) (eq-eqb key.0 0 (record_kind key (keys h.records) has)) ∙ own_record key has

  -- The keys of the set and the other keys are owned if those of its records are.
  pub own_within : (owned : List Key) → Cover owned (now_of h) → (key : Key) → Has key (keys_of h ++ other_keys h owned) → Has key owned
  own_within owned covers key has = ⊎_elim
      (λ (x : Has key (keys_of h)). subst (λ (p : Key). Has p owned) (as_record key x) (covers key.1 (own_record key x)))
      (λ (y : Has key (other_keys h owned)). (filter_has (λ (p : Key). not (is_key_of h p)) key owned y).0)
      (has_either key (keys_of h) (other_keys h owned) has)

  pub own_apart : (owned : List Key) (key : Key) → Has key (keys_of h) → Has key (other_keys h owned) → ⊥
  own_apart owned key x y = not_both (is_own key x) (filter_has (λ (p : Key). not (is_key_of h p)) key owned y).1

  -- The other keys still include those of a set without a common record.
  pub others_cover : (owned : List Key) (g : SetState R D) → ShareNone h g → Cover owned (now_of g) → Cover (other_keys h owned) (now_of g)
  others_cover owned g shares covers n there =
      has_filter (λ (p : Key). not (is_key_of h p)) (0, n) owned (covers n there)
      (elim (contains_key h.records n) as (λ b. contains_key h.records n ≡ b → not b ≡ true) [
        | true ↦ λ has. absurd (none_some (get g.records n) (shares n has) there)
        | false ↦ λ isnt. refl
      ] refl)

  -- The key of the puts with notification is among the other keys.
  pub puts_among : (owned : List Key) → Has notifications_key owned → Has notifications_key (other_keys h owned)
  puts_among owned has = has_filter (λ (p : Key). not (is_key_of h p)) notifications_key owned has refl

  -- The keys of the set cover its records.
  pub own_cover : Cover (keys_of h) (now_of h)
  own_cover n there = contains_record n (keys h.records) (there_key h.records n there)
