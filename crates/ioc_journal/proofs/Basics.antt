-- Lookups in maps, and the waiting list of a record.
use Rattle.std.proofs.Common.{◌≡◌, ℕ, zero, suc, Bool, true, false, List, [], ◌∷◌, Option, Some, None, refl, sym, ap, subst, arith}
use Rattle.std.specs.Prelude.{is_some, unwrap_or, Contains}
use Rattle.std.specs.FinMap.{get, contains_key}
use Rattle.ioc_notify.specs.declared.waiting_lists.Waiting.{Waiting}
use Rattle.ioc_notify.specs.Waits.{at_record}
use Rattle.ioc_record.specs.RecordRules.{RecordRules, targets}
use Rattle.ioc_record.specs.Laws.{IsLawful}
use Rattle.ioc_store.specs.World.{World, at}
use Rattle.ioc_events.proofs.RecordLists.{of-list}
pub use Rattle.ioc_events.proofs.RecordLists.{passes-there, waits-too}

pub not_both : {b : Bool} → b ≡ true → b ≡ false → ⊥
not_both is isnt = cc

pub not_true : (b : Bool) → (b ≡ true → ⊥) → b ≡ false
not_true true never = absurd (never refl)
not_true false never = refl

-- Two options are equal if both or none have a value and their values with a default are equal.
pub same_option : {X : Type 0} (d : X) (o p : Option X) → is_some o ≡ is_some p → unwrap_or o d ≡ unwrap_or p d → o ≡ p
same_option d None None s e = refl
same_option d None (Some y) s e = cc
same_option d (Some x) None s e = cc
same_option d (Some x) (Some y) s e = ap Some e

pub is-none : {X : Type 0} (o : Option X) → (is_some o ≡ true → ⊥) → o ≡ None
is-none None never = refl
is-none (Some x) never = absurd (never refl)

-- Lists.

pub one-there : {X : Type 0} (x y : X) → Contains (x ∷ []) y → x ≡ y
one-there x y (zero, lt, is) = is
one-there x y (suc i, lt, is) = absurd (omega arith)

pub later : {X : Type 0} (y : X) (xs : List X) (x : X) → Contains xs x → Contains (y ∷ xs) x
later y xs x (i, lt, is) = (suc i, omega (arith, lt), is)

-- The waiting list of a record is empty if no entry waits for the record.
pub nobody-waits : (xs : List Waiting) (n : ℕ) → ((x : Waiting) → Contains xs x → x.target ≡ n → ⊥) → at_record n xs ≡ []
nobody-waits xs n none = elim (at_record n xs) as (λ l. at_record n xs ≡ l → l ≡ []) [
  | [] ↦ λ is. refl
  | (y ∷ ys) ↦ λ is. let one = of-list xs n y (subst (λ (l : List Waiting). Contains l y) (sym is) (0, omega arith, refl)) in absurd (none y one.0 one.1)
] refl

-- A missing record has no links.

module _ {R : Type 0} (k : RecordRules R) (lawful : IsLawful k) where
  missing-option : (o : Option R) (target : ℕ) → is_some o ≡ false → Contains (targets k (unwrap_or o k.missing)) target → ⊥
  missing-option None target isnt named = let none = subst (λ (l : List ℕ). Contains l target) lawful.missing_targets named in absurd (omega (arith, none.1))
  missing-option (Some x) target isnt named = cc

  pub missing-named : (w : World R) (r target : ℕ) → contains_key w.records r ≡ false → Contains (targets k (at k w r)) target → ⊥
  unfolding at
  missing-named w r target isnt named = missing-option (get w.records r) target isnt named
