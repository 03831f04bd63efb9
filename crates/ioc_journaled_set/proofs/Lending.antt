-- The record that a link leads to, among the sets that the link change works on.
use Rattle.std.proofs.Common.{◌≡◌, ℕ, zero, suc, [], ◌∷◌, Option, Some, refl, sym, subst, inl, inr, arith}
use Rattle.std.specs.Prelude.{Contains, IsSome}
use Rattle.std.specs.FinMap.{get}
use Rattle.ioc_dbcommon.specs.Links.{named_by, record_named}
use Rattle.ioc_dbcommon.specs.declared.link_field.LinkUse.{LinkUse}
use Rattle.ioc_dbcommon.specs.declared.link_field.LinkUse.TheVariants.{Unused, OwnDevice, Absent, Standing}
use Rattle.ioc_record.specs.RecordRules.{RecordRules}
use Rattle.ioc_store.specs.World.{World}
use Rattle.ioc_topology.specs.Change.{AreLent}
use Rattle.ioc_journaled_set.specs.Holding.{HeldView, numbers_of, IsSoundlyHeld}
use Rattle.ioc_journaled_set.specs.LinkChanges.{IsKnown}
use Rattle.ioc_journaled_set.proofs.Keys.{key_there}

none_in : {A : Type 0} (x : A) → Contains [] x → ⊥
none_in x c = let l = c.1 in omega arith

one_there : {X : Type 0} (x y : X) → Contains (x ∷ []) y → x ≡ y
one_there x y (zero, lt, is) = is
one_there x y (suc i, lt, is) = absurd (omega arith)

module _ {R D : Type 0} (k : RecordRules R) (base : World R) where
  -- A record of a sound set is in the world of all.
  known_in : (v : HeldView R D) → IsSoundlyHeld k base v → (t : ℕ) → Contains (numbers_of v) t → IsKnown k base t
  known_in v sound t has =
      let there : IsSome (get v.set.records t) = key_there v.set.records t has in
      (v.seen, subst (λ (o : Option R). IsSome o) (sym (sound.holds.records t there)) there)

  module _ (number : ℕ) (first second spare : HeldView R D) (first_sound : IsSoundlyHeld k base first) (second_sound : IsSoundlyHeld k base second) where
    known_at : (o : ℕ) → AreLent numbers_of number (Some o) first second spare → IsKnown k base o
    known_at o lent = elim lent.there [
      | inl p ↦ known_in first first_sound o p.0
      | inr p ↦ known_in second second_sound o p
    ]

    -- The record that the link leads to is in the world of all.
    pub lent_known : (used : LinkUse) → AreLent numbers_of number (record_named used) first second spare → (t : ℕ) → Contains (named_by used) t → IsKnown k base t
    lent_known (Standing target) lent t c = subst (λ (n : ℕ). IsKnown k base n) (one_there target.number t c) (known_at target.number lent)
    lent_known Unused lent t c = absurd (none_in t c)
    lent_known OwnDevice lent t c = absurd (none_in t c)
    lent_known Absent lent t c = absurd (none_in t c)

module _ {R D : Type 0} (number : ℕ) (first second spare : HeldView R D) where
  at_other : (o : ℕ) → AreLent numbers_of number (Some o) first second spare → (((t : ℕ) → Contains (o ∷ []) t → IsSome (get first.set.records t)) → ⊥) → IsSome (get second.set.records o)
  at_other o lent out = elim lent.there [
    | inl p ↦ absurd (out (λ t c. subst (λ (n : ℕ). IsSome (get first.set.records n)) (one_there o t c) (key_there first.set.records o p.0)))
    | inr p ↦ key_there second.set.records o p
  ]

  -- The link leads into the second set if it doesn't lead within the first.
  pub lent_to : (used : LinkUse) → AreLent numbers_of number (record_named used) first second spare → (((t : ℕ) → Contains (named_by used) t → IsSome (get first.set.records t)) → ⊥)
      → (t : ℕ) × (named_by used ≡ t ∷ []) × IsSome (get second.set.records t)
  lent_to (Standing target) lent out = (target.number, refl, at_other target.number lent out)
  lent_to Unused lent out = absurd (out (λ t c. absurd (none_in t c)))
  lent_to OwnDevice lent out = absurd (out (λ t c. absurd (none_in t c)))
  lent_to Absent lent out = absurd (out (λ t c. absurd (none_in t c)))
