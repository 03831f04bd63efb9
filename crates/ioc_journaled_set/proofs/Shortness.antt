-- How many events a set keeps after an event.
use Rattle.std.proofs.Common.{◌≡◌, ◌≤◌, ◌<◌, ◌+◌, ◌⊎◌, inl, inr, ℕ, Bool, true, false, cond, nat_lt, not, ◌||◌, List, [], ◌∷◌, ◌++◌, length, refl, sym, ap, ◌∙◌, arith}
use Rattle.std.specs.Prelude.{◌==◌}
use Rattle.std.proofs.lemmas.Bool.{ltb-true}
use Rattle.std.proofs.lemmas.List.{length-append}
use Rattle.ioc_device.specs.declared.Ask.{Ask}
use Rattle.ioc_device.specs.declared.Answer.{Answer}
use Rattle.ioc_record.specs.RecordRules.{RecordRules}
use Rattle.ioc_store.specs.World.{World}
use Rattle.ioc_events.specs.declared.event.Event.{Event}
use Rattle.ioc_events.specs.declared.reply.Reply.{Reply}
use Rattle.ioc_set.specs.SetState.{SetState, folded}
use Rattle.ioc_set.specs.Doing.{Does, IsShort, is_full, with_place}

or_true : (b : Bool) → (b || true) ≡ true
or_true false = refl
or_true true = refl

not_lt : (b : Bool) (n most : ℕ) → b ≡ nat_lt n most → ((n == 64) || not b) ≡ false → n < most
not_lt true n most lt is = ltb-true n most (sym lt)
not_lt false n most lt is = absurd (let full : true ≡ false = sym (or_true (n == 64)) ∙ is in cc)

-- A list with room for one more item is short once it has that.
grown_short : {A : Type 0} (most : ℕ) (before grown : List A) (x : A) → grown ≡ before ++ x ∷ [] → (length before < most) ⊎ (before ≡ []) → (length grown ≤ most) ⊎ (length grown ≤ 1)
grown_short most before grown x is (inl few) =
    let count : length grown ≡ length before + 1 = ap (λ l. length l) is ∙ length-append before (x ∷ []) in
    inl (omega (arith, count, few))
grown_short most before grown x is (inr none) =
    let count : length grown ≡ length before + 1 = ap (λ l. length l) is ∙ length-append before (x ∷ []) in
    let empty : length before ≡ 0 = ap (λ l. length l) none in
    inr (omega (arith, count, empty))

module _ {R D : Type 0} where
  placed_few : (most : ℕ) (full : Bool) (h : SetState R D) → is_full most (length h.history) ≡ full → (length (cond full (folded h) h).history < most) ⊎ ((cond full (folded h) h).history ≡ [])
  placed_few most true h is = inr refl
  placed_few most false h is = inl (not_lt (nat_lt (length h.history) most) (length h.history) most refl is)

  module _ {most : ℕ} (k : RecordRules R) (gives : D → Ask → ℕ → Answer → D → Type 0) (h after : SetState R D) (moment : ℕ) (event : Event) (reply : Reply) (come_to : World R) where
    pub does_short : Does k gives most h moment event reply after come_to → IsShort most after
    does_short does =
        let grown = ap (λ (z : SetState R D). z.history) does.after in
        grown_short most (with_place most h).history after.history does.entry grown (placed_few most (is_full most (length h.history)) h refl)
