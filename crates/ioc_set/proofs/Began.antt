-- A history that begins with an event has the records before it as its base.
use Rattle.std.proofs.Common.{◌≡◌, ◌≤◌, ◌⊎◌, inl, inr, ℕ, Bool, true, false, List, [], ◌∷◌, ◌++◌, length, refl, sym, ap, ◌∙◌, subst, arith}
use Rattle.std.proofs.lemmas.List.{length_push}
use Rattle.std.specs.Prelude.{if◌then◌else◌}
use Rattle.ioc_device.specs.declared.Ask.{Ask}
use Rattle.ioc_device.specs.declared.Answer.{Answer}
use Rattle.ioc_record.specs.RecordRules.{RecordRules}
use Rattle.ioc_store.specs.World.{World}
use Rattle.ioc_events.specs.declared.event.Event.{Event}
use Rattle.ioc_events.specs.declared.event.EventEntry.{EventEntry}
use Rattle.ioc_events.specs.declared.reply.Reply.{Reply}
use Rattle.ioc_events.specs.EventReplay.{Replay, at_the_end, and_then}
use Rattle.ioc_set.specs.SetState.{SetState, before_of, folded}
use Rattle.ioc_set.specs.Doing.{Does, IsShort, is_full, with_place}
use Rattle.ioc_set.specs.Sound.{IsSound}

at_most_one : (n : ℕ) → (n ≤ 0) ⊎ (n ≤ 1) → n ≤ 1
at_most_one n (inl l) = omega arith
at_most_one n (inr l) = l

-- A list that has one item at most with one more has none.
one_at_most : {X : Type 0} (xs : List X) (x : X) → length (xs ++ x ∷ []) ≤ 1 → xs ≡ []
one_at_most [] x l = refl
one_at_most (y ∷ xs) x l = absurd (let e = length_push xs x in omega arith)

module _ {R : Type 0} (k : RecordRules R) where
  -- No event leads nowhere else.
  stays : (w after : World R) (entries : List EventEntry) → Replay k w entries after → entries ≡ [] → after ≡ w
  stays w after [] at_the_end none = refl
  stays w after (entry ∷ entries) (and_then step answers rest) none = absurd (let e : (entry ∷ entries) ≡ [] = none in cc)

module _ {R D : Type 0} (k : RecordRules R) where
  -- The base of a set without history is its records.
  base_now : (h : SetState R D) → IsSound k h → h.history ≡ [] → h.base.records ≡ h.records
  base_now h sound none =
      sym (ap (λ (w : World R). w.records) (stays k (before_of h.base) sound.leads.after h.history sound.leads.replay none)) ∙ sound.leads.records

  -- A set without history once it has a place for one more event has its records as its base.
  placed : (b : Bool) (h : SetState R D) → IsSound k h → (if b then folded h else h).history ≡ [] → (if b then folded h else h).base.records ≡ h.records
  placed true h sound none = refl
  placed false h sound none = base_now h sound none

  pub began : (gives : D → Ask → ℕ → Answer → D → Type 0) (most : ℕ) (h after : SetState R D) (moment : ℕ) (event : Event) (reply : Reply) (come_to : World R)
      → Does k gives most h moment event reply after come_to → IsSound k h → IsShort 0 after → after.base.records ≡ h.records
  began gives most h after moment event reply come_to does sound short =
      let history = ap (λ (s : SetState R D). s.history) does.after in
      ap (λ (s : SetState R D). s.base.records) does.after
      ∙ placed (is_full most (length h.history)) h sound (one_at_most (with_place most h).history does.entry (subst (λ xs. length xs ≤ 1) history (at_most_one (length after.history) short)))
