-- Devices stay with their records.
use Rattle.std.proofs.Common.{◌≡◌, ℕ, Bool, true, false, cond, List, Option, Some, None, refl, sym, ap, ◌∙◌, subst, inl, inr}
use Rattle.std.proofs.lemmas.Bool.{eqb-true}
use Rattle.std.specs.Prelude.{◌==◌, IsSome}
use Rattle.std.specs.FinMap.{get}
use Rattle.ioc_device.specs.declared.Ask.{Ask}
use Rattle.ioc_device.specs.declared.Answer.{Answer}
use Rattle.ioc_set_records.specs.Joined.{AreShared}
use Rattle.ioc_store.specs.declared.call.Call.{Call}
use Rattle.ioc_store.specs.Given.{DeviceGives, its_device, no_device, DevicesWork, no_call, and_then, with_device}
use Rattle.ioc_store.specs.World.{Has}
use Rattle.ioc_set.specs.SetState.{SetState, now_of}
use Rattle.ioc_journaled_set.specs.Holding.{KeepsDevices}
use Rattle.ioc_journaled_set.specs.SameDevice.{AnswersLead, no_answer, one_more, IsSameDevice, IsDeviceOf}

pub not_some : {A : Type 0} (o : Option A) → (IsSome o → ⊥) → o ≡ None
not_some None h = refl
not_some (Some x) h = absurd (h refl)

-- One of two maps that share a map is equal to it at each key that the other lacks.
module _ {X : Type 0} (f g h : ℕ → Option X) (shared : AreShared f g h) (q : ℕ) where
  pub first_has : (IsSome (h q) → ⊥) → g q ≡ f q
  first_has none = elim (shared q) [
    | inl p ↦ p.0
    | inr p ↦ p.0 ∙ sym (not_some (h q) none) ∙ p.1
  ]

  pub other_has : (IsSome (g q) → ⊥) → h q ≡ f q
  other_has none = elim (shared q) [
    | inl p ↦ p.1 ∙ sym (not_some (g q) none) ∙ p.0
    | inr p ↦ p.1
  ]

-- A device is the same after more of its answers.
module _ {D : Type 0} (gives : D → Ask → ℕ → Answer → D → Type 0) where
  led_on : {first mid last : D} → AnswersLead gives first mid → AnswersLead gives mid last → AnswersLead gives first last
  led_on start no_answer = start
  led_on start (one_more before given) = one_more (led_on start before) given

  pub unchanged : (o : Option D) → IsSameDevice gives o o
  unchanged None = refl
  unchanged (Some d) = (d, refl, no_answer)

  same_on : (first mid last : Option D) → IsSameDevice gives first mid → IsSameDevice gives mid last → IsSameDevice gives first last
  same_on None mid last none same = subst (λ (o : Option D). IsSameDevice gives o last) none same
  same_on (Some d) mid last start same = let end = subst (λ (o : Option D). IsSameDevice gives o last) start.1 same in (end.0, end.1, led_on start.2 end.2)

  set_there : (ds : ℕ → Option D) (t n : ℕ) (b : Bool) (before after : D) → (n == t) ≡ b → ds t ≡ Some before → AnswersLead gives before after → IsSameDevice gives (ds n) (cond b (Some after) (ds n))
  set_there ds t n true before after same there led = subst (λ (o : Option D). IsSameDevice gives o (Some after)) (sym (ap ds (eqb-true n t same) ∙ there)) (after, refl, led)
  set_there ds t n false before after other there led = unchanged (ds n)

module _ {D : Type 0} {gives : D → Ask → ℕ → Answer → D → Type 0} where
  called_there : {ds : ℕ → Option D} {moment : ℕ} {call : Call} {es : ℕ → Option D} → DeviceGives gives ds moment call es → (n : ℕ) → IsSameDevice gives (ds n) (es n)
  unfolding with_device
  called_there (its_device {ds} {moment} {call} {before} {after} there given) n = set_there gives ds call.target n (n == call.target) before after refl there (one_more no_answer given)
  called_there (no_device {ds} there fault) n = unchanged gives (ds n)

  pub worked_there : {ds es : ℕ → Option D} {moment : ℕ} {calls : List Call} → DevicesWork gives ds moment calls es → (n : ℕ) → IsSameDevice gives (ds n) (es n)
  worked_there (no_call {ds}) n = unchanged gives (ds n)
  worked_there (and_then {ds} {mid} {es} first rest) n = same_on gives (ds n) (mid n) (es n) (called_there first n) (worked_there rest n)

module _ {R D : Type 0} (gives : D → Ask → ℕ → Answer → D → Type 0) (devices : ℕ → Option D) where
  -- Each record keeps its device if no record was added and each device is the same.
  pub keeps_on : (h h' : SetState R D) → KeepsDevices (IsDeviceOf gives devices) h → ((n : ℕ) → IsSameDevice gives (get h.devices n) (get h'.devices n)) → ((n : ℕ) → Has (now_of h') n → Has (now_of h) n)
      → KeepsDevices (IsDeviceOf gives devices) h'
  keeps_on h h' keeps same only n has = same_on gives (devices n) (get h.devices n) (get h'.devices n) (keeps n (only n has)) (same n)
