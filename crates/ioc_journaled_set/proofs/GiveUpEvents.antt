-- The result of a cancel after which no waiting request may start.
use Rattle.std.proofs.Common.{◌≡◌, ℕ, zero, suc, Bool, true, false, cond, ◌&&◌, not, nat_eq, List, [], ◌∷◌, Option, Some, None as Nothing_, refl, sym, ap, subst, ◌∙◌, arith}
use Rattle.std.specs.Prelude.{is_some, Contains}
use Rattle.std.specs.FinMap.{contains_key}
use Rattle.std.proofs.lemmas.Bool.{eqb-true}
use Rattle.ioc_values.specs.declared.error.IocError.TheVariants.{Stale}
use Rattle.ioc_dbcommon.specs.declared.common.Common.{Common}
use Rattle.ioc_dbcommon.specs.Steps.{with_notification}
use Rattle.ioc_ledger.specs.Requests.{None, followed_by}
use Rattle.ioc_notify.specs.declared.waiting_lists.Waiting.{Waiting}
use Rattle.ioc_notify.specs.Living.{is_live}
use Rattle.ioc_record.specs.RecordRules.{RecordRules}
use Rattle.ioc_record.specs.Laws.{IsLawful}
use Rattle.ioc_store.specs.World.{World, Has, at, common_at, begun, begun_at, cancelled, freed, is_notification}
use Rattle.ioc_store.specs.Given.{Answers}
use Rattle.ioc_store.specs.Freeing.{has-cancelled, at_cancelled-is}
use Rattle.ioc_process.specs.Processing.{Done}
use Rattle.ioc_events.specs.declared.event.Event.TheVariants.{Cancel}
use Rattle.ioc_events.specs.declared.reply.Reply.TheVariants.{Plain}
use Rattle.ioc_events.specs.Starting.{NoneReady, is_ready, next_from, next_waiting, sooner, started_then, started_most, all_started}
use Rattle.ioc_events.specs.Step.{Stepped, stepped, done_alone, done_there, refused, lets_start, with_starts}
use Rattle.ioc_journal.proofs.Basics.{later, passes-there}

false_and : (b : Bool) → b && false ≡ false
false_and true = refl
false_and false = refl

module _ {R : Type 0} (k : RecordRules R) where
  -- If no waiting request may start, none starts.

  next-none : (w : World R) (xs : List Waiting) → ((x : Waiting) → Contains xs x → is_ready k w x ≡ false) → next_from k w Nothing_ xs ≡ Nothing_
  next-none w [] none = refl
  next-none w (x ∷ xs) none =
      ap (λ (b : Bool). next_from k w (cond b (Some (sooner Nothing_ x)) Nothing_) xs) (none x (0, omega arith, refl))
      ∙ next-none w xs (λ y c. none y (later x xs y c))

  most-none : (answers : Answers) (w : World R) → NoneReady k w → (n : ℕ) → started_most k answers n w ≡ record { world = w; requests = None }
  unfolding started_most next_waiting
  most-none answers w none zero = refl
  most-none answers w none (suc n) = ap (λ (o : Option Waiting). started_then k answers (started_most k answers n) w o) (next-none w w.waiting none.none)

  all-none : (answers : Answers) (w : World R) → NoneReady k w → all_started k answers w ≡ record { world = w; requests = None }
  unfolding all_started
  all-none answers w none = most-none answers w none _

  -- A cancel after which no waiting request may start.

  pub cancel-steps : (answers : Answers) (w : World R) (number : ℕ) → is_live number w.live ≡ true → NoneReady k (cancelled k number w)
      → stepped k answers w (Cancel number) ≡ record { world = cancelled k number w; reply = Plain; requests = followed_by None None }
  unfolding stepped done_alone done_there
  cancel-steps answers w number live none =
      ap (λ (b : Bool).
      let first : Stepped R = cond b (record { world = cancelled k number w; reply = Plain; requests = None }) (refused w Stale) in
      cond (lets_start first.reply) (with_starts k answers first) first) live
      ∙ ap (λ (d : Done R). record { world = d.world; reply = Plain; requests = followed_by None d.requests }) (all-none answers (cancelled k number w) none)

  -- If each record of a put with notification is active, no waiting request may start once it is
  -- canceled.

  abbrev alone : R → Bool
  alone r = not (k.common r).active && not (is_some (k.common r).notification)

  is-notified : (number : ℕ) (o : Option ℕ) → is_notification number o ≡ true → o ≡ Some number
  is-notified number Nothing_ is = cc
  is-notified number (Some held) is = ap Some (eqb-true held number is)

  -- A record that is part of the put with notification is active before and after the cancel.
  freed-alone : IsLawful k → (number : ℕ) (r : R) → ((k.common r).notification ≡ Some number → (k.common r).active ≡ true) → alone r ≡ false → alone (freed k number r) ≡ false
  freed-alone lawful number r active none = elim (is_notification number (k.common r).notification) as (λ b. is_notification number (k.common r).notification ≡ b → alone (cond b (k.with_common r (with_notification Nothing_ (k.common r))) r) ≡ false) [
    | true ↦ λ is.
        let on : (k.common (k.with_common r (with_notification Nothing_ (k.common r)))).active ≡ true
        = ap (λ (c : Common). c.active) (lawful.common_set r (with_notification Nothing_ (k.common r))) ∙ active (is-notified number (k.common r).notification is) in
        ap (λ (b : Bool). not b && not (is_some (k.common (k.with_common r (with_notification Nothing_ (k.common r)))).notification)) on
    | false ↦ λ isnt. none
  ] refl

  there-alone : (w : World R) (x : Waiting) → contains_key w.records x.target ≡ true → is_ready k w x ≡ false → alone (at k w x.target) ≡ false
  unfolding is_ready
  there-alone w x there none = sym (ap (λ (b : Bool). b && alone (at k w x.target)) there) ∙ none

  alone-ready : (w : World R) (x : Waiting) → alone (at k w x.target) ≡ false → is_ready k w x ≡ false
  unfolding is_ready
  alone-ready w x none = ap (λ (b : Bool). contains_key w.records x.target && b) none ∙ false_and (contains_key w.records x.target)

  gone-ready : (w : World R) (x : Waiting) → contains_key w.records x.target ≡ false → is_ready k w x ≡ false
  unfolding is_ready
  gone-ready w x gone = ap (λ (b : Bool). b && alone (at k w x.target)) gone

  waits-before : (number : ℕ) (w : World R) (x : Waiting) → Contains (cancelled k number w).waiting x → Contains w.waiting x
  unfolding cancelled
  waits-before number w x c = (passes-there (λ (y : Waiting). not (nat_eq y.number number)) w.waiting x c).0

  -- Holds if each record of the put with notification awaits its device.
  abbrev pub AreActive : ℕ → World R → Type 0
  AreActive number w = (q : ℕ) → Has w q → (common_at k w q).notification ≡ Some number → (common_at k w q).active ≡ true

  pub none-then : IsLawful k → (number : ℕ) (w : World R) → NoneReady k w → AreActive number w → NoneReady k (cancelled k number w)
  none-then lawful number w none active = record {
    none = λ x c.
        let before = none.none x (waits-before number w x c) in
        elim (contains_key w.records x.target) as (λ b. contains_key w.records x.target ≡ b → is_ready k (cancelled k number w) x ≡ false) [
          | true ↦ λ there.
              alone-ready (cancelled k number w) x
              (subst (λ (r : R). alone r ≡ false) (sym (at_cancelled-is k number w x.target true there))
              (freed-alone lawful number (at k w x.target) (active x.target there) (there-alone w x there before)))
          | false ↦ λ gone. gone-ready (cancelled k number w) x (has-cancelled k number w x.target ∙ gone)
        ] refl;
  }

  -- The beginning of an event.

  pub begun-none : (moment : ℕ) (w : World R) → NoneReady k w → NoneReady k (begun_at moment w)
  unfolding at begun begun_at is_ready
  begun-none moment w none = record { none = none.none }

  pub begun-active : (number moment : ℕ) (w : World R) → AreActive number w → AreActive number (begun_at moment w)
  unfolding at begun begun_at
  begun-active number moment w active = active
