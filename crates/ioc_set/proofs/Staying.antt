-- If no put with notification is live on a set, none is after a request, a put or a completion, and
-- none ends by it.
use Rattle.std.proofs.Common.{◌≡◌, ◌≢◌, ◌↔◌, ℕ, zero, true, false, List, [], ◌∷◌, refl, ap, ◌∙◌, subst, ⊎_elim, arith}
use Rattle.std.specs.Prelude.{Contains}
use Rattle.ioc_device.specs.declared.Ask.{Ask}
use Rattle.ioc_device.specs.declared.Answer.{Answer}
use Rattle.ioc_ledger.specs.Requests.{Requests}
use Rattle.ioc_record.specs.RecordRules.{RecordRules}
use Rattle.ioc_notify.specs.declared.live_numbers.Live.{Live}
use Rattle.ioc_notify.specs.Living.{is_live}
use Rattle.ioc_store.specs.World.{World, IsClosed, at, begun, begun_at}
use Rattle.ioc_store.specs.Given.{Answers, answers_of, listed}
use Rattle.ioc_events.specs.declared.event.Event.{Event}
use Rattle.ioc_events.specs.declared.event.Event.TheVariants.{Process, Put, Complete, Notify, Cancel}
use Rattle.ioc_events.specs.declared.event.EventEntry.{EventEntry}
use Rattle.ioc_events.specs.declared.reply.Reply.{Reply}
use Rattle.ioc_events.specs.declared.reply.Reply.TheVariants.{Notify as Notify-reply}
use Rattle.ioc_events.specs.Step.{stepped}
use Rattle.ioc_events.specs.StepRules.{Step}
use Rattle.ioc_events.specs.EventReplay.{Replay, at_the_end, and_then}
use Rattle.ioc_events.specs.declared.event.Call.TheVariants as call
use Rattle.ioc_events.specs.Holding.{IsCounted, IsHeld, EndsExactly, holders}
use Rattle.ioc_set.specs.SetState.{SetState, NoneIsLive, now_of, done_by}
use Rattle.ioc_set.specs.Sound.{IsSound}
use Rattle.ioc_set.specs.Puts.{is_put_with_notification}
use Rattle.ioc_set.specs.Doing.{is_ordinary, with_place, Does}
use Rattle.ioc_set.proofs.DoneLaws.{now_kept}

ordinary_alone : (event : Event) → is_ordinary event ≡ true → is_put_with_notification event ≡ true → ⊥
ordinary_alone (Process s) is put = absurd (let z : false ≡ true = put in cc)
ordinary_alone (Put s field given) is put = absurd (let z : false ≡ true = put in cc)
ordinary_alone (Complete s n x) is put = absurd (let z : false ≡ true = put in cc)
ordinary_alone (Notify s n field given) is put = absurd (let z : false ≡ true = is in cc)
ordinary_alone (Cancel n) is put = absurd (let z : false ≡ true = is in cc)

module _ {R D : Type 0} (k : RecordRules R) (gives : D → Ask → ℕ → Answer → D → Type 0)
    (allowed : (answers : Answers) (w : World R) (event : Event) → Step k answers w event (stepped k answers w event).world (stepped k answers w event).reply (stepped k answers w event).requests)
    (stays : (w after : World R) (entry : EventEntry) → Replay k w (entry ∷ []) after → IsCounted k w → w.live ≡ [] → ((n : ℕ) → entry.reply ≢ Notify-reply n) → (after.live ≡ []) × (after.waiting ≡ []))
    (begin : (answers : Answers) (w after : World R) (event : Event) (reply : Reply) (requests : Requests) (n : ℕ) → Step k answers w event after reply requests → reply ≡ Notify-reply n → is_put_with_notification event ≡ true) where
  pub stays_without : (most : ℕ) (h after : SetState R D) (moment : ℕ) (event : Event) (reply : Reply) (come_to : World R) → Does k gives most h moment event reply after come_to → is_ordinary event ≡ true → IsSound k h → NoneIsLive h → NoneIsLive after
  stays_without most h after moment event reply come_to does ordinary sound none =
      let e = does.entry in
      let answers = listed e.answers in
      let w = begun_at e.moment (now_of h) in
      let done = done_by k (now_of h) e in
      let same : now_of (with_place most h) ≡ now_of h = now_kept most h (with_place most h) refl in
      let replied = subst (λ (v : World R). (done_by k v e).reply ≡ e.reply) same does.tells.reply in
      let used = subst (λ (v : World R). answers_of (done_by k v e).world.calls ≡ e.answers) same does.tells.answers in
      let ours : is_ordinary e.event ≡ true = ap is_ordinary does.event ∙ ordinary in
      let step = subst (λ (r : Reply). Step k answers w e.event done.world r done.requests) replied (allowed answers w e.event) in
      let left = stays (now_of h) done.world e (and_then step used at_the_end) sound.counted none.0
      (λ n is. ordinary_alone e.event ours (begin answers w done.world e.event e.reply done.requests n step is)) in (
        ap (λ (z : SetState R D). z.live) does.after ∙ ap (λ (v : World R). (done_by k v e).world.live) same ∙ left.0,
        ap (λ (z : SetState R D). z.waiting) does.after ∙ ap (λ (v : World R). (done_by k v e).world.waiting) same ∙ left.1,
      )

nothing_in : {A : Type 0} (xs : List A) → ((x : A) → Contains xs x → ⊥) → xs ≡ []
nothing_in [] none = refl
nothing_in (x ∷ xs) none = absurd (none x (zero, omega arith, refl))

none_live : (n : ℕ) (ls : List Live) → ls ≡ [] → is_live n ls ≡ true → ⊥
none_live n ls none is = let z : false ≡ true = subst (λ (l : List Live). is_live n l ≡ true) none is in cc

module _ {R : Type 0} (k : RecordRules R) where
  closed_begun : (w : World R) (moment : ℕ) → IsClosed k w → IsClosed k (begun_at moment w)
  unfolding at begun_at begun
  closed_begun w moment c = record { closed = c.closed }

  counted_begun : (w : World R) (moment : ℕ) → IsCounted k w → IsCounted k (begun_at moment w)
  unfolding at begun_at begun holders
  counted_begun w moment c = record {
    closed = closed_begun w moment c.closed;
    few = c.few;
    counted = record { counted = c.counted.counted; live = c.counted.live; waits_once = c.counted.waits_once };
  }

  none_ended : (w : World R) (moment : ℕ) → (begun_at moment w).ended ≡ []
  unfolding begun_at begun
  none_ended w moment = refl

  live_begun : (w : World R) (moment : ℕ) → (begun_at moment w).live ≡ w.live
  unfolding begun_at begun
  live_begun w moment = refl

module _ {R D : Type 0} (k : RecordRules R) (gives : D → Ask → ℕ → Answer → D → Type 0)
    (allowed : (answers : Answers) (w : World R) (event : Event) → Step k answers w event (stepped k answers w event).world (stepped k answers w event).reply (stepped k answers w event).requests)
    (begin : (answers : Answers) (w after : World R) (event : Event) (reply : Reply) (requests : Requests) (n : ℕ) → Step k answers w event after reply requests → reply ≡ Notify-reply n → is_put_with_notification event ≡ true)
    (live : (w : World R) (n : ℕ) → IsCounted k w → (is_live n w.live ≡ true) ↔ IsHeld k w n)
    (ends : (answers : Answers) (w after : World R) (event : Event) (reply : Reply) (requests : Requests) → Step k answers w event after reply requests → IsCounted k w → w.ended ≡ [] → EndsExactly k w (call.Event event reply) after) where
  pub ends_none : (most : ℕ) (h after : SetState R D) (moment : ℕ) (event : Event) (reply : Reply) (come_to : World R) → Does k gives most h moment event reply after come_to → is_ordinary event ≡ true → IsSound k h → NoneIsLive h → come_to.ended ≡ []
  ends_none most h after moment event reply come_to does ordinary sound none =
      let e = does.entry in
      let answers = listed e.answers in
      let w = begun_at e.moment (now_of h) in
      let done = done_by k (now_of h) e in
      let ours : is_ordinary e.event ≡ true = ap is_ordinary does.event ∙ ordinary in
      let step = allowed answers w e.event in
      let counted = counted_begun k (now_of h) e.moment sound.counted in
      let exact = ends answers w done.world e.event done.reply done.requests step counted (none_ended k (now_of h) e.moment) in
      let over : done.world.ended ≡ [] = nothing_in done.world.ended (λ n has.
      ⊎_elim (λ (held : IsHeld k w n). none_live n w.live (live_begun k (now_of h) e.moment ∙ none.0) ((live w n counted).1 held))
      (λ (is : done.reply ≡ Notify-reply n). ordinary_alone e.event ours (begin answers w done.world e.event done.reply done.requests n step is))
      ((exact.ended n).0 has).0) in
      ap (λ (v : World R). v.ended) does.left ∙ over
