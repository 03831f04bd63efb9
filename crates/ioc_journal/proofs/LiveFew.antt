-- At most 256 puts with notification are live.
use Rattle.std.proofs.Common.{◌≡◌, ◌≢◌, ℕ, ◌+◌, ◌<◌, ◌≤◌, true, false, eqb, ◌||◌, length, List, [], ◌∷◌, refl, sym, subst, arith}
use Rattle.std.specs.Prelude.{map, Contains}
use Rattle.std.proofs.lemmas.Bool.{eq-eqb, eqb-true, ltb-true, and_parts}
use Rattle.std.proofs.lemmas.List.{length-map}
use Rattle.ioc_notify.specs.declared.live_numbers.Live.{Live}
use Rattle.ioc_notify.specs.Living.{is_live}
use Rattle.ioc_record.specs.RecordRules.{RecordRules}
use Rattle.ioc_ledger.specs.Requests.{Requests}
use Rattle.ioc_store.specs.World.{World, has_place, begun, begun_at}
use Rattle.ioc_store.specs.Given.{Answers, listed}
use Rattle.ioc_events.specs.declared.event.Entry.{Entry}
use Rattle.ioc_events.specs.declared.reply.Reply.{Reply}
use Rattle.ioc_events.specs.declared.reply.Reply.TheVariants.{Plain, Outcome as Outcome-reply, Notify as Notify-reply, Refused}
use Rattle.ioc_events.specs.declared.event.Call.{Call}
use Rattle.ioc_events.specs.declared.event.Call.TheVariants as call
use Rattle.ioc_events.specs.Holding.{IsCounted, Begins}
use Rattle.ioc_events.specs.Calls.{called}
use Rattle.ioc_events.specs.StepRules.{Replay, at_the_end, and_then, Calls, does_event, shows_field, tells_if_live, keeps_its_link, takes_link, posts_event, interrupts}
use Rattle.ioc_events.proofs.Beginning.{step-begins}
use Rattle.ioc_journal.specs.declared.entry.Note.{Note}
use Rattle.ioc_journal.specs.Legal.{entry_of, done, Fits}
use Rattle.ioc_journal.specs.EventLaws.{EventLaws}
use Rattle.ioc_journal.proofs.Basics.{not_both, not_true, one-there, later}
use Rattle.ioc_journal.proofs.Placing.{there-counted, few-of, some-live, live-once}

-- The numbers of the live puts with notification.

abbrev pub numbers : List Live → List ℕ
numbers ls = map (λ (l : Live). l.number) ls

pub number-there : (n : ℕ) (ls : List Live) → is_live n ls ≡ true → Contains (numbers ls) n
number-there n [] is = cc
number-there n (l ∷ ls) is = elim (eqb l.number n) as (λ b. eqb l.number n ≡ b → (b || is_live n ls) ≡ true → Contains (l.number ∷ numbers ls) n) [
  | true ↦ λ e _. (0, omega arith, eqb-true l.number n e)
  | false ↦ λ _ rest. later l.number (numbers ls) n (number-there n ls rest)
] refl is

pub entry-live : (ls : List Live) (l : Live) → Contains ls l → is_live l.number ls ≡ true
entry-live ls l c = some-live l.number ls (there-counted (λ (x : Live). x.number) ls l c)

same-number : {a b : ℕ} → Notify-reply a ≡ Notify-reply b → a ≡ b
same-number is = cc

module _ {R : Type 0} (k : RecordRules R) where
  -- After an event, the live puts with notification are among those before it and the one that it
  -- begins.

  among-few : (w : World R) → IsCounted k w → (ns : List ℕ) → ((n : ℕ) → is_live n w.live ≡ true → Contains ns n) → length w.live ≤ length ns
  among-few w counted ns among = few-of (λ (l : Live). l.number) ns w.live (live-once k w counted) (λ l c. among l.number (entry-live w.live l c))

  module _ (before after : World R) (counted : IsCounted k after) (few : length before.live ≤ 256) where
    none-begun : ((n : ℕ) → is_live n before.live ≡ false → is_live n after.live ≡ false) → length after.live ≤ 256
    none-begun fresh =
        let all = among-few after counted (numbers before.live) among in
        let same = length-map before.live (λ (l : Live). l.number) in
        omega (arith, all, same, few)
      where
        among : (n : ℕ) → is_live n after.live ≡ true → Contains (numbers before.live) n
        among n is = elim (is_live n before.live) as (λ b. is_live n before.live ≡ b → Contains (numbers before.live) n) [
          | true ↦ λ lives. number-there n before.live lives
          | false ↦ λ isnt. absurd (not_both is (fresh n isnt))
        ] refl

    one-begun : (b : ℕ) → length before.live < 256 → ((n : ℕ) → is_live n before.live ≡ false → Notify-reply b ≢ Notify-reply n → is_live n after.live ≡ false) → length after.live ≤ 256
    one-begun b place fresh =
        let all = among-few after counted (b ∷ numbers before.live) among in
        let same = length-map before.live (λ (l : Live). l.number) in
        omega (arith, all, same, place)
      where
        apart : (n : ℕ) → eqb b n ≡ false → Notify-reply b ≢ Notify-reply n
        apart n differ same = not_both (eq-eqb b n (same-number same)) differ

        among : (n : ℕ) → is_live n after.live ≡ true → Contains (b ∷ numbers before.live) n
        among n is = elim (eqb b n) as (λ c. eqb b n ≡ c → Contains (b ∷ numbers before.live) n) [
          | true ↦ λ e. (0, omega arith, eqb-true b n e)
          | false ↦ λ e. elim (is_live n before.live) as (λ c. is_live n before.live ≡ c → Contains (b ∷ numbers before.live) n) [
            | true ↦ λ lives. later b (numbers before.live) n (number-there n before.live lives)
            | false ↦ λ isnt. absurd (not_both is (fresh n isnt (apart n e)))
          ] refl
        ] refl

    by-reply : (reply : Reply) → ((n : ℕ) → reply ≡ Notify-reply n → length before.live < 256) → ((n : ℕ) → is_live n before.live ≡ false → reply ≢ Notify-reply n → is_live n after.live ≡ false) → length after.live ≤ 256
    by-reply (Notify-reply b) place fresh = one-begun b (place b refl) fresh
    by-reply Plain place fresh = none-begun (λ n isnt. fresh n isnt (λ is. cc))
    by-reply (Outcome-reply outcome) place fresh = none-begun (λ n isnt. fresh n isnt (λ is. cc))
    by-reply (Refused e) place fresh = none-begun (λ n isnt. fresh n isnt (λ is. cc))

    by-call : (made : Call) → ((n : ℕ) → Begins made n → length before.live < 256) → ((n : ℕ) → is_live n before.live ≡ false → (Begins made n → ⊥) → is_live n after.live ≡ false) → length after.live ≤ 256
    by-call (call.Event event reply) place fresh = by-reply reply place fresh
    by-call (call.Get s field text) place fresh = none-begun (λ n isnt. fresh n isnt (λ is. is))
    by-call (call.IsLive number live) place fresh = none-begun (λ n isnt. fresh n isnt (λ is. is))
    by-call (call.Link s field link reply) place fresh = none-begun (λ n isnt. fresh n isnt (λ is. is))
    by-call (call.Post name count) place fresh = none-begun (λ n isnt. fresh n isnt (λ is. is))
    by-call (call.Interrupt device count) place fresh = none-begun (λ n isnt. fresh n isnt (λ is. is))

  -- A call begins a put with notification only if there is a place for it.
  begins-place : (answers : Answers) {w after : World R} {made : Call} {requests : Requests} → Calls k answers w made after requests → (number : ℕ) → Begins made number → has_place w number ≡ true
  begins-place answers (does_event step) number is = (step-begins k answers number step is).place
  begins-place answers (shows_field _) number is = absurd is
  begins-place answers (tells_if_live _) number is = absurd is
  begins-place answers (keeps_its_link _) number is = absurd is
  begins-place answers (takes_link _) number is = absurd is
  begins-place answers posts_event number is = absurd is
  begins-place answers interrupts number is = absurd is

  -- The event of a note.

  module _ (laws : EventLaws k) (m : World R) (n : Note) (fits : Fits k m n) where
    abbrev next : World R
    next = (done k m n).world

    done-replay : Replay k m (entry_of n ∷ []) next
    unfolding done
    done-replay =
        let answers = listed (entry_of n).answers in
        let w = begun_at (entry_of n).moment m in
        let d = called k answers w (entry_of n).call in
        and_then (subst (λ (made : Call). Calls k answers w made d.world d.requests) (sym fits.reply) (laws.allowed answers w (entry_of n).call)) fits.used at_the_end

    -- A put with notification begins only if there is a place for it.
    place-before : (number : ℕ) → Begins (entry_of n).call number → length m.live < 256
    unfolding begun begun_at done
    place-before number is =
        let answers = listed (entry_of n).answers in
        let w = begun_at (entry_of n).moment m in
        let place = begins-place answers (laws.allowed answers w (entry_of n).call) number (subst (λ (made : Call). Begins made number) fits.reply is) in
        let room = ltb-true (length m.live + 0) 256 (and_parts _ _ place).0 in
        omega (arith, room)

    pub gone : (number : ℕ) → IsCounted k m → IsCounted k next → is_live number m.live ≡ false → (Begins (entry_of n).call number → ⊥) → is_live number next.live ≡ false
    gone number counted then isnt other =
        let over = laws.free m next number (entry_of n) [] done-replay counted (λ held. not_both ((laws.live m number counted).1 held) isnt)
        (λ e c. subst (λ (x : Entry). Begins x.call number → ⊥) (one-there (entry_of n) e c) other) in
        not_true (is_live number next.live) (λ is. over.not_held ((laws.live next number then).0 is))

    pub done-few : IsCounted k m → IsCounted k next → length m.live ≤ 256 → length next.live ≤ 256
    done-few counted then few = by-call m next then few (entry_of n).call (λ number is. place-before number is) (λ number isnt other. gone number counted then isnt other)
