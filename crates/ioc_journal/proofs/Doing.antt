-- An event of held records is the same event of all.
use Rattle.std.proofs.Common.{◌≡◌, ℕ, ◌+◌, Bool, true, false, length, List, [], ◌∷◌, Option, Some, refl, sym, ap, subst, ◌∙◌, arith}
use Rattle.std.specs.Prelude.{is_some, unwrap_or, Contains}
use Rattle.std.specs.FinMap.{get, contains_key}
use Rattle.ioc_notify.specs.declared.live_numbers.Live.{Live}
use Rattle.ioc_notify.specs.declared.waiting_lists.Waiting.{Waiting}
use Rattle.ioc_notify.specs.Waits.{at_record}
use Rattle.ioc_record.specs.RecordRules.{RecordRules, targets}
use Rattle.ioc_record.specs.Laws.{IsLawful}
use Rattle.ioc_store.specs.World.{World, Has, IsClosed, at, begun, begun_at}
use Rattle.ioc_store.specs.Given.{listed, answers_of}
use Rattle.ioc_events.specs.declared.event.Call.{Call}
use Rattle.ioc_events.specs.declared.event.Call.TheVariants as call
use Rattle.ioc_events.specs.declared.event.Event.TheVariants.{Process, Put, Complete, Notify, Cancel}
use Rattle.ioc_events.specs.Beside.{Shut}
use Rattle.ioc_events.specs.declared.reply.Reply.{Reply}
use Rattle.ioc_events.specs.Holding.{IsCounted, Cancels, holders}
use Rattle.ioc_events.specs.Local.{Alike, KeepsApart, IsWithin, IsCallWithin, AgreeCall}
use Rattle.ioc_events.specs.Starting.{NoneReady, is_ready}
use Rattle.ioc_events.specs.Calls.{called, named as named_by_call}
use Rattle.ioc_events.specs.StepRules.{KeepsRecords}
use Rattle.ioc_journal.specs.declared.entry.Note.{Note}
use Rattle.ioc_journal.specs.Legal.{entry_of, done, map_of, Fits, IsLegal, IsSound}
use Rattle.ioc_journal.specs.Covering.{Holds, IsDone, IsOf, CancelsWithin}
use Rattle.ioc_journal.specs.EventLaws.{EventLaws}
use Rattle.ioc_journal.specs.Laws.{OneMore, HoldersMove, MovesAlike, BeginsSound, StaysSound}
use Rattle.ioc_journal.proofs.Basics.{not_both, not_true, same_option, is-none, waits-too, missing-named}
use Rattle.ioc_journal.proofs.Lists.{goes-on, map-join}
use Rattle.ioc_journal.proofs.LiveFew.{done-few}
use Rattle.ioc_journal.proofs.Summing.{point, same-point, holders-moved}

module _ {R : Type 0} (k : RecordRules R) where
  -- The beginning of an event.

  pub begun-counted : (moment : ℕ) (m : World R) → IsCounted k m → IsCounted k (begun_at moment m)
  unfolding at begun begun_at holders
  begun-counted moment m counted = record {
    closed = record { closed = counted.closed.closed };
    few = counted.few;
    counted = record { counted = counted.counted.counted; live = counted.counted.live; waits_once = counted.counted.waits_once };
  }

  begun-none : (moment : ℕ) (m : World R) → NoneReady k m → NoneReady k (begun_at moment m)
  unfolding at begun begun_at is_ready
  begun-none moment m none = record { none = none.none }

  begun-closed : (moment : ℕ) (v : World R) → IsClosed k v → IsClosed k (begun_at moment v)
  unfolding at begun begun_at
  begun-closed moment v closed = record { closed = closed.closed }

  -- A sound world stays sound.

  module _ (laws : EventLaws k) where
    pub done-counted : (m : World R) (n : Note) → IsCounted k m → IsCounted k (done k m n).world
    unfolding done
    done-counted m n counted =
        let answers = listed (entry_of n).answers in
        let w = begun_at (entry_of n).moment m in
        let event = (entry_of n).call in
        let d = called k answers w event in
        laws.counted answers w d.world d.call d.requests (laws.allowed answers w event) (begun-counted (entry_of n).moment m counted)

    done-none : (m : World R) (n : Note) → NoneReady k m → NoneReady k (done k m n).world
    unfolding done
    done-none m n none =
        let answers = listed (entry_of n).answers in
        let w = begun_at (entry_of n).moment m in
        let event = (entry_of n).call in
        let d = called k answers w event in
        laws.none_ready answers w d.world d.call d.requests (laws.allowed answers w event) (begun-none (entry_of n).moment m none)

    done-sound : (m : World R) (n : Note) → IsSound k m → Fits k m n → IsSound k (done k m n).world
    done-sound m n sound fits = record {
      counted = done-counted m n sound.counted;
      none_ready = done-none m n sound.none_ready;
      few = done-few k laws m n fits sound.counted (done-counted m n sound.counted) sound.few;
    }

    pub sound-on : (notes : List Note) (m : World R) → IsSound k m → IsLegal k m notes → IsSound k (map_of k m notes)
    sound-on [] m sound legal = sound
    sound-on (n ∷ notes) m sound legal = sound-on notes (done k m n).world (done-sound m n sound legal.0) legal.1

    done-kept : (v : World R) (n : Note) → IsClosed k v → KeepsRecords v (done k v n).world
    unfolding begun begun_at done
    done-kept v n closed =
        let answers = listed (entry_of n).answers in
        let w = begun_at (entry_of n).moment v in
        let event = (entry_of n).call in
        let d = called k answers w event in
        let kept = laws.kept answers w d.world d.call d.requests (laws.allowed answers w event) (begun-closed (entry_of n).moment v closed) in
        record { has = kept.has; only = kept.only; count = kept.count }

  -- A held part `v` of all records `m`.

  module _ (lawful : IsLawful k) (laws : EventLaws k) (m v : World R) (n : Note) (sound : IsSound k m) (holds : Holds k m v) (of : IsOf k m v n) where
    abbrev mine : ℕ → Bool
    mine = λ r. contains_key v.records r

    abbrev first : World R
    first = begun_at (entry_of n).moment v

    abbrev second : World R
    second = begun_at (entry_of n).moment m

    shut : Shut k mine first
    unfolding at begun begun_at
    shut = record { shut = λ r target u c. holds.shut.closed r target c }

    alike : Alike k mine first second
    unfolding at begun begun_at
    alike = record {
      same = record {
        moment = refl;
        calls = refl;
        outbox = refl;
        dropped = refl;
        waiting = λ r u. sym (holds.waiting r u);
        records = λ r u. ap (λ (o : Option R). unwrap_or o k.missing) (sym (holds.records r u));
      };
      there = λ r u. ap (λ (o : Option R). is_some o) (sym (holds.records r u));
    }

    own-apart : KeepsApart k mine first
    unfolding begun begun_at
    own-apart = record {
      none_ready = λ x waits out. absurd (not_both (holds.within x waits) out);
      numbers = λ x y waits other_waits may out. absurd (not_both (holds.within y other_waits) out);
    }

    own-within : (made : Call) → ((r : ℕ) → Contains (named_by_call made) r → Has v r) → IsCallWithin k mine first made
    unfolding at begun begun_at
    own-within (call.Event event reply) named = record {
      named = named;
      waiting = λ x waits out. absurd (not_both (holds.within x waits) out);
      holders = λ number r is there has. there;
    }
    own-within (call.Get s field text) named = named
    own-within (call.IsLive number live) named = named
    own-within (call.Link s field link reply) named = named
    own-within (call.Post name count) named = named
    own-within (call.Interrupt device count) named = named

    cancel-within : (number : ℕ) (reply : Reply) → CancelsWithin k m v (call.Event (Cancel number) reply) → IsWithin k mine second (Cancel number)
    unfolding at begun begun_at
    cancel-within number reply within = record {
      named = λ r c. absurd (omega (arith, c.1));
      waiting = λ x waits out is. not_both (within.1 x waits (same_number is)) out;
      holders = λ other r is there has. within.0 r there (has ∙ ap Some (sym (same_cancel is)));
    }
      where
        same_number : {a b : ℕ} → Some a ≡ Some b → b ≡ a
        same_number is = cc

        same_cancel : {a b : ℕ} → Cancel a ≡ Cancel b → a ≡ b
        same_cancel is = cc

    other-within : (made : Call) → ((r : ℕ) → Contains (named_by_call made) r → Has v r) → ((number : ℕ) → Cancels made number → ⊥) → IsCallWithin k mine second made
    other-within made named not_cancel = laws.within mine second made (begun-counted (entry_of n).moment m sound.counted) named not_cancel

    all-within : (made : Call) → ((r : ℕ) → Contains (named_by_call made) r → Has v r) → CancelsWithin k m v made → IsCallWithin k mine second made
    all-within (call.Event (Cancel number) reply) named cancels = cancel-within number reply cancels
    all-within (call.Event (Process s) reply) named cancels = other-within (call.Event (Process s) reply) named (λ number is. cc)
    all-within (call.Event (Put s field given) reply) named cancels = other-within (call.Event (Put s field given) reply) named (λ number is. cc)
    all-within (call.Event (Complete s number x) reply) named cancels = other-within (call.Event (Complete s number x) reply) named (λ number is. cc)
    all-within (call.Event (Notify s number field given) reply) named cancels = other-within (call.Event (Notify s number field given) reply) named (λ number is. cc)
    all-within (call.Get s field text) named cancels = other-within (call.Get s field text) named (λ number is. is)
    all-within (call.Link s field link reply) named cancels = other-within (call.Link s field link reply) named (λ number is. is)
    all-within (call.IsLive number live) named cancels = other-within (call.IsLive number live) named (λ number is. is)
    all-within (call.Post name count) named cancels = other-within (call.Post name count) named (λ number is. is)
    all-within (call.Interrupt device count) named cancels = other-within (call.Interrupt device count) named (λ number is. is)

    pub agree : AgreeCall k mine first second (done k v n) (done k m n)
    unfolding done
    agree =
        laws.local mine (listed (entry_of n).answers) first second (entry_of n).call shut alike own-apart
        (laws.apart mine second (begun-counted (entry_of n).moment m sound.counted) (begun-none (entry_of n).moment m sound.none_ready))
        (own-within (entry_of n).call of.named) (all-within (entry_of n).call of.named of.cancels) of.asks

    outside : (r : ℕ) → (Has v r → ⊥) → contains_key v.records r ≡ false
    outside r out = not_true (contains_key v.records r) out

    -- A record outside `v` and its waiting list are unchanged.
    pub same-outside : (r : ℕ) → (Has v r → ⊥) → get (done k m n).world.records r ≡ get m.records r
    unfolding at begun begun_at
    same-outside r out =
        same_option k.missing (get (done k m n).world.records r) (get m.records r)
        (agree.other_spares.there r (outside r out)) (agree.other_spares.spared r (outside r out))

    pub at-outside : (r : ℕ) → (Has v r → ⊥) → at k (done k m n).world r ≡ at k m r
    unfolding at
    at-outside r out = ap (λ (o : Option R). unwrap_or o k.missing) (same-outside r out)

    pub waiting-outside : (r : ℕ) → (Has v r → ⊥) → at_record r (done k m n).world.waiting ≡ at_record r m.waiting
    unfolding begun begun_at
    waiting-outside r out = agree.other_spares.waiting r (outside r out)

    own-waiting-outside : (r : ℕ) → (Has v r → ⊥) → at_record r (done k v n).world.waiting ≡ at_record r v.waiting
    unfolding begun begun_at
    own-waiting-outside r out = agree.spares.waiting r (outside r out)

    -- A record of `v` is the same after the event in both worlds, and leads to records of `v`.
    same-inside : (r : ℕ) → Has v r → get (done k m n).world.records r ≡ get (done k v n).world.records r
    unfolding at
    same-inside r there =
        same_option k.missing (get (done k m n).world.records r) (get (done k v n).world.records r)
        (sym (agree.alike.there r there)) (sym (agree.alike.same.records r there))

    targets-inside : (a r : ℕ) → Has v a → Contains (targets k (at k (done k m n).world a)) r → Has v r
    targets-inside a r there named = agree.shut.shut a r there (subst (λ (x : R). Contains (targets k x) r) (sym (agree.alike.same.records a there)) named)

    -- No new link leads to a record outside `v`.
    named-outside : (r : ℕ) → (Has v r → ⊥) → (a : ℕ) → Contains (targets k (at k (done k m n).world a)) r → Contains (targets k (at k m a)) r
    named-outside r out a named =
        elim (contains_key v.records a) as (λ b. contains_key v.records a ≡ b → Contains (targets k (at k m a)) r) [
          | true ↦ λ there. absurd (out (targets-inside a r there named))
          | false ↦ λ isnt. subst (λ (x : R). Contains (targets k x) r) (at-outside a (λ there. not_both there isnt)) named
        ] refl

    pub kept : KeepsRecords v (done k v n).world
    kept = done-kept laws v n holds.shut

    -- At each record the count of a put with notification changes alike: at a record of `v` as in
    -- `v`, and elsewhere not at all.
    points-move : (number q : ℕ) → point k number (done k m n).world q + point k number v q ≡ point k number m q + point k number (done k v n).world q
    points-move number q =
        elim (contains_key v.records q) as (λ b. contains_key v.records q ≡ b → point k number (done k m n).world q + point k number v q ≡ point k number m q + point k number (done k v n).world q) [
          | true ↦ λ there.
              let after = same-point k number q (done k m n).world (done k v n).world (same-inside q there) (sym (agree.alike.same.waiting q there)) in
              let before = same-point k number q m v (holds.records q there) (holds.waiting q there) in
              omega (arith, after, before)
          | false ↦ λ isnt.
              let out : Has v q → ⊥ = λ there. not_both there isnt in
              let none : get (done k v n).world.records q ≡ get v.records q = is-none (get (done k v n).world.records q) (λ has. out (kept.only q has)) ∙ sym (is-none (get v.records q) out) in
              let all = same-point k number q (done k m n).world m (same-outside q out) (waiting-outside q out) in
              let own = same-point k number q (done k v n).world v none (own-waiting-outside q out) in
              omega (arith, all, own)
        ] refl

    pub done-moves : MovesAlike k m (done k m n).world v (done k v n).world
    done-moves = record {
      held = moved;
      of_all = λ number.
          let before = sound.counted.counted.counted number in
          let after = (done-counted laws m n sound.counted).counted.counted number in
          omega (arith, moved number, before, after);
      live = λ counted number.
          let before = sound.counted.counted.counted number in
          let after = (done-counted laws m n sound.counted).counted.counted number in
          let own_before = counted.counted.counted number in
          let own_after = (done-counted laws v n counted).counted.counted number in
          omega (arith, moved number, before, after, own_before, own_after);
    }
      where
        moved : (number : ℕ) → holders k (done k m n).world number + holders k v number ≡ holders k m number + holders k (done k v n).world number
        moved number = holders-moved k number (done k m n).world v m (done k v n).world (λ q. points-move number q)

    pub event-fits : (w : World R) → IsDone k v n w → Fits k m n
    event-fits w is = record {
      reply = sym is.reply ∙ agree.call;
      used = sym (ap answers_of agree.alike.same.calls) ∙ is.used;
      untouched = λ r out. record {
        same = same-outside r (λ there. out (of.covers r there));
        waiting = waiting-outside r (λ there. out (of.covers r there));
        named = named-outside r (λ there. out (of.covers r there));
      };
      live = λ out number.
          let moved = done-moves.held number in
          let before = sound.counted.counted.counted number in
          let after = (done-counted laws m n sound.counted).counted.counted number in
          let same = of.live out number in
          omega (arith, moved, before, after, same);
    }

    done-within : (x : Waiting) → Contains (done k v n).world.waiting x → Has (done k v n).world x.target
    done-within x waits =
        elim (contains_key v.records x.target) as (λ b. contains_key v.records x.target ≡ b → Has (done k v n).world x.target) [
          | true ↦ λ there. kept.has x.target there
          | false ↦ λ isnt. absurd (not_both (holds.within x (waits-too (done k v n).world.waiting v.waiting x (own-waiting-outside x.target (λ there. not_both there isnt)) waits)) isnt)
        ] refl

    done-shut : (r target : ℕ) → Contains (targets k (at k (done k v n).world r)) target → Has (done k v n).world target
    done-shut r target named =
        elim (contains_key (done k v n).world.records r) as (λ b. contains_key (done k v n).world.records r ≡ b → Has (done k v n).world target) [
          | true ↦ λ there. kept.has target (agree.shut.shut r target (kept.only r there) named)
          | false ↦ λ isnt. absurd (missing-named k lawful (done k v n).world r target isnt named)
        ] refl

    pub done-held : Holds k (done k m n).world (done k v n).world
    done-held = record {
      records = λ r there. same-inside r (kept.only r there);
      waiting = λ r there. sym (agree.alike.same.waiting r (kept.only r there));
      within = done-within;
      shut = record { closed = done-shut };
      apart = λ a r out there named.
          let not_there : Has v a → ⊥ = λ has. out (kept.has a has) in
          holds.apart a r not_there (kept.only r there) (subst (λ (x : R). Contains (targets k x) r) (at-outside a not_there) named);
    }

module _ {R : Type 0} (k : RecordRules R) (lawful : IsLawful k) (laws : EventLaws k) where
  pub holders-move : HoldersMove k
  holders-move base v w log n sound legal holds of is =
      let m = map_of k base log in
      let moves = done-moves k lawful laws m v n (sound-on k laws log base sound legal) holds of in
      subst (λ (x : World R). MovesAlike k m x v w) (sym (map-join k log (n ∷ []) base)) (subst (λ (x : World R). MovesAlike k m (done k m n).world v x) is.world moves)

  pub one-more : OneMore k
  one-more base v w log n sound legal holds of is =
      let m = map_of k base log in
      let known = sound-on k laws log base sound legal in
      goes-on k base log n (λ (m : World R). Holds k m w) legal (event-fits k lawful laws m v n known holds of w is)
      (subst (λ (x : World R). Holds k (done k m n).world x) is.world (done-held k lawful laws m v n known holds of))

  kept-on : (notes : List Note) (m : World R) → IsCounted k m → KeepsRecords m (map_of k m notes)
  kept-on [] m counted = record { has = λ n h. h; only = λ n h. h; count = refl }
  kept-on (n ∷ notes) m counted =
      let first = done-kept k laws m n counted.closed in
      let rest = kept-on notes (done k m n).world (done-counted k laws m n counted) in
      record { has = λ r h. rest.has r (first.has r h); only = λ r h. first.only r (rest.only r h); count = rest.count ∙ first.count }

  pub counted-on : (notes : List Note) (m : World R) → IsCounted k m → IsCounted k (map_of k m notes)
  counted-on [] m counted = counted
  counted-on (n ∷ notes) m counted = counted-on notes (done k m n).world (done-counted k laws m n counted)

  none-on : (notes : List Note) (m : World R) → NoneReady k m → NoneReady k (map_of k m notes)
  none-on [] m none = none
  none-on (n ∷ notes) m none = none-on notes (done k m n).world (done-none k laws m n none)

  pub stays-sound : StaysSound k
  stays-sound base log sound = (λ legal. sound-on k laws log base sound legal, kept-on log base sound.counted, counted-on log base sound.counted, none-on log base sound.none_ready)

module _ {R : Type 0} (k : RecordRules R) (laws : EventLaws k) where
  pub begins-sound : BeginsSound k
  begins-sound w closed few live waiting held = record {
    counted = laws.first w closed few live waiting held;
    none_ready = record { none = λ x c. absurd (nobody x (subst (λ (l : List Waiting). Contains l x) waiting c)) };
    few = let none = ap (λ (ls : List Live). length ls) live in omega (arith, none);
  }
    where
      nobody : (x : Waiting) → Contains {X = Waiting} [] x → ⊥
      nobody x c = absurd (omega (arith, c.1))
