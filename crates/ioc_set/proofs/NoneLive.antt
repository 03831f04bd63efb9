-- If no put with notification is live, none waits, and none begins by an event whose reply doesn't
-- report it.
use Rattle.std.proofs.Common.{◌≡◌, ◌≢◌, ℕ, true, false, List, map, [], ◌∷◌, get_or, refl, sym, ap, ◌∙◌, subst, arith}
use Rattle.std.specs.Prelude.{◌↔◌, Contains, ◌==◌, ◌||◌}
use Rattle.std.specs.List.{list_any}
use Rattle.std.proofs.lemmas.Bool.Decides.{nat_tests}
use Rattle.ioc_notify.specs.declared.live_numbers.Live.{Live}
use Rattle.ioc_notify.specs.declared.waiting_lists.Waiting.{Waiting}
use Rattle.ioc_notify.specs.Living.{is_live}
use Rattle.ioc_record.specs.RecordRules.{RecordRules}
use Rattle.ioc_store.specs.World.{World}
use Rattle.ioc_events.specs.declared.event.EventEntry.{EventEntry}
use Rattle.ioc_events.specs.declared.reply.Reply.TheVariants.{Notify as Notify-reply}
use Rattle.ioc_events.specs.EventReplay.{Replay as EventReplay, at_the_end, and_then}
use Rattle.ioc_events.specs.StepRules.{Replay, at_the_end as calls_end, and_then as calls_then, does_event}
use Rattle.ioc_events.specs.declared.event.Entry.{Entry}
use Rattle.ioc_events.specs.declared.event.Call.TheVariants as call
use Rattle.ioc_events.specs.Holding.{IsCounted, IsHeld, in_a_waiting_list, Begins, IsOver, NoneBegins}

itself : (n : ℕ) → (n == n) ≡ true
itself n = grind (arith, nat_tests)

first_live : (l : Live) (ls : List Live) → is_live l.number (l ∷ ls) ≡ true
first_live l ls = ap (λ b. b || list_any (λ (x : Live). x.number == l.number) ls) (itself l.number)

none_of : (ls : List Live) → ((n : ℕ) → is_live n ls ≡ true → ⊥) → ls ≡ []
none_of [] none = refl
none_of (l ∷ ls) none = absurd (none l.number (first_live l ls))

lone : (x y : Entry) → Contains (x ∷ []) y → x ≡ y
lone x y c = ap (λ i. slice_at i) (let l = c.1 in let z : 0 ≡ c.0 = omega arith in z) ∙ c.2
  where
    slice_at : ℕ → Entry
    slice_at i = get_or (x ∷ []) i y

-- An event's entry as that of a call.
abbrev call_entry : EventEntry → Entry
call_entry e = record { moment = e.moment; call = call.Event e.event e.reply; answers = e.answers }

as_calls : {R : Type 0} (k : RecordRules R) {w after : World R} {entries : List EventEntry} → EventReplay k w entries after → Replay k w (map call_entry entries) after
as_calls k at_the_end = calls_end
as_calls k (and_then step used rest) = calls_then (does_event step) used (as_calls k rest)

module _ {R : Type 0} (k : RecordRules R)
    (live : (w : World R) (n : ℕ) → IsCounted k w → (is_live n w.live ≡ true) ↔ IsHeld k w n)
    (counted : (w after : World R) (entries : List Entry) → Replay k w entries after → IsCounted k w → IsCounted k after)
    (over : (w after : World R) (number : ℕ) (entry : Entry) (entries : List Entry) → Replay k w (entry ∷ entries) after → IsCounted k w → (IsHeld k w number → ⊥) → NoneBegins (entry ∷ entries) number → IsOver k after number) where
  none_waits : (w : World R) (ws : List Waiting) → w.waiting ≡ ws → ((n : ℕ) → IsHeld k w n → ⊥) → ws ≡ []
  none_waits w [] e none = refl
  none_waits w (x ∷ ws) e none = absurd (none x.number (in_a_waiting_list x (subst (λ (l : List Waiting). Contains l x) (sym e) (0, omega arith, refl))))

  pub stays_so : (w after : World R) (entry : EventEntry) → EventReplay k w (entry ∷ []) after → IsCounted k w → w.live ≡ [] → ((n : ℕ) → entry.reply ≢ Notify-reply n) → (after.live ≡ []) × (after.waiting ≡ [])
  stays_so w after entry replay before none begins =
      let nobody : (n : ℕ) → IsHeld k w n → ⊥ = λ n held. let h : false ≡ true = sym (ap (is_live n) none) ∙ (live w n before).1 held in absurd (let z : false ≡ true = h in cc) in
      let one = call_entry entry in
      let calls = as_calls k replay in
      let begun : (n : ℕ) → NoneBegins (one ∷ []) n = λ n x c. subst (λ (z : Entry). Begins z.call n → ⊥) (lone one x c) (begins n) in
      let gone : (n : ℕ) → IsHeld k after n → ⊥ = λ n. (over w after n one [] calls before (nobody n) (begun n)).not_held in
      let now = counted w after (one ∷ []) calls before in
      (none_of after.live (λ n is. gone n ((live after n now).0 is)), none_waits after after.waiting refl gone)
