-- A put with notification ends if and only if nothing is part of it any more.
use Rattle.std.proofs.Common.{◌<◌, ◌^◌, ◌≡◌, ◌≢◌, ℕ, zero, suc, ◌+◌, ◌≤◌, true, false, cond, eqb, nat_lt, List, [], ◌∷◌, Option, Some, None as Nothing_, Ok, Err, T, is_some, IsTrue, unwrap_or, refl, sym, ap, subst, ◌∙◌, ◌⊎◌, inl, inr, ⊎_elim, arith}
use Rattle.std.specs.Prelude.{◌↔◌, Contains}
use Rattle.std.specs.Ordering.{nat_cmp}
use Rattle.std.specs.Cmp.{unsigned_tied}
use Rattle.std.specs.FinMap.{get, len, get-entries, entries, entries_sorted, find}
use Rattle.std.specs.FinMap.Entries.{is_sorted, below_all}
use Rattle.std.proofs.lemmas.Bool.{eqb-true, eq-eqb, ne_eqb, ltb-true, ltb-false}
use Rattle.ioc_ledger.specs.Requests.{Requests}
use Rattle.ioc_notify.specs.Living.{is_live, holders_of}
use Rattle.ioc_notify.specs.declared.waiting_lists.Waiting.{Waiting}
use Rattle.ioc_record.specs.RecordRules.{RecordRules}
use Rattle.ioc_record.specs.Laws.{IsLawful}
use Rattle.ioc_store.specs.World.{World, Has, IsClosed, common_at, at, total, is_notification, begun, begun_at}
use Rattle.ioc_store.specs.Weights.{first, second}
use Rattle.ioc_store.specs.Given.{Answers, listed}
use Rattle.ioc_events.specs.declared.event.Event.{Event}
use Rattle.ioc_events.specs.declared.event.Event.TheVariants.{Cancel}
use Rattle.ioc_events.specs.declared.event.Entry.{Entry}
use Rattle.ioc_events.specs.declared.reply.Reply.{Reply}
use Rattle.ioc_events.specs.declared.reply.Reply.TheVariants.{Plain, Notify as Notify-reply}
use Rattle.ioc_events.specs.StepRules.{Step, Calls, does_event, shows_field, tells_if_live, keeps_its_link, takes_link, posts_event, interrupts, Replay, at_the_end, and_then}
use Rattle.ioc_events.specs.declared.event.Call.{Call}
use Rattle.ioc_events.specs.declared.event.Call.TheVariants as call
use Rattle.ioc_fields.specs.declared.field_no.FieldNo.{FieldNo}
use Rattle.ioc_dbcommon.specs.declared.link_field.LinkField.{LinkField}
use Rattle.ioc_events.specs.Step.{link_refusal, relinked}
use Rattle.ioc_events.proofs.LinkChanges.{link-parts}
use Rattle.ioc_events.specs.Holding.{how_many, one_if_has, holders, IsCounted, IsHeld, by_a_record, in_a_waiting_list, Begins, Cancels, EndsExactly, IsOver, NoneBegins}
use Rattle.ioc_events.proofs.Counting.{few-one, live-lives, lives, one_if, some_more}
use Rattle.ioc_events.proofs.Holders.{ends, stands, holds-some}
use Rattle.ioc_events.proofs.HeldStarts.{waiters, waiters-some, Sound, Leads}
use Rattle.ioc_events.proofs.Sums.{find-none}
use Rattle.ioc_events.proofs.HeldSteps.{begins, ceases, live-few, step-leads, step-cancelled, link-leads}

-- An item that is counted is in the list.

pub counted-there : {A : Type 0} (number : A → ℕ) (n : ℕ) (xs : List A) → 1 ≤ how_many number n xs → (x : A) × Contains xs x × (number x ≡ n)
counted-there number n [] some = absurd (omega arith)
counted-there number n (x ∷ xs) some =
    elim (eqb (number x) n) as (λ b. eqb (number x) n ≡ b → 1 ≤ cond b (1 + how_many number n xs) (how_many number n xs) → (y : _) × Contains (x ∷ xs) y × (number y ≡ n)) [
      | true ↦ λ e _. (x, (0, omega arith, refl), eqb-true (number x) n e)
      | false ↦ λ _ rest. let i = counted-there number n xs rest in (i.0, (suc i.1.0, omega (arith, i.1.1), i.1.2), i.2)
    ] refl some

pub there-counted : {A : Type 0} (number : A → ℕ) (xs : List A) (x : A) → Contains xs x → 1 ≤ how_many number (number x) xs
there-counted number [] x (i, lt, is) = absurd (omega arith)
there-counted number (y ∷ xs) x (zero, lt, is) = rw (eq-eqb (number y) (number x) (ap number is)) (omega arith)
there-counted number (y ∷ xs) x (suc i, lt, is) =
    let rest = there-counted number xs x (i, omega arith, is) in
    elim (eqb (number y) (number x)) as (λ b. 1 ≤ cond b (1 + how_many number (number x) xs) (how_many number (number x) xs)) [
      | true ↦ omega arith
      | false ↦ rest
    ]

none-some : {X : Type 0} {x : X} → Nothing_ ≡ Some x → ⊥
none-some is = cc

-- A sum that isn't zero has an item that isn't zero.
total-found : {X : Type 0} (weight : X → ℕ) (es : List (ℕ × X)) → T (is_sorted nat_cmp es) → 1 ≤ total weight es → (n : ℕ) × (r : X) × (find nat_cmp n es ≡ Some r) × (1 ≤ weight r)
total-found weight [] sorted some = absurd (omega arith)
total-found weight (e ∷ es) sorted some =
    elim (nat_lt 0 (weight e.1)) as (λ b. nat_lt 0 (weight e.1) ≡ b → (n : ℕ) × (r : _) × (find nat_cmp n (e ∷ es) ≡ Some r) × (1 ≤ weight r)) [
      | true ↦ λ is. (e.0, e.1, rw (unsigned_tied e.0 e.0, eq-eqb e.0 e.0 refl) refl, ltb-true 0 (weight e.1) is)
      | false ↦ λ isnt.
          let none = ltb-false 0 (weight e.1) isnt in
          let later = total-found weight es (second (below_all nat_cmp e.0 es) (is_sorted nat_cmp es) sorted) (omega arith) in
          let apart : later.0 ≢ e.0 = λ same. absurd (let gone : find nat_cmp later.0 es ≡ Nothing_ = ap (λ q. find nat_cmp q es) same ∙ find-none e.0 es (first (below_all nat_cmp e.0 es) (is_sorted nat_cmp es) sorted) in none-some (sym gone ∙ later.2)) in
          (later.0, later.1, rw (unsigned_tied later.0 e.0, ne_eqb later.0 e.0 apart) later.2, later.3)
    ] refl

has-it : (n : ℕ) (o : Option ℕ) → 1 ≤ one_if (is_notification n o) → o ≡ Some n
has-it n Nothing_ some = absurd (omega arith)
has-it n (Some held) some = elim (eqb held n) as (λ b. eqb held n ≡ b → 1 ≤ one_if b → Some held ≡ Some n) [
  | true ↦ λ is _. ap Some (eqb-true held n is)
  | false ↦ λ _ none. absurd (omega arith)
] refl some

found-there : {R : Type 0} (o : Option R) (r missing : R) → o ≡ Some r → IsTrue (is_some o) × (unwrap_or o missing ≡ r)
found-there Nothing_ r missing is = cc
found-there (Some q) r missing is = (refl, cc)

begins-is : (reply : Reply) (n : ℕ) → 1 ≤ begins reply n → reply ≡ Notify-reply n
begins-is (Notify-reply m) n some = elim (eqb m n) as (λ b. eqb m n ≡ b → 1 ≤ one_if b → Notify-reply m ≡ Notify-reply n) [
  | true ↦ λ is _. ap Notify-reply (eqb-true m n is)
  | false ↦ λ _ none. absurd (omega arith)
] refl some
begins-is reply n some = absurd (omega arith)

begins-one : (reply : Reply) (n : ℕ) → reply ≡ Notify-reply n → begins reply n ≡ 1
begins-one reply n is = ap (λ (r : Reply). begins r n) is ∙ ap one_if (eq-eqb n n refl)

ceases-none : (event : Event) (reply : Reply) (n : ℕ) → event ≢ Cancel n → ceases event reply n ≡ 0
ceases-none (Cancel m) Plain n other = ap one_if (ne_eqb m n (λ e. other (ap Cancel e)))
ceases-none (Cancel m) reply n other = refl
ceases-none event reply n other = refl

module _ {R : Type 0} (k : RecordRules R) (lawful : IsLawful k) where
  record-found : (w : World R) (n : ℕ) → 1 ≤ total (one_if_has k n) (entries w.records) → IsHeld k w n
  unfolding at
  record-found w n some =
      let found = total-found (one_if_has k n) (entries w.records) (entries_sorted w.records) some in
      let there = found-there (get w.records found.0) found.1 k.missing (get-entries w.records found.0 ∙ found.2) in
      by_a_record found.0 there.0 (ap (λ (r : R). (k.common r).notification) there.1 ∙ has-it n (k.common found.1).notification found.3)

  waiting-found : (w : World R) (n : ℕ) → 1 ≤ waiters n w.waiting → IsHeld k w n
  waiting-found w n some =
      let found = counted-there (λ (x : Waiting). x.number) n w.waiting some in
      subst (IsHeld k w) found.2 (in_a_waiting_list found.0 found.1)

  -- One with a count is held, and one that is held has a count.
  pub counted-held : (w : World R) (n : ℕ) → 1 ≤ holders k w n → IsHeld k w n
  unfolding holders
  counted-held w n some =
      elim (nat_lt 0 (waiters n w.waiting)) as (λ b. nat_lt 0 (waiters n w.waiting) ≡ b → IsHeld k w n) [
        | true ↦ λ is. waiting-found w n (ltb-true 0 _ is)
        | false ↦ λ isnt. let none = ltb-false 0 (waiters n w.waiting) isnt in record-found w n (omega arith)
      ] refl

  waits-counted : (w : World R) (x : Waiting) → Contains w.waiting x → 1 ≤ holders k w x.number
  unfolding holders
  waits-counted w x h = omega (arith, waiters-some w.waiting x h)

  pub held-counted : {w : World R} {n : ℕ} → IsHeld k w n → 1 ≤ holders k w n
  held-counted (by_a_record {w} {n} s there has) = holds-some k lawful w s n there has
  held-counted (in_a_waiting_list {w} x h) = waits-counted w x h

  none-held : {w : World R} {n : ℕ} → IsHeld k w n → w.waiting ≡ [] → ((s : ℕ) → Has w s → (common_at k w s).notification ≡ Nothing_) → ⊥
  none-held (by_a_record s there has) waiting none = none-some (sym (none s there) ∙ has)
  none-held (in_a_waiting_list {w} x h) waiting none = let gone : Contains {X = Waiting} [] x = subst (λ (xs : List Waiting). Contains xs x) waiting h in absurd (omega (arith, gone.1))

  -- Lemmas about worlds between events.

  pub sound-of : {w : World R} → IsCounted k w → Sound k lawful w
  sound-of is = record { closed = is.closed; few = is.few; counts = record { counted = is.counted.counted; live = is.counted.live }; once = is.counted.waits_once }

  pub of-sound : {w : World R} → Sound k lawful w → IsCounted k w
  of-sound sound = record { closed = sound.closed; few = sound.few; counted = record { counted = sound.counts.counted; live = sound.counts.live; waits_once = sound.once } }

  pub step-counted : (answers : Answers) {w w' : World R} {event : Event} {reply : Reply} {requests : Requests} → Step k answers w event w' reply requests → IsCounted k w → IsCounted k w'
  step-counted answers step is = of-sound (step-leads k lawful answers step (sound-of is)).sound

  begun-counted : (moment : ℕ) (w : World R) → IsCounted k w → IsCounted k (begun_at moment w)
  unfolding at holders begun begun_at
  begun-counted moment w is = record {
    closed = record { closed = λ n target h. is.closed.closed n target h };
    few = is.few;
    counted = record { counted = is.counted.counted; live = is.counted.live; waits_once = is.counted.waits_once };
  }

  begun-ended : (moment : ℕ) (w : World R) → ((begun_at moment w).ended ≡ []) × ((begun_at moment w).live ≡ w.live)
  unfolding begun begun_at
  begun-ended moment w = (refl, refl)

  -- A link change that is done.
  link-led : (w : World R) (s : ℕ) (field : FieldNo) (link : LinkField) → link_refusal k w s field link ≡ Nothing_ → IsCounted k w → Leads k lawful w (relinked k w s field link)
  link-led w s field link kept is = let parts = link-parts k w s field link kept in link-leads k lawful w s field link parts.0 parts.1 (sound-of is)

  pub calls-counted : (answers : Answers) {w w' : World R} {c : Call} {requests : Requests} → Calls k answers w c w' requests → IsCounted k w → IsCounted k w'
  calls-counted answers (does_event step) is = step-counted answers step is
  calls-counted answers (shows_field _) is = is
  calls-counted answers (tells_if_live _) is = is
  calls-counted answers (keeps_its_link _) is = is
  calls-counted answers (takes_link {w} {s} {field} {link} kept) is = of-sound (link-led w s field link kept is).sound
  calls-counted answers posts_event is = is
  calls-counted answers interrupts is = is

  pub replay-counted : {w w' : World R} {entries : List Entry} → Replay k w entries w' → IsCounted k w → IsCounted k w'
  replay-counted at_the_end is = is
  replay-counted (and_then {w} {w'} {w''} {entry} {entries} step _ rest) is = replay-counted rest (calls-counted (listed entry.answers) step (begun-counted entry.moment w is))

  -- If there is no put with notification, none is counted.
  pub first-counted : (w : World R) → IsClosed k w → len w.records < 2 ^ 63 → w.live ≡ [] → w.waiting ≡ [] → ((n : ℕ) → Has w n → (common_at k w n).notification ≡ Nothing_) → IsCounted k w
  first-counted w closed few live waiting none =
      let nobody : (n : ℕ) → IsHeld k w n → ⊥ = λ n held. none-held held waiting none in
      let zero_ : (n : ℕ) → holders k w n ≡ 0 = λ n. elim (nat_lt 0 (holders k w n)) as (λ b. nat_lt 0 (holders k w n) ≡ b → holders k w n ≡ 0) [
        | true ↦ λ is. absurd (nobody n (counted-held w n (ltb-true 0 _ is)))
        | false ↦ λ isnt. let most = ltb-false 0 (holders k w n) isnt in omega arith
      ] refl in
      record {
        closed = closed;
        few = few;
        counted = record {
          counted = λ n. ap (holders_of n) live ∙ sym (zero_ n);
          live = λ n. ap (lives n) live ∙ sym (ap (λ (x : ℕ). one_if (nat_lt 0 x)) (zero_ n));
          waits_once = λ n. let none_waits : waiters n w.waiting ≡ 0 = ap (waiters n) waiting in omega arith;
        };
      }

  -- Lemmas about the end of one.

  live-held : (w : World R) → Sound k lawful w → (n : ℕ) → 1 ≤ holders k w n → lives n w.live ≡ 1
  live-held w sound n some = sound.counts.live n ∙ some_more (holders k w n) some

  pub live-is : (w : World R) (n : ℕ) → IsCounted k w → (is_live n w.live ≡ true) ↔ IsHeld k w n
  live-is w n is =
      let sound = sound-of is in
      let few : lives n w.live ≤ 1 = subst (λ (x : ℕ). x ≤ 1) (sym (sound.counts.live n)) (few-one (nat_lt 0 (holders k w n))) in (
        λ live. counted-held w n (elim (nat_lt 0 (holders k w n)) as (λ b. nat_lt 0 (holders k w n) ≡ b → 1 ≤ holders k w n) [
          | true ↦ λ some. ltb-true 0 _ some
          | false ↦ λ no. absurd (let one = live-lives n w.live true live few in let dead : lives n w.live ≡ 0 = sound.counts.live n ∙ ap one_if no in omega arith)
        ] refl),
        λ held. elim (is_live n w.live) as (λ b. is_live n w.live ≡ b → b ≡ true) [
          | true ↦ λ _. refl
          | false ↦ λ no. absurd (let dead = live-lives n w.live false no few in let one = live-held w sound n (held-counted held) in omega arith)
        ] refl,
      )

  held-none : (w : World R) → Sound k lawful w → (n : ℕ) → (IsHeld k w n → ⊥) → lives n w.live ≡ 0
  held-none w sound n free =
      sound.counts.live n ∙ (elim (nat_lt 0 (holders k w n)) as (λ b. nat_lt 0 (holders k w n) ≡ b → one_if b ≡ 0) [
        | true ↦ λ is. absurd (free (counted-held w n (ltb-true 0 _ is)))
        | false ↦ λ _. refl
      ] refl)

  ended-then : (answers : Answers) {w w' : World R} {event : Event} {reply : Reply} {requests : Requests} → Step k answers w event w' reply requests → Sound k lawful w → w.ended ≡ [] → (n : ℕ) → Contains w'.ended n
      → (IsHeld k w n ⊎ (reply ≡ Notify-reply n)) × (IsHeld k w' n → ⊥) × (event ≢ Cancel n)
  ended-then answers {w} {w'} {event} {reply} step sound begins_empty n h =
      let led = step-leads k lawful answers step sound in
      let before : ends n w.ended ≡ 0 = ap (ends n) begins_empty in
      let some = there-counted (λ (m : ℕ). m) w'.ended n h in
      let total_ = led.balance n in
      let fresh = led.fresh n in (
        elim (nat_lt 0 (begins reply n)) as (λ b. nat_lt 0 (begins reply n) ≡ b → IsHeld k w n ⊎ (reply ≡ Notify-reply n)) [
          | true ↦ λ is. inr (begins-is reply n (ltb-true 0 _ is))
          | false ↦ λ isnt.
              let none = ltb-false 0 (begins reply n) isnt in
              inl (counted-held w n (elim (nat_lt 0 (holders k w n)) as (λ b. nat_lt 0 (holders k w n) ≡ b → 1 ≤ holders k w n) [
                | true ↦ λ is. ltb-true 0 _ is
                | false ↦ λ no. absurd (let dead : lives n w.live ≡ 0 = sound.counts.live n ∙ ap one_if no in omega arith)
              ] refl))
        ] refl,
        λ held. let one = live-held w' led.sound n (held-counted held) in omega arith,
        λ is. let over = step-cancelled k lawful answers n step is sound before in omega arith,
      )

  then-ended : (answers : Answers) {w w' : World R} {event : Event} {reply : Reply} {requests : Requests} → Step k answers w event w' reply requests → Sound k lawful w → w.ended ≡ [] → (n : ℕ)
      → (IsHeld k w n ⊎ (reply ≡ Notify-reply n)) × (IsHeld k w' n → ⊥) × (event ≢ Cancel n) → Contains w'.ended n
  then-ended answers {w} {w'} {event} {reply} step sound begins_empty n (had, free, other) =
      let led = step-leads k lawful answers step sound in
      let before : ends n w.ended ≡ 0 = ap (ends n) begins_empty in
      let dead = held-none w' led.sound n free in
      let none = ceases-none event reply n other in
      let total_ = led.balance n in
      let some : 1 ≤ lives n w.live + begins reply n = elim had [
        | inl held ↦ let one = live-held w sound n (held-counted held) in omega arith
        | inr begun ↦ let one = begins-one reply n begun in omega arith
      ] in
      let found = counted-there (λ (m : ℕ). m) n w'.ended (omega arith) in
      subst (Contains w'.ended) found.2 found.1

  pub step-ends : (answers : Answers) {w w' : World R} {event : Event} {reply : Reply} {requests : Requests} → Step k answers w event w' reply requests → IsCounted k w → w.ended ≡ [] → EndsExactly k w (call.Event event reply) w'
  step-ends answers {w} step is empty =
      let sound = sound-of is in
      let led = step-leads k lawful answers step sound in
      record {
        ended = λ n. (ended-then answers step sound empty n, then-ended answers step sound empty n);
        once = λ n. let before : ends n w.ended ≡ 0 = ap (ends n) empty in omega (arith, led.balance n, led.fresh n);
      }

  -- A call that begins and cancels none: nothing ends if the database stays as it is, and what a link
  -- change ends is exactly what nobody has afterwards.

  nothing-in : (n : ℕ) → Contains {X = ℕ} [] n → ⊥
  nothing-in n h = absurd (omega (arith, h.1))

  same-ends : (w : World R) (c : Call) → ((n : ℕ) → Begins c n → ⊥) → w.ended ≡ [] → EndsExactly k w c w
  same-ends w c none empty = record {
    ended = λ n. (λ h. absurd (nothing-in n (subst (λ (xs : List ℕ). Contains xs n) empty h)), λ (had, free, other). absurd (⊎_elim (λ held. free held) (λ begun. none n begun) had));
    once = λ n. let before : ends n w.ended ≡ 0 = ap (ends n) empty in omega (arith, before);
  }

  module _ (w w' : World R) (sound : Sound k lawful w) (led : Leads k lawful w w') (empty : w.ended ≡ []) (n : ℕ) where
    led-ended : Contains w'.ended n → IsHeld k w n × (IsHeld k w' n → ⊥)
    led-ended h =
        let before : ends n w.ended ≡ 0 = ap (ends n) empty in
        let some = there-counted (λ (m : ℕ). m) w'.ended n h in
        let total_ = led.balance n in
        let few = live-few k lawful w sound n in (
          counted-held w n (elim (nat_lt 0 (holders k w n)) as (λ b. nat_lt 0 (holders k w n) ≡ b → 1 ≤ holders k w n) [
            | true ↦ λ is. ltb-true 0 _ is
            | false ↦ λ no. absurd (let dead : lives n w.live ≡ 0 = sound.counts.live n ∙ ap one_if no in omega arith)
          ] refl),
          λ held. let one = live-held w' led.sound n (held-counted held) in omega arith,
        )

    ended-led : IsHeld k w n → (IsHeld k w' n → ⊥) → Contains w'.ended n
    ended-led held free =
        let before : ends n w.ended ≡ 0 = ap (ends n) empty in
        let total_ = led.balance n in
        let dead = held-none w' led.sound n free in
        let one = live-held w sound n (held-counted held) in
        let found = counted-there (λ (m : ℕ). m) n w'.ended (omega arith) in
        subst (Contains w'.ended) found.2 found.1

    led-once : ends n w'.ended ≤ 1
    led-once =
        let before : ends n w.ended ≡ 0 = ap (ends n) empty in
        let few = live-few k lawful w sound n in
        omega (arith, led.balance n, before, few)

  led-ends : (w w' : World R) (c : Call) → ((n : ℕ) → Begins c n → ⊥) → ((n : ℕ) → Cancels c n → ⊥) → Sound k lawful w → Leads k lawful w w' → w.ended ≡ [] → EndsExactly k w c w'
  led-ends w w' c none kept sound led empty = record {
    ended = λ n. (
      λ h. let both = led-ended w w' sound led empty n h in (inl both.0, both.1, kept n),
      λ (had, free, other). ⊎_elim (λ held. ended-led w w' sound led empty n held free) (λ begun. absurd (none n begun)) had,
    );
    once = led-once w w' sound led empty;
  }

  pub calls-end : (answers : Answers) {w w' : World R} {c : Call} {requests : Requests} → Calls k answers w c w' requests → IsCounted k w → w.ended ≡ [] → EndsExactly k w c w'
  calls-end answers (does_event step) is empty = step-ends answers step is empty
  calls-end answers (shows_field {w} {s} {field} {text} _) is empty = same-ends w (call.Get s field text) (λ n begun. begun) empty
  calls-end answers (tells_if_live {w} {number} {live} _) is empty = same-ends w (call.IsLive number live) (λ n begun. begun) empty
  calls-end answers (keeps_its_link {w} {s} {field} {link} {e} _) is empty = same-ends w (call.Link s field link (Err e)) (λ n begun. begun) empty
  calls-end answers (takes_link {w} {s} {field} {link} kept) is empty =
      led-ends w _ (call.Link s field link (Ok tt)) (λ n begun. begun) (λ n cancelled. cancelled) (sound-of is) (link-led w s field link kept is) empty
  calls-end answers (posts_event {w} {name} {count}) is empty = same-ends w (call.Post name count) (λ n begun. begun) empty
  calls-end answers (interrupts {w} {device} {count}) is empty = same-ends w (call.Interrupt device count) (λ n begun. begun) empty

  -- Lemmas about cancelled ones, which never end.

  over-of : (w : World R) → Sound k lawful w → (n : ℕ) → stands w n ≡ 0 → IsOver k w n
  over-of w sound n none = record {
    not_held = λ held. let one = live-held w sound n (held-counted held) in omega arith;
    not_ended = λ h. let some = there-counted (λ (m : ℕ). m) w.ended n h in omega arith;
  }

  begins-none : (reply : Reply) (n : ℕ) → reply ≢ Notify-reply n → begins reply n ≡ 0
  begins-none reply n other = elim (nat_lt 0 (begins reply n)) as (λ b. nat_lt 0 (begins reply n) ≡ b → begins reply n ≡ 0) [
    | true ↦ λ is. absurd (other (begins-is reply n (ltb-true 0 _ is)))
    | false ↦ λ isnt. let none = ltb-false 0 (begins reply n) isnt in omega arith
  ] refl

  begun-stands : (moment : ℕ) (w : World R) (n : ℕ) → lives n w.live ≡ 0 → stands (begun_at moment w) n ≡ 0
  begun-stands moment w n dead =
      let same = begun-ended moment w in
      omega (arith, ap (lives n) same.1, ap (ends n) same.0)

  -- One that is over stays so after a call by which it doesn't begin.
  calls-over : (answers : Answers) {w w' : World R} {c : Call} {requests : Requests} (n : ℕ) → Calls k answers w c w' requests → IsCounted k w → stands w n ≡ 0
      → (Begins c n → ⊥) → IsCounted k w' × (stands w' n ≡ 0)
  calls-over answers n (does_event {w} {w'} {event} {reply} step) is none other =
      let led = step-leads k lawful answers step (sound-of is) in
      (of-sound led.sound, omega (arith, led.balance n, none, begins-none reply n other))
  calls-over answers n (shows_field _) is none other = (is, none)
  calls-over answers n (tells_if_live _) is none other = (is, none)
  calls-over answers n (keeps_its_link _) is none other = (is, none)
  calls-over answers n (takes_link {w} {s} {field} {link} kept) is none other =
      let led = link-led w s field link kept is in
      (of-sound led.sound, omega (arith, led.balance n, none))
  calls-over answers n posts_event is none other = (is, none)
  calls-over answers n interrupts is none other = (is, none)

  stays-over : {w w' : World R} (entry : Entry) (n : ℕ) {requests : Requests} → Calls k (listed entry.answers) (begun_at entry.moment w) entry.call w' requests → IsCounted k w
      → lives n w.live ≡ 0 → (Begins entry.call n → ⊥) → IsCounted k w' × (stands w' n ≡ 0)
  stays-over {w} entry n calls is dead other = calls-over (listed entry.answers) n calls (begun-counted entry.moment w is) (begun-stands entry.moment w n dead) other

  replay-over : {w w' : World R} {entries : List Entry} (n : ℕ) → Replay k w entries w' → IsCounted k w → stands w n ≡ 0 → NoneBegins entries n → IsOver k w' n
  replay-over n (at_the_end {w}) is none begins_none = over-of w (sound-of is) n none
  replay-over n (and_then {w} {w'} {w''} {entry} {entries} step _ rest) is none begins_none =
      let one = stays-over entry n step is (omega (arith, none)) (begins_none entry (0, omega arith, refl)) in
      replay-over n rest one.0 one.1 (λ e h. begins_none e (suc h.0, omega (arith, h.1), h.2))

  pub cancelled-over : (answers : Answers) {w w' w'' : World R} {n : ℕ} {reply : Reply} {requests : Requests} {entries : List Entry} → Step k answers w (Cancel n) w' reply requests → Replay k w' entries w''
      → IsCounted k w → w.ended ≡ [] → NoneBegins entries n → IsOver k w'' n
  cancelled-over answers {n = n} step rest is empty none =
      let sound = sound-of is in
      replay-over n rest (of-sound (step-leads k lawful answers step sound).sound) (step-cancelled k lawful answers n step refl sound (ap (ends n) empty)) none

  pub free-over : {w w' : World R} {entry : Entry} {entries : List Entry} (n : ℕ) → Replay k w (entry ∷ entries) w' → IsCounted k w → (IsHeld k w n → ⊥) → NoneBegins (entry ∷ entries) n → IsOver k w' n
  free-over n (and_then {w} {w'} {w''} {entry} {entries} step _ rest) is free begins_none =
      let one = stays-over entry n step is (held-none w (sound-of is) n free) (begins_none entry (0, omega arith, refl)) in
      replay-over n rest one.0 one.1 (λ e h. begins_none e (suc h.0, omega (arith, h.1), h.2))
