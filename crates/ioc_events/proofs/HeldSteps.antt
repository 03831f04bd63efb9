-- Events keep the counts of the parts of puts with notification, and one ends when it is no longer
-- live.
use Rattle.std.proofs.Common.{◌≡◌, ◌≢◌, ℕ, zero, suc, ◌+◌, ◌^◌, ◌<◌, ◌≤◌, true, false, cond, eqb, nat_lt, List, [], ◌∷◌, ◌++◌, map, Option, Some, None as Nothing_, Ok, is_some, refl, sym, ap, subst, ◌∙◌, arith}
use Rattle.std.specs.FinMap.{entries}
use Rattle.std.proofs.lemmas.Bool.{eq-eqb, eqb-true, ne_eqb, and_parts, or_parts, not-true}
use Rattle.ioc_values.specs.declared.input.Input.{Input}
use Rattle.ioc_values.specs.declared.error.IocError.{IocError}
use Rattle.ioc_fields.specs.declared.field_no.FieldNo.{FieldNo}
use Rattle.ioc_ledger.specs.Requests.{Requests}
use Rattle.ioc_notify.specs.declared.live_numbers.Live.{Live}
use Rattle.ioc_notify.specs.declared.waiting_lists.Waiting.{Waiting}
use Rattle.ioc_notify.specs.Waits.{without}
use Rattle.ioc_notify.specs.Living.{begun as begun_by, forgotten, is_live}
use Rattle.ioc_dbcommon.specs.declared.common.Common.{Common}
use Rattle.ioc_dbcommon.specs.declared.link_field.LinkField.{LinkField}
use Rattle.ioc_dbcommon.specs.Links.{use_of, named_by}
use Rattle.ioc_dbcommon.specs.Steps.{with_put_mark, with_reprocess_mark, with_notification}
use Rattle.ioc_record.specs.RecordRules.{RecordRules}
use Rattle.ioc_record.specs.Values.{put_field}
use Rattle.ioc_record.specs.Laws.{IsLawful}
use Rattle.ioc_store.specs.World.{World, Has, Keeps, at, common_at, put, total, is_notification, freed, has_place, admitted, queued, cancelled}
use Rattle.ioc_store.specs.Worlds.{has-put, len-put}
use Rattle.ioc_store.specs.Freeing.{on_value, entries-mapped}
use Rattle.ioc_store.specs.Given.{Answers}
use Rattle.ioc_store.specs.Scanning.{device_of, rescanned, rewired}
use Rattle.ioc_process.specs.Keeping.{keeps_all, keeps_on, closed_on, moved-keeps}
use Rattle.ioc_store.specs.ScanLaws.{rewired-either}
use Rattle.ioc_events.specs.declared.event.Event.{Event}
use Rattle.ioc_events.specs.declared.event.Event.TheVariants.{Process, Put, Complete, Notify, Cancel}
use Rattle.ioc_events.specs.declared.reply.Reply.{Reply}
use Rattle.ioc_events.specs.declared.reply.Reply.TheVariants.{Plain, Outcome as Outcome-reply, Notify as Notify-reply, Refused}
use Rattle.ioc_events.specs.Step.{is_there, all_there}
use Rattle.ioc_events.specs.Starting.{must_wait}
use Rattle.ioc_events.specs.Holding.{one_if_has, holders}
use Rattle.ioc_events.specs.StepRules.{Does, Step, by_itself, then_others, no_such_record, processes_record, refuses_value, stores_alone, stores_while_active, stores_and_processes, not_awaited, completes_record, refuses_notified_value, no_place, waits_its_turn, starts_now, not_live, cancels}
use Rattle.ioc_events.proofs.Stepping.{put_notification}
use Rattle.ioc_events.proofs.QuietEvents.{stored-keeps, admitted-keeps, queued-keeps, cancelled-keeps, link-closed}
use Rattle.ioc_events.proofs.Counting.{lives, one_if, of_each, itself, another, Counts, counts-same, counts-begun, counts-forgotten, begun-lives, forgotten-lives, forgotten-other, live-lives, how_many-append, few-one, some_more}
use Rattle.ioc_events.proofs.Holders.{ends, stands, Alike, alike-on, alike-put, alike-rescanned, alike-rewired}
use Rattle.ioc_events.proofs.HeldStarts.{marked-has, waiters, without-here, without-other, without-few, Sound, Leads, leads-on, leads-alike, request-leads, completion-leads, marked-leads, MayStart, starts-leads, starts_all-leads}

-- One if the reply reports that this one began, and zero otherwise.
abbrev pub begins : Reply → ℕ → ℕ
begins (Notify-reply m) n = one_if (eqb m n)
begins _ n = 0

-- One if this one is cancelled, and zero otherwise.
abbrev pub ceases : Event → Reply → ℕ → ℕ
ceases (Cancel m) Plain n = one_if (eqb m n)
ceases _ _ n = 0

ceases-refused : (event : Event) (e : IocError) (n : ℕ) → ceases event (Refused e) n ≡ 0
ceases-refused (Cancel m) e n = refl
ceases-refused event e n = refl

-- A count that isn't positive is zero.
pub none-counted : (a : ℕ) → one_if (nat_lt 0 a) ≡ 0 → a ≡ 0
none-counted zero is = refl
none-counted (suc a) is = absurd (let one : one_if (nat_lt 0 (suc a)) ≡ 1 = some_more (suc a) (omega arith) in omega arith)

none-is : (o : Option ℕ) → is_some o ≡ false → o ≡ Nothing_
none-is Nothing_ is = refl
none-is (Some n) is = cc

module _ {R : Type 0} (k : RecordRules R) (lawful : IsLawful k) where
  -- What an event leaves.
  pub record LeadsBy (w : World R) (event : Event) (w' : World R) (reply : Reply) : Type 0 where
    pub sound : Sound k lawful w'
    pub balance : (n : ℕ) → stands w' n + ceases event reply n ≡ stands w n + begins reply n
    -- One that begins wasn't live.
    pub fresh : (n : ℕ) → lives n w.live + begins reply n ≤ 1

  pub live-few : (w : World R) → Sound k lawful w → (n : ℕ) → lives n w.live ≤ 1
  live-few w sound n = subst (λ (x : ℕ). x ≤ 1) (sym (sound.counts.live n)) (few-one (nat_lt 0 (holders k w n)))

  stays : (w : World R) (event : Event) (reply : Reply) → Sound k lawful w → ((n : ℕ) → ceases event reply n ≡ 0) → ((n : ℕ) → begins reply n ≡ 0) → LeadsBy w event w reply
  stays w event reply sound none nothing = record { sound = sound; balance = λ n. omega (arith, none n, nothing n); fresh = λ n. omega (arith, nothing n, live-few w sound n) }

  leads : {w w' : World R} (event : Event) (reply : Reply) → Sound k lawful w → Leads k lawful w w' → ((n : ℕ) → ceases event reply n ≡ 0) → ((n : ℕ) → begins reply n ≡ 0) → LeadsBy w event w' reply
  leads {w} event reply sound lead none nothing = record {
    sound = lead.sound;
    balance = λ n. omega (arith, none n, nothing n, lead.balance n);
    fresh = λ n. omega (arith, nothing n, live-few w sound n);
  }

  -- Lemmas about a put, and a link change.

  stored-leads : (w w' : World R) (s : ℕ) (field : FieldNo) (given : Input) (r : R) → Has w s → put_field k (at k w s) field given ≡ Ok r → w' ≡ rescanned k (put w s r) s field → Sound k lawful w → Leads k lawful w w'
  stored-leads w w' s field given r there is stored sound =
      leads-alike k lawful w w' sound (stored-keeps k lawful w w' s field given r there is stored)
      (subst (Alike k lawful w) (sym stored)
      (alike-on k lawful (alike-put k lawful w s r there (put_notification k lawful (at k w s) r field given is)) (alike-rescanned k lawful (put w s r) s field (has-put k w s s r there))))

  pub link-leads : (w : World R) (s : ℕ) (field : FieldNo) (link : LinkField) → Has w s → all_there w (named_by (use_of link)) ≡ true → Sound k lawful w
      → Leads k lawful w (rewired k (device_of k (at k w s)) (put w s (k.with_link (at k w s) field link)) s)
  link-leads w s field link there led sound =
      let r = k.with_link (at k w s) field link in
      let v = put w s r in
      let here = has-put k w s s r there in
      let keeps = rewired-either k (Keeps k v) (device_of k (at k w s)) v s (keeps_all k v) (moved-keeps k lawful v s here) in
      let alike = alike-put k lawful w s r there (ap (λ (c : Common). c.notification) (lawful.link_set_common (at k w s) field link)) in
      let first : Sound k lawful v = record {
        closed = link-closed k lawful w s field link there led sound.closed;
        few = subst (λ (x : ℕ). x < 2 ^ 63) (sym (len-put k w s r there)) sound.few;
        counts = subst (Counts (holders k v)) (sym alike.live) (counts-same (holders k w) (holders k v) w.live sound.counts alike.held);
        once = λ n. subst (λ (xs : List Waiting). waiters n xs ≤ 1) (sym alike.waiting) (sound.once n);
      } in
      let second = leads-alike k lawful v _ first keeps (alike-rewired k lawful (device_of k (at k w s)) v s here) in
      record { sound = second.sound; balance = λ n. second.balance n ∙ ap (λ (ls : List Live). lives n ls + ends n v.ended) alike.live ∙ ap (λ (es : List ℕ). lives n w.live + ends n es) alike.ended }

  -- Lemmas about a put with notification.

  -- One that may begin has no part.
  place-free : (w : World R) (m : ℕ) → Sound k lawful w → has_place w m ≡ true → holders k w m ≡ 0
  place-free w m sound place =
      let isnt : is_live m w.live ≡ false = not-true _ (and_parts _ _ (and_parts _ _ place).1).1 in
      let few = live-few w sound m in
      none-counted (holders k w m) (sym (sound.counts.live m) ∙ live-lives m w.live false isnt few)

  -- One that may begin isn't live.
  place-fresh : (w : World R) (m : ℕ) → Sound k lawful w → has_place w m ≡ true → (n : ℕ) → lives n w.live + one_if (eqb m n) ≤ 1
  place-fresh w m sound place =
      let none = place-free w m sound place in
      let dead : lives m w.live ≡ 0 = sound.counts.live m ∙ ap (λ (x : ℕ). one_if (nat_lt 0 x)) none in
      of_each (λ n. lives n w.live + one_if (eqb m n) ≤ 1) m (omega (arith, itself m)) (λ n apart. omega (arith, another m n apart, live-few w sound n))

  admitted-same : (m : ℕ) (w : World R) → ((admitted m w).live ≡ begun_by m w.live) × ((admitted m w).ended ≡ w.ended) × ((admitted m w).waiting ≡ w.waiting)
  unfolding admitted
  admitted-same m w = (refl, refl, refl)

  admitted-held : (m : ℕ) (w : World R) (n : ℕ) → holders k (admitted m w) n ≡ holders k w n
  unfolding holders admitted
  admitted-held m w n = refl

  admitted-at : (m : ℕ) (w : World R) (s : ℕ) → common_at k (admitted m w) s ≡ common_at k w s
  unfolding at admitted
  admitted-at m w s = refl

  admitted-stands : (m : ℕ) (w : World R) (n : ℕ) → stands (admitted m w) n ≡ stands w n + one_if (eqb m n)
  admitted-stands m w n =
      let same = admitted-same m w in
      ap (λ (ls : List Live). lives n ls + ends n (admitted m w).ended) same.0 ∙ ap (λ (es : List ℕ). lives n (begun_by m w.live) + ends n es) same.1 ∙ omega (arith, begun-lives m n w.live)

  must_wait-none : (w : World R) (s : ℕ) → must_wait k w s ≡ false → (common_at k w s).notification ≡ Nothing_
  unfolding must_wait
  must_wait-none w s is = none-is _ (or_parts _ _ (or_parts _ _ is).1).0

  admitted-may : (w : World R) (x : Waiting) → Has w x.target → has_place w x.number ≡ true → must_wait k w x.target ≡ false → Sound k lawful w → MayStart k lawful (admitted x.number w) x
  admitted-may w x there place idle sound =
      let m = x.number in
      let v = admitted m w in
      let keeps = admitted-keeps k lawful m w in
      let same = admitted-same m w in
      record {
        there = keeps.has x.target there;
        none = ap (λ (c : Common). c.notification) (admitted-at m w x.target) ∙ must_wait-none w x.target idle;
        closed = closed_on k lawful keeps sound.closed;
        few = subst (λ (y : ℕ). y < 2 ^ 63) (sym keeps.count) sound.few;
        once = λ n. subst (λ (xs : List Waiting). waiters n xs ≤ 1) (sym same.2) (sound.once n);
        counts = subst (Counts (λ n. holders k v n + one_if (eqb m n))) (sym same.0)
            (counts-begun (holders k w) (λ n. holders k v n + one_if (eqb m n)) m w.live sound.counts (place-free w m sound place) (λ n. ap (λ (y : ℕ). y + one_if (eqb m n)) (admitted-held m w n)));
      }

  queued-same : (x : Waiting) (w : World R) → ((queued x w).live ≡ w.live) × ((queued x w).ended ≡ w.ended) × ((queued x w).waiting ≡ w.waiting ++ x ∷ [])
  unfolding queued
  queued-same x w = (refl, refl, refl)

  queued-held : (x : Waiting) (w : World R) (n : ℕ) → holders k (queued x w) n ≡ holders k w n + one_if (eqb x.number n)
  unfolding holders queued
  queued-held x w n = omega (arith, how_many-append (λ (y : Waiting). y.number) n w.waiting (x ∷ []))

  waiters-held : (w : World R) (n : ℕ) → waiters n w.waiting ≤ holders k w n
  unfolding holders
  waiters-held w n = omega arith

  waits-leads : (w : World R) (x : Waiting) → has_place w x.number ≡ true → Sound k lawful w → (n : ℕ)
      → Sound k lawful (queued x (admitted x.number w)) × (stands (queued x (admitted x.number w)) n ≡ stands w n + one_if (eqb x.number n))
  waits-leads w x place sound q =
      let m = x.number in
      let v = admitted m w in
      let u = queued x v in
      let keeps = keeps_on k (admitted-keeps k lawful m w) (queued-keeps k lawful x v) in
      let first = admitted-same m w in
      let same = queued-same x v in
      let none = place-free w m sound place in
      let nobody = waiters-held w m in
      let waits : u.waiting ≡ w.waiting ++ x ∷ [] = same.2 ∙ ap (λ (xs : List Waiting). xs ++ x ∷ []) first.2 in
      let more : (n : ℕ) → waiters n u.waiting ≡ waiters n w.waiting + one_if (eqb m n) = λ n. ap (waiters n) waits ∙ how_many-append (λ (y : Waiting). y.number) n w.waiting (x ∷ []) in (
        record {
          closed = closed_on k lawful keeps sound.closed;
          few = subst (λ (y : ℕ). y < 2 ^ 63) (sym keeps.count) sound.few;
          once = of_each (λ n. waiters n u.waiting ≤ 1) m (omega (arith, more m, itself m)) (λ n apart. omega (arith, more n, another m n apart, sound.once n));
          counts = subst (Counts (holders k u)) (sym (same.0 ∙ first.0))
              (counts-begun (holders k w) (holders k u) m w.live sound.counts none (λ n. queued-held x v n ∙ ap (λ (y : ℕ). y + one_if (eqb m n)) (admitted-held m w n)));
        },
        ap (λ (ls : List Live). lives q ls + ends q u.ended) same.0 ∙ ap (λ (es : List ℕ). lives q v.live + ends q es) same.1 ∙ admitted-stands m w q,
      )

  -- Lemmas about a cancel.

  freed-here : (m : ℕ) (r : R) → one_if_has k m (freed k m r) ≡ 0
  freed-here m r =
      elim (is_notification m (k.common r).notification) as (λ b. is_notification m (k.common r).notification ≡ b → one_if_has k m (cond b (k.with_common r (with_notification Nothing_ (k.common r))) r) ≡ 0) [
        | true ↦ λ _. ap (λ (c : Common). one_if (is_notification m c.notification)) (lawful.common_set r (with_notification Nothing_ (k.common r)))
        | false ↦ λ isnt. ap one_if isnt
      ] refl

  not-both : (m n : ℕ) → m ≢ n → (o : Option ℕ) → is_notification m o ≡ true → is_notification n o ≡ false
  not-both m n apart Nothing_ is = refl
  not-both m n apart (Some held) is = ne_eqb held n (λ e. apart (sym (eqb-true held m is) ∙ e))

  freed-other : (m n : ℕ) → m ≢ n → (r : R) → one_if_has k n (freed k m r) ≡ one_if_has k n r
  freed-other m n apart r =
      elim (is_notification m (k.common r).notification) as (λ b. is_notification m (k.common r).notification ≡ b
      → one_if_has k n (cond b (k.with_common r (with_notification Nothing_ (k.common r))) r) ≡ one_if_has k n r) [
        | true ↦ λ is. ap (λ (c : Common). one_if (is_notification n c.notification)) (lawful.common_set r (with_notification Nothing_ (k.common r))) ∙ sym (ap one_if (not-both m n apart (k.common r).notification is))
        | false ↦ λ isnt. refl
      ] refl

  total-here : (m : ℕ) (es : List (ℕ × R)) → total (one_if_has k m) (map (on_value (freed k m)) es) ≡ 0
  total-here m [] = refl
  total-here m (e ∷ es) = omega (arith, freed-here m e.1, total-here m es)

  total-other : (m n : ℕ) → m ≢ n → (es : List (ℕ × R)) → total (one_if_has k n) (map (on_value (freed k m)) es) ≡ total (one_if_has k n) es
  total-other m n apart [] = refl
  total-other m n apart (e ∷ es) = omega (arith, freed-other m n apart e.1, total-other m n apart es)

  cancelled-here : (m : ℕ) (w : World R) → holders k (cancelled k m w) m ≡ 0
  unfolding holders cancelled
  cancelled-here m w =
      omega (arith, ap (total (one_if_has k m)) (entries-mapped (freed k m) w.records), total-here m (entries w.records), without-here m w.waiting)

  cancelled-other : (m n : ℕ) → m ≢ n → (w : World R) → holders k (cancelled k m w) n ≡ holders k w n
  unfolding holders cancelled
  cancelled-other m n apart w =
      omega (arith, ap (total (one_if_has k n)) (entries-mapped (freed k m) w.records), total-other m n apart (entries w.records), without-other m n apart w.waiting)

  cancelled-same : (m : ℕ) (w : World R) → ((cancelled k m w).live ≡ forgotten m w.live) × ((cancelled k m w).ended ≡ w.ended) × ((cancelled k m w).waiting ≡ without m w.waiting)
  unfolding cancelled
  cancelled-same m w = (refl, refl, refl)

  cancel-leads : (m : ℕ) (w : World R) → is_live m w.live ≡ true → Sound k lawful w → LeadsBy w (Cancel m) (cancelled k m w) Plain
  cancel-leads m w live sound =
      let v = cancelled k m w in
      let keeps = cancelled-keeps k lawful m w in
      let same = cancelled-same m w in
      let few = live-few w sound m in
      let one : lives m w.live ≡ 1 = live-lives m w.live true live few in
      let gone : (n : ℕ) → lives n (forgotten m w.live) + one_if (eqb m n) ≡ lives n w.live =
      of_each (λ n. lives n (forgotten m w.live) + one_if (eqb m n) ≡ lives n w.live) m (omega (arith, forgotten-lives m w.live few, itself m))
      (λ n apart. omega (arith, (forgotten-other m n apart w.live).0, another m n apart)) in
      record {
        sound = record {
          closed = closed_on k lawful keeps sound.closed;
          few = subst (λ (y : ℕ). y < 2 ^ 63) (sym keeps.count) sound.few;
          once = λ n. subst (λ (xs : List Waiting). waiters n xs ≤ 1) (sym same.2) (without-few m n w.waiting (sound.once n));
          counts = subst (Counts (holders k v)) (sym same.0) (counts-forgotten (holders k w) (holders k v) m w.live sound.counts (cancelled-here m w) (λ n apart. cancelled-other m n apart w));
        };
        balance = λ n.
            let left : stands v n ≡ lives n (forgotten m w.live) + ends n w.ended =
            ap (λ (ls : List Live). lives n ls + ends n v.ended) same.0 ∙ ap (λ (es : List ℕ). lives n (forgotten m w.live) + ends n es) same.1 in
            omega (arith, left, gone n);
        fresh = λ n. omega (arith, live-few w sound n);
      }

  -- Lemmas about an event.

  zero_ : (n : ℕ) → ◌≡◌ {A = ℕ} 0 0
  zero_ n = refl

  does-leads : (answers : Answers) {w w' : World R} {event : Event} {reply : Reply} {requests : Requests} → Does k answers w event w' reply requests → Sound k lawful w → LeadsBy w event w' reply
  does-leads answers (no_such_record {w} {event} _) sound = stays w event _ sound (ceases-refused event _) zero_
  does-leads answers (processes_record {w} {w'} {s} {outcome} there r _) sound = leads (Process s) (Outcome-reply outcome) sound (request-leads k lawful answers there r sound) zero_ zero_
  does-leads answers (refuses_value {w} {s} {field} {given} _ _) sound = stays w (Put s field given) _ sound zero_ zero_
  does-leads answers (stores_alone {w} {w'} {s} {field} {given} {r} there is stored _) sound = leads (Put s field given) Plain sound (stored-leads w w' s field given r there is stored sound) zero_ zero_
  does-leads answers (stores_while_active {w} {w'} {s} {field} {given} {r} there is stored _ _) sound =
      let first = stored-leads w w' s field given r there is stored sound in
      let here = (stored-keeps k lawful w w' s field given r there is stored).has s there in
      leads (Put s field given) _ sound (leads-on k lawful first (marked-leads k lawful w' s (with_reprocess_mark true) here (λ c. (refl, refl)) (λ c. refl) first.sound)) zero_ zero_
  does-leads answers (stores_and_processes {w} {w'} {w''} {s} {field} {given} {r} {outcome} there is stored _ _ q _) sound =
      let first = stored-leads w w' s field given r there is stored sound in
      let here = (stored-keeps k lawful w w' s field given r there is stored).has s there in
      let marked = marked-leads k lawful w' s (with_put_mark true) here (λ c. (refl, refl)) (λ c. refl) first.sound in
      leads (Put s field given) (Outcome-reply outcome) sound (leads-on k lawful first (leads-on k lawful marked (request-leads k lawful answers (marked-has k lawful w' s (with_put_mark true) here) q marked.sound))) zero_ zero_
  does-leads answers (not_awaited {w} {s} {number} {x} _ _) sound = stays w (Complete s number x) _ sound zero_ zero_
  does-leads answers (completes_record {w} {w'} {s} {number} {x} there _ r) sound = leads (Complete s number x) Plain sound (completion-leads k lawful answers there r sound) zero_ zero_
  does-leads answers (refuses_notified_value {w} {s} {number} {field} {given} _ _) sound = stays w (Notify s number field given) _ sound zero_ zero_
  does-leads answers (no_place {w} {s} {number} {field} {given} _ _ _) sound = stays w (Notify s number field given) _ sound zero_ zero_
  does-leads answers (waits_its_turn {w} {s} {number} {field} {given} {v} _ _ place _) sound =
      let x : Waiting = record { number = number; target = s; field = field; value = v } in
      record { sound = (waits-leads w x place sound 0).0; balance = λ n. omega (arith, (waits-leads w x place sound n).1); fresh = place-fresh w number sound place }
  does-leads answers (starts_now {w} {w'} {s} {number} {field} {given} {v} there _ place idle one) sound =
      let lead = starts-leads k lawful answers one (admitted-may w (record { number = number; target = s; field = field; value = v }) there place idle sound) in
      record { sound = lead.sound; balance = λ n. omega (arith, lead.balance n, admitted-stands number w n); fresh = place-fresh w number sound place }
  does-leads answers (not_live {w} {number} _) sound = stays w (Cancel number) _ sound zero_ zero_
  does-leads answers (cancels {w} {number} live) sound = cancel-leads number w live sound

  pub step-leads : (answers : Answers) {w w' : World R} {event : Event} {reply : Reply} {requests : Requests} → Step k answers w event w' reply requests → Sound k lawful w → LeadsBy w event w' reply
  step-leads answers (by_itself does _) sound = does-leads answers does sound
  step-leads answers (then_others {w} {w'} {w''} {event} {reply} does _ others) sound =
      let first = does-leads answers does sound in
      let rest = starts_all-leads k lawful answers others first.sound in
      record { sound = rest.sound; balance = λ n. ap (λ (x : ℕ). x + ceases event reply n) (rest.balance n) ∙ first.balance n; fresh = first.fresh }

  -- A cancel leaves its put with notification neither live nor ended.

  there-always : (w : World R) (event : Event) (n : ℕ) → event ≡ Cancel n → is_there w event ≡ false → ⊥
  there-always w event n is isnt = let there : is_there w event ≡ true = ap (is_there w) is in cc

  cancel-same : {m n : ℕ} → ◌≡◌ {A = Event} (Cancel m) (Cancel n) → m ≡ n
  cancel-same is = cc

  does-cancel : (answers : Answers) {w w' : World R} {event : Event} {reply : Reply} {requests : Requests} (n : ℕ) → Does k answers w event w' reply requests → event ≡ Cancel n → Sound k lawful w → ends n w.ended ≡ 0
      → stands w' n ≡ 0
  does-cancel answers n (no_such_record {w} {event} isnt) is sound none = absurd (there-always w event n is isnt)
  does-cancel answers n (processes_record _ _ _) is sound none = cc
  does-cancel answers n (refuses_value _ _) is sound none = cc
  does-cancel answers n (stores_alone _ _ _ _) is sound none = cc
  does-cancel answers n (stores_while_active _ _ _ _ _) is sound none = cc
  does-cancel answers n (stores_and_processes _ _ _ _ _ _ _) is sound none = cc
  does-cancel answers n (not_awaited _ _) is sound none = cc
  does-cancel answers n (completes_record _ _ _) is sound none = cc
  does-cancel answers n (refuses_notified_value _ _) is sound none = cc
  does-cancel answers n (no_place _ _ _) is sound none = cc
  does-cancel answers n (waits_its_turn _ _ _ _) is sound none = cc
  does-cancel answers n (starts_now _ _ _ _ _) is sound none = cc
  does-cancel answers n (not_live {w} {number} isnt) is sound none =
      let e : number ≡ n = cancel-same is in
      omega (arith, none, live-lives n w.live false (ap (λ (m : ℕ). is_live m w.live) (sym e) ∙ isnt) (live-few w sound n))
  does-cancel answers n (cancels {w} {number} live) is sound none =
      let e : number ≡ n = cancel-same is in
      let one : one_if (eqb number n) ≡ 1 = ap one_if (eq-eqb number n e) in
      omega (arith, (cancel-leads number w live sound).balance n, one, none, live-few w sound n)

  pub step-cancelled : (answers : Answers) {w w' : World R} {event : Event} {reply : Reply} {requests : Requests} (n : ℕ) → Step k answers w event w' reply requests → event ≡ Cancel n → Sound k lawful w
      → ends n w.ended ≡ 0 → stands w' n ≡ 0
  step-cancelled answers n (by_itself does _) is sound none = does-cancel answers n does is sound none
  step-cancelled answers n (then_others does _ others) is sound none =
      (starts_all-leads k lawful answers others (does-leads answers does sound).sound).balance n ∙ does-cancel answers n does is sound none
