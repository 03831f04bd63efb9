-- Records that are held with puts with notification: those of a sound set, and those of sound sets
-- with empty histories.
use Rattle.std.proofs.Common.{◌≡◌, ℕ, zero, suc, ◌+◌, ◌<◌, ◌≤◌, ◌^◌, Bool, true, false, cond, eqb, nat_eq, not, nat_lt, List, [], ◌∷◌, length, Option, Some, None, refl, sym, ap, subst, ◌∙◌, ⊎_elim, arith}
use Rattle.std.specs.Prelude.{◌↔◌, ◌&&◌, IsSome, IsTrue, is_some, unwrap_or, Contains}
use Rattle.std.specs.FinMap.{get, insert, contains_key, entries, len}
use Rattle.std.proofs.lemmas.Bool.{lt-ltb, eqb-true}
use Rattle.ioc_fields.specs.declared.field_no.FieldNo.{FieldNo}
use Rattle.ioc_dbcommon.specs.declared.common.Common.{Common}
use Rattle.ioc_dbcommon.specs.declared.link_field.LinkField.{LinkField}
use Rattle.ioc_dbcommon.specs.Steps.{change_numbered}
use Rattle.ioc_ledger.specs.declared.tally.Tally.{Tally}
use Rattle.ioc_notify.specs.declared.live_numbers.Live.{Live}
use Rattle.ioc_notify.specs.declared.waiting_lists.Waiting.{Waiting}
use Rattle.ioc_notify.specs.Living.{is_live}
use Rattle.ioc_notify.specs.Waits.{at_record}
use Rattle.ioc_record.specs.RecordRules.{RecordRules, targets}
use Rattle.ioc_record.specs.Laws.{IsLawful}
use Rattle.ioc_set_records.specs.Contents.{Records, Devices, record_at}
use Rattle.ioc_set_records.specs.Joined.{links_of, IsPart, AreShared, relinked}
use Rattle.ioc_store.specs.World.{World, Has, at, put, changed, lost, total, is_notification}
use Rattle.ioc_store.specs.Weights.{weight_of, total-insert}
use Rattle.ioc_store.specs.ScanLaws.{rewired-either, moved-either}
use Rattle.ioc_store.specs.Scanning.{rewired}
use Rattle.ioc_store.specs.Worlds.{sent_by}
use Rattle.ioc_events.specs.EventReplay.{at_the_end}
use Rattle.ioc_events.specs.Starting.{is_ready}
use Rattle.ioc_events.specs.Holding.{IsCounted, IsHeld, by_a_record, in_a_waiting_list, HoldersCounted, holders, how_many, one_if_has}
use Rattle.ioc_set.specs.Awaiting.{awaited}
use Rattle.ioc_set.specs.SetState.{SetState, NoneIsLive, now_of}
use Rattle.ioc_set.specs.Resting.{resting}
use Rattle.ioc_set.specs.Linking.{with_empty_history, AreHeld, MayBeOne}
use Rattle.ioc_set.specs.Recounting.{own_waiting, together, AreLive, WaitsGoAlong}
use Rattle.ioc_set.specs.Sound.{IsSound, CountsAddUp}
use Rattle.ioc_set.proofs.Calm.{none_in, get-insert, shut}
use Rattle.ioc_set.proofs.Entries.{none_some}
use Rattle.ioc_events.proofs.Counting.{lives, one_if}
use Rattle.ioc_set.proofs.Fewer.{fewer}
use Rattle.ioc_set.proofs.Gathered.{passes-there}

no_more : (t w l : ℕ) → w ≤ 1 → l ≡ cond (nat_lt 0 (t + w)) 1 0 → w ≤ l
no_more t zero l once is = omega arith
no_more t (suc w) l once is = let one : l ≡ 1 = is ∙ ap (λ (b : Bool). cond b 1 0) (lt-ltb 0 (t + suc w) (omega arith)) in omega (arith, one, once)

never_ready : (b active noted : Bool) → (b ≡ true → active ≡ true) → (b && (not active && not noted)) ≡ false
never_ready false active noted is = refl
never_ready true active noted is = ap (λ (a : Bool). not a && not noted) (is refl)

module _ {R : Type 0} (k : RecordRules R) where
  -- Lemmas about the records of a sound set.

  module _ {D : Type 0} (h : SetState R D) (sound : IsSound k h) where
    pub sound_held : AreHeld k h.records h.live h.waiting
    unfolding at
    sound_held = record { quiet = λ n there. sound.settled.quiet.quiet n there; holders_await = sound.holders_await; counted = sound.counted.counted }

    pub sound_live : ((w : World R) (n : ℕ) → IsCounted k w → (is_live n w.live ≡ true) ↔ IsHeld k w n) → AreLive k h.records h.waiting h.live
    unfolding at
    sound_live live = record {
      has = λ s n there is. (live (now_of h) n sound.counted).1 (by_a_record s there is);
      waits = λ x c. (live (now_of h) x.number sound.counted).1 (in_a_waiting_list x c);
    }

    pub sound_holder : ((w : World R) (n : ℕ) → IsCounted k w → (is_live n w.live ≡ true) ↔ IsHeld k w n) → (n : ℕ) → is_live n h.live ≡ true → IsHeld k (now_of h) n
    sound_holder live n is = (live (now_of h) n sound.counted).0 is

    pub sound_fewer : length h.waiting ≤ length h.live
    unfolding holders
    sound_fewer = fewer (λ (x : Waiting). x.number) (λ (l : Live). l.number) h.waiting h.live
        (λ n. no_more (total (one_if_has k n) (entries h.records)) (how_many (λ (x : Waiting). x.number) n h.waiting) (lives n h.live) (sound.counted.counted.waits_once n) (sound.counted.counted.live n))

  -- Lemmas about a set of records that are held.

  pub held_sound : targets k k.missing ≡ [] → (rs : Records R) → IsPart (links_of k rs) → (live : List Live) (waiting : List Waiting) → AreHeld k rs live waiting → len rs < 2 ^ 63
      → {D : Type 0} (ds : Devices D) (counts : Tally) → CountsAddUp counts (awaited k rs) → IsSound k (with_empty_history rs ds live waiting counts)
  unfolding at is_ready
  held_sound missing rs part live waiting held few ds counts add_up = record {
    part = part;
    settled = record { closed = shut k missing rs part live waiting; quiet = record { quiet = λ n there. held.quiet n there } };
    none_ready = record {
      none = λ x c. never_ready (contains_key rs x.target) (k.common (record_at k rs x.target)).active (is_some (k.common (record_at k rs x.target)).notification)
          (λ there. (held.quiet x.target there).1 (held.holders_await.waiting x c there));
    };
    counted = record { closed = shut k missing rs part live waiting; few = few; counted = held.counted };
    holders_await = held.holders_await;
    leads = record { after = resting rs live waiting; replay = at_the_end; records = refl; live = refl; waiting = refl };
    tally = refl;
    counts = add_up;
    short = omega arith;
  }

  -- Lemmas about records that are equal as far as notifications depend on them.

  pub record AreSame (r s : R) : Type 0 where
    pub active : (k.common s).active ≡ (k.common r).active
    pub pending : (k.common s).pending ≡ (k.common r).pending
    pub notification : (k.common s).notification ≡ (k.common r).notification

  pub same_itself : (r : R) → AreSame r r
  same_itself r = record { active = refl; pending = refl; notification = refl }

  -- These records are some of those.
  pub record Within (all some : Records R) : Type 0 where
    pub there : (n : ℕ) → IsSome (get some n) → IsSome (get all n)
    pub same : (n : ℕ) → IsSome (get some n) → AreSame (record_at k all n) (record_at k some n)

  pub within_itself : (rs : Records R) → Within rs rs
  within_itself rs = record { there = λ n is. is; same = λ n is. same_itself (record_at k rs n) }

  pub within_on : (a b c : Records R) → Within a b → Within b c → Within a c
  within_on a b c one two = record {
    there = λ n is. one.there n (two.there n is);
    same = λ n is. let first = one.same n (two.there n is) in let second = two.same n is in
        record { active = second.active ∙ first.active; pending = second.pending ∙ first.pending; notification = second.notification ∙ first.notification };
  }

  one_same : (all some : Records R) (n : ℕ) → get some n ≡ get all n → AreSame (record_at k all n) (record_at k some n)
  one_same all some n is = subst (λ (o : Option R). AreSame (record_at k all n) (unwrap_or o k.missing)) (sym is) (same_itself (record_at k all n))

  one_there : (all some : Records R) (n : ℕ) → get some n ≡ get all n → IsSome (get some n) → IsSome (get all n)
  one_there all some n is there = subst (λ (o : Option R). IsSome o) is there

  pub within_first : (all one other : Records R) → AreShared (get all) (get one) (get other) → Within all one
  within_first all one other shared = record {
    there = λ n is. ⊎_elim (λ p. one_there all one n p.0 is) (λ p. absurd (none_some (get one n) p.0 is)) (shared n);
    same = λ n is. ⊎_elim (λ p. one_same all one n p.0) (λ p. absurd (none_some (get one n) p.0 is)) (shared n);
  }

  pub within_second : (all one other : Records R) → AreShared (get all) (get one) (get other) → Within all other
  within_second all one other shared = record {
    there = λ n is. ⊎_elim (λ p. absurd (none_some (get other n) p.1 is)) (λ p. one_there all other n p.1 is) (shared n);
    same = λ n is. ⊎_elim (λ p. absurd (none_some (get other n) p.1 is)) (λ p. one_same all other n p.1) (shared n);
  }

  -- Replacing one record adds none.
  set_there : (b : Bool) (x : R) (o : Option R) → (b ≡ true → IsSome o) → IsSome (cond b (Some x) o) → IsSome o
  set_there true x o here is = here refl
  set_there false x o here is = is

  set_same : (b : Bool) (x r : R) (o : Option R) → unwrap_or o k.missing ≡ r → (b ≡ true → AreSame r x) → AreSame r (unwrap_or (cond b (Some x) o) k.missing)
  set_same true x r o is here = here refl
  set_same false x r o is here = subst (λ (y : R). AreSame r y) (sym is) (same_itself r)

  pub within_set : (rs : Records R) (s : ℕ) (x : R) → IsSome (get rs s) → AreSame (record_at k rs s) x → Within rs (insert rs s x)
  within_set rs s x there same = record {
    there = λ n is. set_there (eqb n s) x (get rs n) (λ e. subst (λ (q : ℕ). IsSome (get rs q)) (sym (eqb-true n s e)) there) (subst (λ (o : Option R). IsSome o) (get-insert k rs s x n) is);
    same = λ n is. subst (λ (o : Option R). AreSame (record_at k rs n) (unwrap_or o k.missing)) (sym (get-insert k rs s x n))
        (set_same (eqb n s) x (record_at k rs n) (get rs n) refl (λ e. subst (λ (q : ℕ). AreSame (record_at k rs q) x) (sym (eqb-true n s e)) same));
  }

  module _ (lawful : IsLawful k) where
    -- Setting a link keeps the relation.
    pub within_relinked : (rs : Records R) (s : ℕ) (field : FieldNo) (link : LinkField) → IsSome (get rs s) → Within rs (relinked k rs s field link)
    within_relinked rs s field link there =
        let same = lawful.link_set_common (record_at k rs s) field link in
        within_set rs s (k.with_link (record_at k rs s) field link) there
        (record { active = ap (λ (c : Common). c.active) same; pending = ap (λ (c : Common). c.pending) same; notification = ap (λ (c : Common). c.notification) same })

  -- Lemmas about some of the records that are held.

  pub part_live : (all some : Records R) (waiting : List Waiting) (live : List Live) → Within all some → AreLive k all waiting live → AreLive k some waiting live
  part_live all some waiting live within are = record {
    has = λ s n there is. are.has s n (within.there s there) (sym (within.same s there).notification ∙ is);
    waits = are.waits;
  }

  pub part_held : (all some : Records R) (live then : List Live) (waiting others : List Waiting) → Within all some → AreHeld k all live waiting
      → ((x : Waiting) → Contains others x → Contains waiting x) → HoldersCounted k (resting some then others) → AreHeld k some then others
  unfolding at
  part_held all some live then waiting others within held of counted = record {
    quiet = λ n there. let same = within.same n there in
        subst (λ (b : Bool). IsTrue b ↔ IsSome (k.common (record_at k some n)).pending) (sym same.active)
        (subst (λ (o : Option ℕ). IsTrue (k.common (record_at k all n)).active ↔ IsSome o) (sym same.pending) (held.quiet n (within.there n there)));
    holders_await = record {
      records = λ n there noted. let same = within.same n there in
          subst (λ (o : Option ℕ). IsSome o) (sym same.pending) (held.holders_await.records n (within.there n there) (subst (λ (o : Option ℕ). IsSome o) same.notification noted));
      waiting = λ x c there. subst (λ (o : Option ℕ). IsSome o) (sym (within.same x.target there).pending) (held.holders_await.waiting x (of x c) (within.there x.target there));
    };
    counted = counted;
  }

  -- Lemmas about a change of a scan list.

  module _ (lawful : IsLawful k) (live : List Live) (waiting : List Waiting) where
    -- The records are held as before, with the same parts of each put with notification.
    pub record StaysHeld (before after : Records R) : Type 0 where
      pub within : Within before after
      pub counted : HoldersCounted k (resting after live waiting)

    weight-at : (n : ℕ) (o : Option R) → IsSome o → weight_of (one_if_has k n) o ≡ one_if_has k n (unwrap_or o k.missing)
    weight-at n None there = cc
    weight-at n (Some r) there = refl

    same-total : (rs : Records R) (s : ℕ) (x : R) → IsSome (get rs s) → AreSame (record_at k rs s) x → (n : ℕ) → total (one_if_has k n) (entries (insert rs s x)) ≡ total (one_if_has k n) (entries rs)
    same-total rs s x there same n =
        let all = total-insert (one_if_has k n) rs s x in
        let was = weight-at n (get rs s) there in
        let is : one_if_has k n x ≡ one_if_has k n (record_at k rs s) = ap (λ (o : Option ℕ). one_if (is_notification n o)) same.notification in
        omega (arith, all, was, is)

    set-counted : (rs : Records R) (s : ℕ) (x : R) → IsSome (get rs s) → AreSame (record_at k rs s) x → HoldersCounted k (resting rs live waiting) → HoldersCounted k (resting (insert rs s x) live waiting)
    unfolding holders
    set-counted rs s x there same counted =
        let more = how_many (λ (y : Waiting). y.number) in
        record {
          counted = λ n. counted.counted n ∙ ap (λ (a : ℕ). a + more n waiting) (sym (same-total rs s x there same n));
          live = λ n. counted.live n ∙ ap (λ (a : ℕ). one_if (nat_lt 0 (a + more n waiting))) (sym (same-total rs s x there same n));
          waits_once = counted.waits_once;
        }

    numbered-stays : (w : World R) (s : ℕ) → Has w s → HoldersCounted k (resting w.records live waiting) → StaysHeld w.records (changed k w s change_numbered).records
    unfolding at changed put
    numbered-stays w s there counted =
        let r = record_at k w.records s in
        let x = k.with_common r (change_numbered (k.common r)) in
        let set = lawful.common_set r (change_numbered (k.common r)) in
        let same : AreSame r x = record { active = ap (λ (c : Common). c.active) set; pending = ap (λ (c : Common). c.pending) set; notification = ap (λ (c : Common). c.notification) set } in
        record { within = within_set w.records s x there same; counted = set-counted w.records s x there same counted }

    itself-stays : (w : World R) → HoldersCounted k (resting w.records live waiting) → StaysHeld w.records w.records
    itself-stays w counted = record { within = within_itself w.records; counted = counted }

    pub rewired-stays : (before : List ℕ) (w : World R) (s : ℕ) → Has w s → HoldersCounted k (resting w.records live waiting) → StaysHeld w.records (rewired k before w s).records
    unfolding lost
    rewired-stays before w s there counted =
        rewired-either k (λ (x : World R). StaysHeld w.records x.records) before w s (itself-stays w counted)
        (moved-either k (λ (x : World R). StaysHeld w.records x.records) w s
        (λ item. subst (λ (x : World R). StaysHeld w.records x.records) (sent_by item (changed k w s change_numbered)) (numbered-stays w s there counted)) (itself-stays w counted))

-- Two sets on which none is live may become one.
pub none_may : {R D : Type 0} (h other : SetState R D) → NoneIsLive h → NoneIsLive other → MayBeOne h other
none_may h other none other_none =
    let no : ℕ = length (together [] []) in
    let live : length (together h.live other.live) ≡ no = ap (λ (l : List Live). length (together l other.live)) none.0 ∙ ap (λ (l : List Live). length (together [] l)) other_none.0 in
    let waits : length h.waiting ≡ 0 = ap (λ (l : List Waiting). length l) none.1 in
    let other_waits : length other.waiting ≡ 0 = ap (λ (l : List Waiting). length l) other_none.1 in
    record {
      own = λ x c. absurd (none_in x (subst (λ (l : List Waiting). Contains l x) none.1 c));
      others_own = λ x c. absurd (none_in x (subst (λ (l : List Waiting). Contains l x) other_none.1 c));
      apart = λ x y c d. absurd (none_in x (subst (λ (l : List Waiting). Contains l x) none.1 c));
      live_fits = omega (arith, live);
      waiting_fits = omega (arith, waits, other_waits);
    }

-- Lemmas about waiting puts that stay with their records.

own-one : (n t : ℕ) (here : Bool) → (eqb t n ≡ true → here ≡ true) → here ≡ false → eqb t n ≡ false
own-one n t here has is = elim (eqb t n) as (λ b. (b ≡ true → here ≡ true) → b ≡ false) [
  | true ↦ λ f. absurd (let z : false ≡ true = sym is ∙ f refl in cc)
  | false ↦ λ f. refl
] has

module _ {R : Type 0} (rs : Records R) where
  at-own : (n : ℕ) → contains_key rs n ≡ true → (ws : List Waiting) → at_record n (own_waiting rs ws) ≡ at_record n ws
  at-own n there [] = refl
  at-own n there (x ∷ ws) =
      let rest = at-own n there ws in
      elim (contains_key rs x.target) as (λ b. contains_key rs x.target ≡ b → at_record n (cond b (x ∷ own_waiting rs ws) (own_waiting rs ws)) ≡ cond (nat_eq x.target n) (x ∷ at_record n ws) (at_record n ws)) [
        | true ↦ λ _. ap (λ (l : List Waiting). cond (nat_eq x.target n) (x ∷ l) l) rest
        | false ↦ λ gone.
            let apart = own-one n x.target (contains_key rs x.target) (λ e. ap (λ (q : ℕ). contains_key rs q) (eqb-true x.target n e) ∙ there) gone in
            rest ∙ sym (ap (λ (b : Bool). cond b (x ∷ at_record n ws) (at_record n ws)) apart)
      ] refl

  pub goes_along : (before after : List Waiting) → after ≡ own_waiting rs before → WaitsGoAlong before rs after
  goes_along before after is = record {
    same = λ n there. ap (λ (l : List Waiting). at_record n l) is ∙ at-own n there before;
    own = λ x c. (passes-there (λ (y : Waiting). contains_key rs y.target) before x (subst (λ (l : List Waiting). Contains l x) is c)).1;
  }

  pub of-before : (before after : List Waiting) → after ≡ own_waiting rs before → (x : Waiting) → Contains after x → Contains before x
  of-before before after is x c = (passes-there (λ (y : Waiting). contains_key rs y.target) before x (subst (λ (l : List Waiting). Contains l x) is c)).0
