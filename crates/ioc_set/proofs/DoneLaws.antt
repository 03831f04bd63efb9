-- The state of a lock set after an event was done on its records.
use Rattle.std.proofs.Common.{◌≡◌, ◌≤◌, ◌<◌, ◌+◌, ◌⊎◌, inl, inr, ℕ, Bool, true, false, cond, List, [], ◌∷◌, ◌++◌, length, refl, sym, ap, ◌∙◌, subst, arith}
use Rattle.std.specs.Prelude.{◌==◌, ◌||◌}
use Rattle.std.proofs.lemmas.Bool.Decides.{nat_tests}
use Rattle.std.proofs.lemmas.List.{length-append}
use Rattle.std.specs.FinMap.{get}
use Rattle.ioc_device.specs.declared.Ask.{Ask}
use Rattle.ioc_device.specs.declared.Answer.{Answer}
use Rattle.ioc_ledger.specs.declared.tally.Tally.{Tally}
use Rattle.ioc_notify.specs.declared.live_numbers.Live.{Live}
use Rattle.ioc_notify.specs.declared.waiting_lists.Waiting.{Waiting}
use Rattle.ioc_record.specs.RecordRules.{RecordRules}
use Rattle.ioc_set_records.specs.Contents.{Devices, Contents, RecordsAreLikeTheirBase}
use Rattle.ioc_store.specs.World.{World, Keeps, at, begun, begun_at}
use Rattle.ioc_store.specs.Given.{DevicesWork}
use Rattle.ioc_events.specs.declared.event.Event.{Event}
use Rattle.ioc_events.specs.declared.event.EventEntry.{EventEntry}
use Rattle.ioc_set.specs.declared.set_store.SetStore.{SetStore}
use Rattle.ioc_set.specs.SetStore.{world_of}
use Rattle.ioc_set.specs.SetState.{SetState, now_of, folded, done_by, held_after}
use Rattle.ioc_set.specs.Resting.{resting}
use Rattle.ioc_set.specs.Sound.{IsSound, TellsOf}
use Rattle.ioc_set.specs.Puts.{Puts}
use Rattle.ioc_set.specs.Doing.{held_by, is_full, with_place, with_kept, Did, Does}

not_full : (a b : Bool) → (a || b) ≡ false → a ≡ false
not_full false b is = refl
not_full true b is = absurd cc

below : (n : ℕ) → (n == 64) ≡ false → n ≤ 64 → n < 64
below n e l = grind (arith, nat_tests)

below_full : (most n : ℕ) → is_full most n ≡ false → n ≤ 64 → n < 64
below_full most n e l = below n (not_full (n == 64) _ e) l

-- A history with room for one more entry is short once it has that.
pub is_short : {A : Type 0} (most : ℕ) (before grown : List A) (x : A) → grown ≡ before ++ x ∷ [] → (length before < most) ⊎ (before ≡ []) → (length grown ≤ most) ⊎ (length grown ≤ 1)
is_short most before grown x is (inl few) =
    let count : length grown ≡ length before + 1 = ap (λ l. length l) is ∙ length-append before (x ∷ []) in
    inl (omega (arith, count, few))
is_short most before grown x is (inr none) =
    let count : length grown ≡ length before + 1 = ap (λ l. length l) is ∙ length-append before (x ∷ []) in
    let empty : length before ≡ 0 = ap (λ l. length l) none in
    inr (omega (arith, count, empty))

module _ {R D : Type 0} where
  abbrev placed : Bool → SetState R D → SetState R D
  placed full h = cond full (folded h) h

  placed_now : (full : Bool) (h : SetState R D) → now_of (placed full h) ≡ now_of h
  placed_now true h = refl
  placed_now false h = refl

  placed_devices : (full : Bool) (h : SetState R D) → (placed full h).devices ≡ h.devices
  placed_devices true h = refl
  placed_devices false h = refl

  placed_short : (most : ℕ) (full : Bool) (h : SetState R D) → is_full most (length h.history) ≡ full → length h.history ≤ 64 → length (placed full h).history < 64
  placed_short most true h is short = omega arith
  placed_short most false h is short = below_full most (length h.history) is short

  -- Making a place for one more event keeps the current state.
  pub now_kept : (most : ℕ) (h h' : SetState R D) → h' ≡ with_place most h → now_of h' ≡ now_of h
  now_kept most h h' is = ap (λ (z : SetState R D). now_of z) is ∙ placed_now (is_full most (length h.history)) h

  -- The state of a set doesn't depend on the reserved room.
  pub same_held : (c : Contents R D) (p q : Puts) (b t : Tally) (entries : List EventEntry) → q.live ≡ p.live → q.waiting ≡ p.waiting → q.base_live ≡ p.base_live → q.base_waiting ≡ p.base_waiting
      → held_by c q b t entries ≡ held_by c p b t entries
  same_held c p q b t entries live waiting base_live base_waiting = λ i. record {
    records = c.records;
    devices = c.devices;
    live = live i;
    waiting = waiting i;
    tally = t;
    base = record { records = c.base; live = base_live i; waiting = base_waiting i; tally = b };
    history = entries;
  }

  module _ (k : RecordRules R) where
    placed_sound : ((h : SetState R D) → IsSound k h → IsSound k (folded h)) → (full : Bool) (h : SetState R D) → IsSound k h → IsSound k (placed full h)
    placed_sound fold true h sound = fold h sound
    placed_sound fold false h sound = sound

    alike : (before after : Contents R D) (live : List Live) (waiting : List Waiting) (moment : ℕ) (w : World R) → Keeps k (begun_at moment (resting before.records live waiting)) w → after.records ≡ w.records → after.base ≡ before.base
        → RecordsAreLikeTheirBase k before → RecordsAreLikeTheirBase k (record { records = w.records; devices = after.devices; base = before.base })
    unfolding at begun_at begun
    alike before after live waiting moment w keeps rs base like q there =
        let was = like q (keeps.only q there) in
        let same = keeps.links q in
        record { same_type = was.same_type ∙ sym same.record_type; same_links = was.same_links ∙ sym same.links }

    pub alike_after : (before after : Contents R D) (live : List Live) (waiting : List Waiting) (moment : ℕ) (w : World R) → Keeps k (begun_at moment (resting before.records live waiting)) w → after.records ≡ w.records → after.base ≡ before.base
        → RecordsAreLikeTheirBase k before → RecordsAreLikeTheirBase k after
    alike_after before after live waiting moment w keeps rs base like =
        let same : record { records = w.records; devices = after.devices; base = before.base } ≡ after = λ i. record { records = sym rs i; devices = after.devices; base = sym base i } in
        subst (λ (c : Contents R D). RecordsAreLikeTheirBase k c) same (alike before after live waiting moment w keeps rs base like)

    module _ (gives : D → Ask → ℕ → Answer → D → Type 0) (most : ℕ) (h : SetState R D) (before : Contents R D) (was : Puts) (b t : Tally) (entries : List EventEntry) (held : held_by before was b t entries ≡ with_place most h)
        (entry : EventEntry) (after : Contents R D) (is : Puts) (counts : Tally) (store : SetStore R D) (did : Did k gives before was t entry after is counts store)
        (grown : List EventEntry) (grows : grown ≡ entries ++ entry ∷ []) where
      same_after : held_by after is b counts grown ≡ held_after k (held_by before was b t entries) entry after.devices
      same_after = λ i. record {
        records = did.records i;
        devices = after.devices;
        live = (did.puts i).live;
        waiting = (did.puts i).waiting;
        tally = did.tally i;
        base = record { records = did.base i; live = (did.puts i).base_live; waiting = (did.puts i).base_waiting; tally = b };
        history = grows i;
      }

      tells : TellsOf k (held_by before was b t entries) entry
      tells = record { reply = did.reply; answers = did.answers }

      pub sound_then : ((h : SetState R D) (entry : EventEntry) (devices : Devices D) → IsSound k h → length h.history < 64 → TellsOf k h entry → IsSound k (held_after k h entry devices))
          → ((h : SetState R D) → IsSound k h → IsSound k (folded h)) → IsSound k h → IsSound k (held_by after is b counts grown)
      sound_then event fold sound =
          let full = is_full most (length h.history) in
          let ready = subst (λ (z : SetState R D). IsSound k z) (sym held) (placed_sound fold full h sound) in
          let short = subst (λ (z : SetState R D). length z.history < 64) (sym held) (placed_short most full h refl sound.short) in
          subst (λ (z : SetState R D). IsSound k z) (sym same_after) (event (held_by before was b t entries) entry after.devices ready short tells)

      pub does : (moment : ℕ) (event : Event) → entry.moment ≡ moment → entry.event ≡ event → Does k gives most h moment event entry.reply (held_by after is b counts grown) (world_of store)
      does moment event at_moment is_event =
          let full = is_full most (length h.history) in
          let now : now_of (held_by before was b t entries) ≡ now_of h = ap (λ (z : SetState R D). now_of z) held ∙ placed_now full h in
          let devices : before.devices ≡ h.devices = ap (λ (z : SetState R D). z.devices) held ∙ placed_devices full h in
          record {
            entry = entry;
            moment = at_moment;
            event = is_event;
            answer = refl;
            tells = subst (λ (z : SetState R D). TellsOf k z entry) held tells;
            after = same_after ∙ ap (λ (z : SetState R D). held_after k z entry after.devices) held;
            work =
                subst (λ (m : ℕ). DevicesWork gives (get h.devices) m (done_by k (now_of h) entry).world.calls (get after.devices)) at_moment
                (subst (λ (w : World R). DevicesWork gives (get h.devices) entry.moment (done_by k w entry).world.calls (get after.devices)) now
                (subst (λ (ds : Devices D). DevicesWork gives (get ds) entry.moment (done_by k (now_of (held_by before was b t entries)) entry).world.calls (get after.devices)) devices did.work));
            left = subst (λ (w : World R). with_kept after.records is.live is.waiting (world_of store) ≡ (done_by k w entry).world) now did.left;
          }
