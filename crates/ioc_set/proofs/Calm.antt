-- Calm records: if no put with notification is live, each record of a sound set is calm, and calm
-- records make a sound set with an empty history.
use Rattle.std.proofs.Common.{◌≡◌, ◌≢◌, ℕ, ◌<◌, ◌^◌, true, false, cond, eqb, List, [], Option, Some, None, refl, sym, ap, subst, ◌∙◌, arith}
use Rattle.std.specs.Prelude.{◌↔◌, IsSome, is_some, unwrap_or, Contains}
use Rattle.std.specs.Option.{option_map}
use Rattle.std.specs.FinMap.{get, insert, gets, len}
use Rattle.std.proofs.lemmas.Grind.{common_steps}
use Rattle.ioc_ledger.specs.declared.tally.Tally.{Tally}
use Rattle.ioc_notify.specs.declared.live_numbers.Live.{Live}
use Rattle.ioc_notify.specs.declared.waiting_lists.Waiting.{Waiting}
use Rattle.ioc_notify.specs.Living.{is_live}
use Rattle.ioc_record.specs.RecordRules.{RecordRules, targets}
use Rattle.ioc_set_records.specs.Contents.{Records, Devices, record_at}
use Rattle.ioc_set_records.specs.Joined.{links_of, IsPart}
use Rattle.ioc_store.specs.World.{World, Has, IsClosed, at, common_at}
use Rattle.ioc_events.specs.EventReplay.{at_the_end}
use Rattle.ioc_events.specs.Holding.{IsCounted, IsHeld, by_a_record}
use Rattle.ioc_set.specs.Awaiting.{awaited}
use Rattle.ioc_set.specs.SetState.{SetState, now_of}
use Rattle.ioc_set.specs.Resting.{resting}
use Rattle.ioc_set.specs.Linking.{with_empty_history, AreCalm}
use Rattle.ioc_set.specs.Sound.{IsSound, CountsAddUp}
use Rattle.ioc_set.proofs.Entries.{none_some}

pub none_in : {A : Type 0} (x : A) → Contains [] x → ⊥
none_in x c = let l = c.1 in omega arith

module _ {R : Type 0} (k : RecordRules R) where
  -- Lemmas about the records of a sound set.

  module _ (live : (w : World R) (n : ℕ) → IsCounted k w → (is_live n w.live ≡ true) ↔ IsHeld k w n) {D : Type 0} (h : SetState R D) (sound : IsSound k h) (none : h.live ≡ []) where
    none_has : (n : ℕ) → Has (now_of h) n → (o : Option ℕ) → (common_at k (now_of h) n).notification ≡ o → o ≡ None
    none_has n there None is = refl
    none_has n there (Some number) is =
        let held : is_live number h.live ≡ true = (live (now_of h) number sound.counted).1 (by_a_record n there is) in
        absurd (let z : false ≡ true = sym (ap (is_live number) none) ∙ held in cc)

    pub sound_calm : AreCalm k h.records
    unfolding at
    sound_calm n there = record { quiet = sound.settled.quiet.quiet n there; free = let is = none_has n there (common_at k (now_of h) n).notification refl in is }

  -- Lemmas about a set of calm records.

  module _ (missing : targets k k.missing ≡ []) (rs : Records R) (part : IsPart (links_of k rs)) where
    leads : (n target : ℕ) (o : Option R) → get rs n ≡ o → Contains (targets k (unwrap_or o k.missing)) target → IsSome (links_of k rs target)
    leads n target None is named = absurd (none_in target (subst (λ (l : List ℕ). Contains l target) missing named))
    leads n target (Some r) is named = part.closed n target (targets k r, ap (option_map (targets k)) is, named)

    linked_there : (o : Option R) → IsSome (option_map (targets k) o) → is_some o ≡ true
    linked_there None some = some
    linked_there (Some r) some = refl

    pub shut : (live : List Live) (waiting : List Waiting) → IsClosed k (resting rs live waiting)
    unfolding at
    shut live waiting = record { closed = λ n target named. linked_there (get rs target) (leads n target (get rs n) refl named) }

    pub calm_sound : ((w : World R) → IsClosed k w → len w.records < 2 ^ 63 → w.live ≡ [] → w.waiting ≡ [] → ((n : ℕ) → Has w n → (common_at k w n).notification ≡ None) → IsCounted k w)
        → AreCalm k rs → len rs < 2 ^ 63 → {D : Type 0} (ds : Devices D) (counts : Tally) → CountsAddUp counts (awaited k rs) → IsSound k (with_empty_history rs ds [] [] counts)
    unfolding at
    calm_sound first calm few ds counts add_up = record {
      part = part;
      settled = record { closed = shut [] []; quiet = record { quiet = λ n there. (calm n there).quiet } };
      none_ready = record { none = λ x c. absurd (none_in x c) };
      counted = first (resting rs [] []) (shut [] []) few refl refl (λ n there. (calm n there).free);
      holders_await = record { records = λ n there some. absurd (none_some (k.common (record_at k rs n)).notification (calm n there).free some); waiting = λ x c. absurd (none_in x c) };
      leads = record { after = resting rs [] []; replay = at_the_end; records = refl; live = refl; waiting = refl };
      tally = refl;
      counts = add_up;
      short = omega arith;
    }

  -- Lemmas about replacing one record.

  pub get-insert : (rs : Records R) (s : ℕ) (r : R) (q : ℕ) → get (insert rs s r) q ≡ cond (eqb q s) (Some r) (get rs q)
  get-insert rs s r q = elim (eqb q s) as (λ b. eqb q s ≡ b → get (insert rs s r) q ≡ cond b (Some r) (get rs q)) [
    | true ↦ λ is. let e : q ≡ s = grind (arith, common_steps) in rw e (grind (gets, arith, common_steps))
    | false ↦ λ is. let apart : q ≢ s = grind (arith, common_steps) in grind (gets, arith, common_steps)
  ] refl
