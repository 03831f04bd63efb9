-- The invariant of lock sets after a link change.
use Rattle.std.proofs.Common.{◌≡◌, ℕ, ◌<◌, ◌^◌, List, [], ◌++◌, refl, sym, ap, subst, ◌∙◌}
use Rattle.std.specs.Prelude.{IsSome}
use Rattle.std.specs.FinMap.{get, len}
use Rattle.ioc_ledger.specs.Requests.{no_counts}
use Rattle.ioc_fields.specs.declared.field_no.FieldNo.{FieldNo}
use Rattle.ioc_dbcommon.specs.declared.link_field.LinkField.{LinkField}
use Rattle.ioc_ledger.specs.declared.tally.Tally.{Tally}
use Rattle.ioc_notify.specs.declared.live_numbers.Live.{Live}
use Rattle.ioc_notify.specs.declared.waiting_lists.Waiting.{Waiting}
use Rattle.ioc_record.specs.RecordRules.{RecordRules}
use Rattle.ioc_record.specs.Laws.{IsLawful}
use Rattle.ioc_set_records.specs.Contents.{Records, Devices, Contents, nothing, record_at, RecordsAreLikeTheirBase}
use Rattle.ioc_set_records.specs.Joined.{links_of, IsPart, AreShared, relinked}
use Rattle.ioc_store.specs.World.{Has, Keeps, at, begun, begun_at}
use Rattle.ioc_store.specs.Scanning.{rewired}
use Rattle.ioc_events.specs.declared.event.EventEntry.{EventEntry}
use Rattle.ioc_events.specs.Holding.{HoldersCounted}
use Rattle.ioc_set.specs.Awaiting.{awaited}
use Rattle.ioc_set.specs.Puts.{Puts, AreNone, HasBegun, begun_with}
use Rattle.ioc_set.specs.Recounting.{own_waiting}
use Rattle.ioc_set.specs.SetState.{SetState, now_of}
use Rattle.ioc_set.specs.Resting.{resting}
use Rattle.ioc_set.specs.Doing.{held_by}
use Rattle.ioc_set.specs.Linking.{with_empty_history, AreCalm, AreHeld, FallsApart, BecomeOne, awaited_alone}
use Rattle.ioc_ledger.specs.Requests.{added}
use Rattle.ioc_ledger.specs.Shared.{less_awaited}
use Rattle.ioc_set.specs.Sound.{IsSound, CountsAddUp}
use Rattle.ioc_set.proofs.Cleared.{HistoryIsCleared}
use Rattle.ioc_set.proofs.EmptyHistory.{WereNone, empty_history_without_puts, empty_history, begun_folded, own_base}
use Rattle.ioc_set.proofs.HeldRecords.{StaysHeld, rewired-stays, part_held, goes_along, Within, within_on, within_relinked, within_first, within_second}
use Rattle.ioc_set.proofs.DoneLaws.{alike_after}
use Rattle.ioc_set.proofs.NothingHeld.{none_held}
use Rattle.ioc_set.proofs.Rescans.{rewired-keeps}
use Rattle.ioc_set.proofs.Sounding.{sound_folded, part_kept}

pub has_begun : {R : Type 0} (rs : Records R) (live : List Live) (waiting : List Waiting) (moment n : ℕ) → IsSome (get rs n) → Has (begun_at moment (resting rs live waiting)) n
unfolding begun_at begun
has_begun rs live waiting moment n there = there

pub was_begun : {R : Type 0} (rs : Records R) (live : List Live) (waiting : List Waiting) (moment n : ℕ) → Has (begun_at moment (resting rs live waiting)) n → IsSome (get rs n)
unfolding begun_at begun
was_begun rs live waiting moment n there = there

counted_begun : {R : Type 0} (k : RecordRules R) (rs : Records R) (moment : ℕ) (live : List Live) (waiting : List Waiting) → HoldersCounted k (resting rs live waiting) → HoldersCounted k (resting (begun_at moment (resting rs [] [])).records live waiting)
unfolding begun_at begun
counted_begun k rs moment live waiting counted = counted

stays_begun : {R : Type 0} (k : RecordRules R) (lawful : IsLawful k) (rs after : Records R) (moment : ℕ) (live : List Live) (waiting : List Waiting)
    → StaysHeld k lawful live waiting (begun_at moment (resting rs [] [])).records after → StaysHeld k lawful live waiting rs after
unfolding begun_at begun
stays_begun k lawful rs after moment live waiting stays = stays

module _ {R : Type 0} (k : RecordRules R) where
  -- Lemmas about a change of a scan list.

  module _ (lawful : IsLawful k) (rs after : Records R) (before : List ℕ) (moment s : ℕ) (there : IsSome (get rs s))
      (is : after ≡ (rewired k before (begun_at moment (resting rs [] [])) s).records) where
    keeps : Keeps k (begun_at moment (resting rs [] [])) (rewired k before (begun_at moment (resting rs [] [])) s)
    keeps = rewired-keeps k lawful before (begun_at moment (resting rs [] [])) s (has_begun rs [] [] moment s there)

    pub rescanned_part : IsPart (links_of k rs) → IsPart (links_of k after)
    rescanned_part part = subst (λ (x : Records R). IsPart (links_of k x)) (sym is) (part_kept k rs [] [] moment (rewired k before (begun_at moment (resting rs [] [])) s) keeps part)

    pub rescanned_held : (live : List Live) (waiting : List Waiting) → AreHeld k rs live waiting → AreHeld k after live waiting
    rescanned_held live waiting held =
        let stays = stays_begun k lawful rs (rewired k before (begun_at moment (resting rs [] [])) s).records moment live waiting
        (rewired-stays k lawful live waiting before (begun_at moment (resting rs [] [])) s (has_begun rs [] [] moment s there) (counted_begun k rs moment live waiting held.counted)) in
        subst (λ (x : Records R). AreHeld k x live waiting) (sym is)
        (part_held k rs (rewired k before (begun_at moment (resting rs [] [])) s).records live live waiting waiting stays.within held (λ x c. c) stays.counted)

module _ {R : Type 0} (k : RecordRules R) where
  -- Lemmas about a set that is divided.

  module _ (lawful : IsLawful k) (s : ℕ) (field : FieldNo) (link : LinkField) (rs stay rest : Records R) (there : IsSome (get rs s)) (shared : AreShared (get (relinked k rs s field link)) (get stay) (get rest)) where
    pub stay_within : Within k rs stay
    stay_within = within_on k rs (relinked k rs s field link) stay (within_relinked k lawful rs s field link there) (within_first k (relinked k rs s field link) stay rest shared)

    pub rest_within : Within k rs rest
    rest_within = within_on k rs (relinked k rs s field link) rest (within_relinked k lawful rs s field link there) (within_second k (relinked k rs s field link) stay rest shared)

module _ {R D : Type 0} (k : RecordRules R) where
  -- The invariant of a set whose history is cleared.
  pub folded_holds : (before after : Contents R D) (p q : Puts) (b b' t : Tally) (entries entries' : List EventEntry) → after ≡ record before { base = before.records } → q ≡ begun_with p → b' ≡ t → entries' ≡ []
      → IsSound k (held_by before p b t entries) → IsSound k (held_by after q b' t entries') × RecordsAreLikeTheirBase k after
  folded_holds before after p q b b' t entries entries' is puts same none sound = (
    subst (λ (h : SetState R D). IsSound k h) (sym (begun_folded before after p q b b' t entries entries' is puts same none)) (sound_folded k (held_by before p b t entries) sound),
    own_base k after (ap (λ (c : Contents R D). c.base) is ∙ sym (ap (λ (c : Contents R D). c.records) is)),
  )

  -- The invariant of a set with an empty history.
  module _ (sound : (rs : Records R) (ds : Devices D) (live : List Live) (waiting : List Waiting) (counts : Tally) → IsPart (links_of k rs) → AreHeld k rs live waiting → len rs < 2 ^ 63 → CountsAddUp counts (awaited k rs)
      → IsSound k (with_empty_history rs ds live waiting counts)) where
    pub empty_history_is_sound : (c : Contents R D) (p : Puts) (b t : Tally) (entries : List EventEntry) → HasBegun p → c.base ≡ c.records → b ≡ t → entries ≡ [] → IsPart (links_of k c.records) → AreHeld k c.records p.live p.waiting
        → len c.records < 2 ^ 63 → CountsAddUp t (awaited k c.records) → IsSound k (held_by c p b t entries) × RecordsAreLikeTheirBase k c
    empty_history_is_sound c p b t entries begun base same none part held few add_up = (
      subst (λ (h : SetState R D). IsSound k h) (sym (empty_history c p b t entries begun base same none)) (sound c.records c.devices p.live p.waiting t part held few add_up),
      own_base k c base,
    )

  pub calm_holds : ((rs : Records R) (ds : Devices D) (counts : Tally) → IsPart (links_of k rs) → AreCalm k rs → len rs < 2 ^ 63 → CountsAddUp counts (awaited k rs) → IsSound k (with_empty_history rs ds [] [] counts))
      → (c : Contents R D) (p : Puts) (b t : Tally) (entries : List EventEntry) → WereNone p → c.base ≡ c.records → b ≡ t → entries ≡ [] → IsPart (links_of k c.records) → AreCalm k c.records → len c.records < 2 ^ 63 → CountsAddUp t (awaited k c.records)
      → IsSound k (held_by c p b t entries) × RecordsAreLikeTheirBase k c
  calm_holds sound c p b t entries puts base same none part calm few add_up = (
    subst (λ (h : SetState R D). IsSound k h) (sym (empty_history_without_puts c p b t entries puts base same none)) (sound c.records c.devices t part calm few add_up),
    own_base k c base,
  )

  -- Lemmas about a set that is divided, and about two that become one.

  pub fell_apart : (s : ℕ) (field : FieldNo) (link : LinkField) (h : SetState R D) (was stay rest : Contents R D) (whole p q : Puts) (count : ℕ) (all b t u v : Tally) (entries rest_entries : List EventEntry)
      → HistoryIsCleared k h was whole all → t ≡ less_awaited h.tally count
      → AreShared (get (relinked k was.records s field link)) (get stay.records) (get rest.records) → AreShared (get was.devices) (get stay.devices) (get rest.devices) → IsSome (get stay.records s)
      → p.waiting ≡ own_waiting stay.records whole.waiting → q.waiting ≡ own_waiting rest.records whole.waiting → (AreNone whole → AreNone p) → (AreNone whole → AreNone q)
      → HasBegun p → stay.base ≡ stay.records → b ≡ t → entries ≡ [] → HasBegun q → rest.base ≡ rest.records → u ≡ v → v ≡ awaited_alone count → rest_entries ≡ []
      → count < 2 ^ 63 → added (less_awaited h.tally count) (awaited_alone count) ≡ h.tally
      → FallsApart h (relinked k h.records s field link) s (held_by stay p b t entries) (held_by rest q u v rest_entries)
  fell_apart s field link h was stay rest whole p q count all b t u v entries rest_entries cleared counts shared devices own stay_waits rest_waits stay_none rest_none begun base same none rest_begun rest_base rest_same alone rest_forgotten few together =
      let started : v.started ≡ count = ap (λ (x : Tally). x.started) alone in
      record {
        shared = subst (λ (x : Records R). AreShared (get (relinked k x s field link)) (get stay.records) (get rest.records)) cleared.records shared;
        devices = subst (λ (x : Devices D). AreShared (get x) (get stay.devices) (get rest.devices)) cleared.devices devices;
        own = own;
        waiting = goes_along stay.records h.waiting p.waiting (stay_waits ∙ ap (λ (l : List Waiting). own_waiting stay.records l) cleared.waiting);
        rest_waiting = goes_along rest.records h.waiting q.waiting (rest_waits ∙ ap (λ (l : List Waiting). own_waiting rest.records l) cleared.waiting);
        none_live = λ dead. let nobody : AreNone whole = (cleared.live ∙ dead.0, cleared.waiting ∙ dead.1) in (stay_none nobody, rest_none nobody);
        stays =
            empty_history stay p b t entries begun base same none
            ∙ ap (λ (x : Tally). with_empty_history stay.records stay.devices p.live p.waiting x) (counts ∙ ap (λ (n : ℕ). less_awaited h.tally n) (sym started));
        leaves =
            empty_history rest q u v rest_entries rest_begun rest_base rest_same rest_forgotten
            ∙ ap (λ (x : Tally). with_empty_history rest.records rest.devices q.live q.waiting x) (alone ∙ ap awaited_alone (sym started));
        few = subst (λ (n : ℕ). n < 2 ^ 63) (sym started) few;
        together = ap (λ (x : Tally). added x v) counts ∙ ap (λ (x : Tally). added (less_awaited h.tally count) x) alone ∙ together;
      }

  pub became_one : (s : ℕ) (field : FieldNo) (link : LinkField) (h o : SetState R D) (was others both left : Contents R D) (one two p q : Puts) (t u sum : Tally) (none : Tally) (entries other_entries : List EventEntry)
      → HistoryIsCleared k h was one t → HistoryIsCleared k o others two u
      → AreShared (get both.records) (get (relinked k was.records s field link)) (get others.records) → AreShared (get both.devices) (get was.devices) (get others.devices)
      → p.waiting ≡ one.waiting ++ two.waiting → (AreNone one → AreNone two → AreNone p)
      → HasBegun p → both.base ≡ both.records → sum ≡ added t u → entries ≡ [] → left ≡ nothing → WereNone q → none ≡ no_counts → other_entries ≡ []
      → BecomeOne h o (relinked k h.records s field link) (held_by both p sum sum entries) (held_by left q none none other_entries)
  became_one s field link h o was others both left one two p q t u sum none entries other_entries first second shared devices waiting nobody begun base is_sum forgotten empty others_none zero other_forgotten = record {
    shared =
        subst (λ (x : Records R). AreShared (get both.records) (get (relinked k x s field link)) (get o.records)) first.records
        (subst (λ (x : Records R). AreShared (get both.records) (get (relinked k was.records s field link)) (get x)) second.records shared);
    devices =
        subst (λ (x : Devices D). AreShared (get both.devices) (get x) (get o.devices)) first.devices
        (subst (λ (x : Devices D). AreShared (get both.devices) (get was.devices) (get x)) second.devices devices);
    waiting = waiting ∙ ap (λ (l : List Waiting). l ++ two.waiting) first.waiting ∙ ap (λ (l : List Waiting). h.waiting ++ l) second.waiting;
    none_live = λ dead other_dead. nobody (first.live ∙ dead.0, first.waiting ∙ dead.1) (second.live ∙ other_dead.0, second.waiting ∙ other_dead.1);
    all =
        empty_history both p sum sum entries begun base refl forgotten
        ∙ ap (λ (x : Tally). with_empty_history both.records both.devices p.live p.waiting x) (is_sum ∙ ap (λ (x : Tally). added x u) first.tally ∙ ap (λ (x : Tally). added h.tally x) second.tally);
    emptied = none_held left q none none other_entries empty others_none zero zero other_forgotten;
  }

  pub rescanned_like : IsLawful k → (c after : Contents R D) (before : List ℕ) (moment s : ℕ) → IsSome (get c.records s) → after.records ≡ (rewired k before (begun_at moment (resting c.records [] [])) s).records
      → after.base ≡ c.base → RecordsAreLikeTheirBase k c → RecordsAreLikeTheirBase k after
  rescanned_like lawful c after before moment s there is base like =
      alike_after k c after [] [] moment (rewired k before (begun_at moment (resting c.records [] [])) s)
      (rewired-keeps k lawful before (begun_at moment (resting c.records [] [])) s (has_begun c.records [] [] moment s there)) is base like

  pub record_now : (h : SetState R D) (n : ℕ) → record_at k h.records n ≡ at k (now_of h) n
  unfolding at
  record_now h n = refl
