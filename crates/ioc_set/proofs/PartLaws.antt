-- The result of the steps of a link change that divides a set.
use Rattle.std.proofs.Common.{◌≡◌, ℕ, List, refl, sym, ap, subst, ◌∙◌}
use Rattle.std.specs.Prelude.{IsSome, Contains}
use Rattle.std.specs.FinMap.{get}
use Rattle.ioc_fields.specs.declared.field_no.FieldNo.{FieldNo}
use Rattle.ioc_dbcommon.specs.declared.link_field.LinkField.{LinkField}
use Rattle.ioc_notify.specs.declared.live_numbers.Live.{Live}
use Rattle.ioc_notify.specs.declared.waiting_lists.Waiting.{Waiting}
use Rattle.ioc_notify.specs.Waits.{at_record}
use Rattle.ioc_record.specs.RecordRules.{RecordRules}
use Rattle.ioc_record.specs.Laws.{IsLawful}
use Rattle.ioc_set_records.specs.Contents.{Records, Devices}
use Rattle.ioc_set_records.specs.Joined.{AreShared, relinked}
use Rattle.ioc_store.specs.World.{World, Has, Keeps, at, begun, begun_at, put}
use Rattle.ioc_store.specs.Scanning.{device_of, rewired}
use Rattle.ioc_set.specs.SetState.{SetState, now_of}
use Rattle.ioc_set.specs.Resting.{resting}
use Rattle.ioc_set.specs.Doing.{with_kept}
use Rattle.ioc_set.specs.Linking.{with_empty_history, FallsApart, link_change_of}
use Rattle.ioc_ledger.specs.Requests.{added}
use Rattle.ioc_set.proofs.Linked.{has_begun, was_begun}
use Rattle.ioc_set.proofs.Rescans.{rewired-keeps, own_record, rescanned_left, rescanned_shared}

has_records : {R : Type 0} (w : World R) (n : ℕ) → Has w n → IsSome (get w.records n)
has_records w n there = there

module _ {R D : Type 0} (k : RecordRules R) (h : SetState R D) (moment s : ℕ) (field : FieldNo) (link : LinkField) where
  -- The records with the link set, and the device link before.
  abbrev linked : Records R
  linked = relinked k h.records s field link

  abbrev device : List ℕ
  device = device_of k (at k (now_of h) s)

  abbrev changed : World R
  changed = link_change_of k h moment s field link

  pub changes : changed ≡ rewired k device (begun_at moment (resting linked h.live h.waiting)) s
  unfolding at put begun_at begun
  changes = refl

  module _ (lawful : IsLawful k) (stay rest after : SetState R D) (falls : FallsApart h linked s stay rest) (before : List ℕ) (is_before : before ≡ device) (come_to : World R)
      (left : with_kept after.records stay.live stay.waiting come_to ≡ rewired k before (begun_at moment (now_of stay)) s) (held : after ≡ with_empty_history after.records stay.devices stay.live stay.waiting stay.tally) where
    sends : with_kept after.records stay.live stay.waiting come_to ≡ rewired k device (begun_at moment (now_of stay)) s
    sends = left ∙ ap (λ (d : List ℕ). rewired k d (begun_at moment (now_of stay)) s) is_before

    records_then : after.records ≡ (rewired k device (begun_at moment (now_of stay)) s).records
    records_then = ap (λ (w : World R). w.records) sends

    keeps : Keeps k (begun_at moment (now_of stay)) (rewired k device (begun_at moment (now_of stay)) s)
    keeps = rewired-keeps k lawful device (begun_at moment (now_of stay)) s (has_begun stay.records stay.live stay.waiting moment s falls.own)

    there_then : (n : ℕ) → IsSome (get stay.records n) → IsSome (get after.records n)
    there_then n there =
        subst (λ (x : Records R). IsSome (get x n)) (sym records_then)
        (has_records (rewired k device (begun_at moment (now_of stay)) s) n (keeps.has n (has_begun stay.records stay.live stay.waiting moment n there)))

    there_before : (n : ℕ) → IsSome (get after.records n) → IsSome (get stay.records n)
    there_before n there = was_begun stay.records stay.live stay.waiting moment n (keeps.only n (subst (λ (x : Records R). IsSome (get x n)) records_then there))

    waiting_then : after.waiting ≡ stay.waiting
    waiting_then = ap (λ (x : SetState R D). x.waiting) held

    devices_then : after.devices ≡ stay.devices
    devices_then = ap (λ (x : SetState R D). x.devices) held

    pub parts : FallsApart h changed.records s after rest
    parts = record {
      shared =
          subst (λ (w : World R). AreShared (get w.records) (get after.records) (get rest.records)) (sym changes)
          (subst (λ (x : Records R). AreShared (get (rewired k device (begun_at moment (resting linked h.live h.waiting)) s).records) (get x) (get rest.records)) (sym records_then)
          (rescanned_shared k moment s device h.live stay.live h.waiting stay.waiting linked stay.records rest.records falls.shared falls.own));
      devices = subst (λ (x : Devices D). AreShared (get h.devices) (get x) (get rest.devices)) (sym devices_then) falls.devices;
      own = there_then s falls.own;
      waiting = record {
        same = λ n there. ap (λ (l : List Waiting). at_record n l) waiting_then ∙ falls.waiting.same n (there_before n there);
        own = λ x c. there_then x.target (falls.waiting.own x (subst (λ (l : List Waiting). Contains l x) waiting_then c));
      };
      rest_waiting = falls.rest_waiting;
      none_live = λ none. let both = falls.none_live none in ((ap (λ (x : SetState R D). x.live) held ∙ both.0.0, waiting_then ∙ both.0.1), both.1);
      stays =
          held ∙ ap (λ (x : Devices D). with_empty_history after.records x stay.live stay.waiting stay.tally) (sym devices_then)
          ∙ ap (λ (l : List Live). with_empty_history after.records after.devices l stay.waiting stay.tally) (sym (ap (λ (x : SetState R D). x.live) held))
          ∙ ap (λ (l : List Waiting). with_empty_history after.records after.devices after.live l stay.tally) (sym waiting_then)
          ∙ ap (λ (x : SetState R D). with_empty_history after.records after.devices after.live after.waiting x.tally) falls.stays;
      leaves = falls.leaves;
      few = falls.few;
      together = ap (λ (x : SetState R D). added x.tally rest.tally) held ∙ falls.together;
    }

    pub comes_to : with_kept changed.records h.live h.waiting come_to ≡ changed
    comes_to =
        ap (λ (w : World R). with_kept changed.records h.live h.waiting w) sends
        ∙ ap (λ (w : World R). with_kept w.records h.live h.waiting (rewired k device (begun_at moment (now_of stay)) s)) changes
        ∙ rescanned_left k moment s device h.live stay.live h.waiting stay.waiting linked stay.records (own_record k moment s device linked stay.records rest.records falls.shared falls.own)
        ∙ sym changes
