-- A link change of a held set that parts it in two.
use Rattle.std.proofs.Common.{◌≡◌, ℕ, List, refl, sym, ap, ◌∙◌}
use Rattle.ioc_fields.specs.declared.field_no.FieldNo.{FieldNo}
use Rattle.ioc_dbcommon.specs.declared.link_field.LinkField.{LinkField}
use Rattle.ioc_notify.specs.Waits.{at_record}
use Rattle.ioc_record.specs.RecordRules.{RecordRules}
use Rattle.ioc_store.specs.World.{World, Has, at, begun, begun_at, put}
use Rattle.ioc_store.specs.Scanning.{device_of}
use Rattle.ioc_events.proofs.Rewired.{rewired-leaves}
use Rattle.ioc_journal.specs.Key.{Key}
use Rattle.ioc_journal.specs.Legal.{map_of}
use Rattle.ioc_journal.specs.Covering.{Holds, Cover, AreHalves}
use Rattle.ioc_journal.specs.LinkChange.{TakesLink}
use Rattle.ioc_journal.specs.Laws.{LinkParts, HeldAlike}
use Rattle.ioc_set.specs.SetState.{SetState, now_of}
use Rattle.ioc_set.specs.Linking.{FallsApart, link_change_of}
use Rattle.ioc_journaled_set.specs.LinkLaws.{SetsPart}

module _ {R : Type 0} (k : RecordRules R) where
  -- A set that is held is held as an event begins.
  pub holds-begun : HeldAlike k → (m w : World R) (moment : ℕ) → Holds k m w → Holds k m (begun_at moment w)
  unfolding begun_at begun
  holds-begun alike m w moment holds = alike m w (begun_at moment w) holds refl refl

  cover-begun : (keys : List Key) (w : World R) (moment : ℕ) → Cover keys w → Cover keys (begun_at moment w)
  unfolding begun_at begun
  cover-begun keys w moment covers = covers

  takes-begun : (w : World R) (moment s : ℕ) (field : FieldNo) → TakesLink k w s field → TakesLink k (begun_at moment w) s field
  unfolding at begun_at begun
  takes-begun w moment s field takes = record { there = takes.there; has_link = takes.has_link; allowed = takes.allowed }

  has-begun : (w : World R) (moment t : ℕ) → Has w t → Has (begun_at moment w) t
  unfolding begun_at begun
  has-begun w moment t has = has

  waiting-begun : (w : World R) (moment : ℕ) → (begun_at moment w).waiting ≡ w.waiting
  unfolding begun_at begun
  waiting-begun w moment = refl

  module _ {D : Type 0} (h : SetState R D) (moment s : ℕ) (field : FieldNo) (link : LinkField) where
    changed-waiting : (link_change_of k h moment s field link).waiting ≡ h.waiting
    unfolding put
    changed-waiting = (rewired-leaves k (device_of k (at k (begun_at moment (now_of h)) s)) (put (begun_at moment (now_of h)) s (k.with_link (at k (begun_at moment (now_of h)) s) field link)) s).waiting
        ∙ waiting-begun (now_of h) moment

    pub change-halves : (stay rest : SetState R D) → FallsApart h (link_change_of k h moment s field link).records s stay rest → AreHalves (link_change_of k h moment s field link) (now_of stay) (now_of rest)
    change-halves stay rest falls = record {
      records = falls.shared;
      first = record { waiting = λ n has. falls.waiting.same n has ∙ ap (at_record n) (sym changed-waiting); within = falls.waiting.own };
      second = record { waiting = λ n has. falls.rest_waiting.same n has ∙ ap (at_record n) (sym changed-waiting); within = falls.rest_waiting.own };
    }

  pub sets-part : (D : Type 0) → LinkParts k → HeldAlike k → SetsPart D k
  sets-part D parts alike base log before stay rest desk call moment s field link keys sound legal holds covers takes within falls stay_sound rest_sound =
      parts base (begun_at moment (now_of before)) (now_of stay) (now_of rest) log desk call moment s field link keys sound legal
      (holds-begun alike (map_of k base log) (now_of before) moment holds) (cover-begun keys (now_of before) moment covers) (takes-begun (now_of before) moment s field takes)
      (λ t named. has-begun (now_of before) moment t (within t named)) (change-halves before moment s field link stay rest falls) stay_sound.settled.closed rest_sound.settled.closed
