-- A held part stays held when a put with notification is canceled, and when an event begins.
use Rattle.std.proofs.Common.{◌≡◌, ℕ, List, None, refl, sym, ap, subst, ◌∙◌}
use Rattle.std.specs.Prelude.{◌==◌, not, Contains, option_map}
use Rattle.std.specs.FinMap.{get}
use Rattle.ioc_notify.specs.declared.waiting_lists.Waiting.{Waiting}
use Rattle.ioc_notify.specs.Waits.{at_record, without}
use Rattle.ioc_dbcommon.specs.Steps.{with_notification}
use Rattle.ioc_record.specs.RecordRules.{RecordRules, targets}
use Rattle.ioc_record.specs.Laws.{IsLawful}
use Rattle.ioc_store.specs.World.{World, Has, at, freed, begun, begun_at, cancelled}
use Rattle.ioc_store.specs.Freeing.{get-mapped, has-cancelled, at_cancelled-either}
use Rattle.ioc_store.specs.StepFrames.{targets-set}
use Rattle.ioc_events.proofs.RecordLists.{passes-there, taken-from_each}
use Rattle.ioc_journal.specs.Covering.{Holds}
use Rattle.ioc_journal.specs.Laws.{CancelIsHeld, BeginningIsHeld}

module _ {R : Type 0} (k : RecordRules R) where
  pub begins-held : BeginningIsHeld k
  unfolding at begun begun_at
  begins-held m v moment holds = record { records = holds.records; waiting = holds.waiting; within = holds.within; shut = record { closed = holds.shut.closed }; apart = holds.apart }

  module _ (lawful : IsLawful k) (number : ℕ) where
    get-same : (m v : World R) (q : ℕ) → get m.records q ≡ get v.records q → get (cancelled k number m).records q ≡ get (cancelled k number v).records q
    unfolding cancelled
    get-same m v q same = get-mapped (freed k number) m.records q ∙ ap (option_map (freed k number)) same ∙ sym (get-mapped (freed k number) v.records q)

    waiting-of : (w : World R) (q : ℕ) → at_record q (cancelled k number w).waiting ≡ without number (at_record q w.waiting)
    unfolding cancelled
    waiting-of w q = taken-from_each number q w.waiting

    waits-before : (w : World R) (x : Waiting) → Contains (cancelled k number w).waiting x → Contains w.waiting x
    unfolding cancelled
    waits-before w x c = (passes-there (λ (y : Waiting). not (y.number == number)) w.waiting x c).0

    there : (w : World R) (q : ℕ) → Has w q → Has (cancelled k number w) q
    there w q has = has-cancelled k number w q ∙ has

    was-there : (w : World R) (q : ℕ) → Has (cancelled k number w) q → Has w q
    was-there w q has = sym (has-cancelled k number w q) ∙ has

    named-as : (w : World R) (q : ℕ) → targets k (at k (cancelled k number w) q) ≡ targets k (at k w q)
    named-as w q = at_cancelled-either k number (λ r s. targets k s ≡ targets k r) (λ r. refl) (λ r. targets-set k lawful r (with_notification None (k.common r)) (refl, refl)) w q

    pub cancel-held : (m v : World R) → Holds k m v → Holds k (cancelled k number m) (cancelled k number v)
    cancel-held m v holds = record {
      records = λ q has. get-same m v q (holds.records q (was-there v q has));
      waiting = λ q has. waiting-of m q ∙ ap (without number) (holds.waiting q (was-there v q has)) ∙ sym (waiting-of v q);
      within = λ x c. there v x.target (holds.within x (waits-before v x c));
      shut = record { closed = λ q target c. there v target (holds.shut.closed q target (subst (λ (l : List ℕ). Contains l target) (named-as v q) c)) };
      apart = λ a q out has named.
          holds.apart a q (λ in_v. out (there v a in_v)) (was-there v q has) (subst (λ (l : List ℕ). Contains l q) (named-as m a) named);
    }

  pub cancels-held : (lawful : IsLawful k) → CancelIsHeld k
  cancels-held lawful m v number holds = cancel-held lawful number m v holds
