-- What a requested record takes over from the one that requests it.
use Rattle.std.proofs.Common.{◌≡◌, ap, ◌∙◌, sym, arith, refl, ℕ, Bool, true, false, ◌≤◌, Some}
use Rattle.ioc_dbcommon.specs.declared.common.Common.{Common}
use Rattle.ioc_dbcommon.specs.Steps.{with_put_mark, with_notification}
use Rattle.ioc_store.specs.Marks.{is_put_down, put_mark_passed}
use Rattle.ioc_store.specs.World.{common_at, changed, taken_on, at, World, Has, Keeps, idle}
use Rattle.ioc_store.specs.Given.{Answers}
use Rattle.ioc_process.specs.Processing.{ran, request, begun_idle}
use Rattle.ioc_process.specs.Frames.{asked_ran}
use Rattle.ioc_process.specs.Bodies.{ran-idle}
use Rattle.ioc_store.specs.Worlds.{common_at-changed}
use Rattle.ioc_process.specs.Depth.{stays-changed, passed-active, passed_on-idle}
use Rattle.ioc_process.specs.Alongside.{passed-links}
use Rattle.ioc_process.specs.Keeping.{keeps-changed, keeps_on, passed_on-keeps}
use Rattle.ioc_store.specs.NotifyLaws.{passed-either}
use Rattle.ioc_process.proofs.FrameSteps.{asked_ran-now}
use Rattle.ioc_store.specs.Notifying.{passed_on}
use Rattle.ioc_record.specs.RecordRules.{RecordRules}
use Rattle.ioc_record.specs.Laws.{IsLawful}

-- A requested record that takes over PUTF and the put with notification of its source keeps its
-- links.
pub handed : {R : Type 0} (k : RecordRules R) → IsLawful k → (w : World R) (s t : ℕ) (by_put : Bool) → Has w t → Keeps k w (passed_on k (changed k w t (put_mark_passed by_put)) s t)
handed k lawful w s t by_put there =
    let first = keeps-changed k lawful w t there (put_mark_passed by_put) (passed-links by_put) in
    keeps_on k first (passed_on-keeps k lawful _ s t (first.has t there))

pub handed-idle : {R : Type 0} (k : RecordRules R) → IsLawful k → (w : World R) (s t : ℕ) (by_put : Bool) → idle k (passed_on k (changed k w t (put_mark_passed by_put)) s t) ≤ idle k w
handed-idle k lawful w s t by_put =
    omega (arith, passed_on-idle k lawful (changed k w t (put_mark_passed by_put)) s t, (stays-changed k lawful w t (put_mark_passed by_put) (passed-active by_put _)).fewer)

taken_on-common : {R : Type 0} (k : RecordRules R) (number : ℕ) (w : World R) (m : ℕ) → common_at k (taken_on number w) m ≡ common_at k w m
unfolding at taken_on
taken_on-common k number w m = refl

-- A requested record stays as active as it was.
pub handed-active : {R : Type 0} (k : RecordRules R) → IsLawful k → (w : World R) (s t : ℕ) (by_put : Bool) → (common_at k (passed_on k (changed k w t (put_mark_passed by_put)) s t) t).active ≡ (common_at k w t).active
handed-active k lawful w s t by_put =
    let v = changed k w t (put_mark_passed by_put) in
    passed-either k (λ u. (common_at k u t).active ≡ (common_at k v t).active) v s t refl
    (λ n. ap (λ (c : Common). c.active) (taken_on-common k n _ t ∙ common_at-changed k lawful v t (with_notification (Some n))))
    ∙ ap (λ (c : Common). c.active) (common_at-changed k lawful w t (put_mark_passed by_put)) ∙ passed-active by_put _

-- An idle record takes over PUTF.
marked : {R : Type 0} (k : RecordRules R) (w : World R) (t : ℕ) (by_put : Bool) → (common_at k w t).active ≡ false → changed k w t (with_put_mark by_put) ≡ changed k w t (put_mark_passed by_put)
unfolding changed put_mark_passed
marked k w t by_put inactive = rw inactive refl

-- An idle record isn't marked for reprocessing.
not_put_down : (by_put : Bool) (c : Common) → c.active ≡ false → is_put_down by_put c ≡ false
not_put_down true c inactive = rw inactive refl
not_put_down false c inactive = refl

-- An idle record that is requested: it has taken over PUTF and the put with notification.
abbrev pub handed_to : {R : Type 0} → RecordRules R → World R → ℕ → ℕ → World R
handed_to k w s t = passed_on k (changed k w t (with_put_mark (common_at k w s).by_put)) s t

module _ {R : Type 0} (k : RecordRules R) (lawful : IsLawful k) (w : World R) (s t : ℕ) (inactive : (common_at k w t).active ≡ false) where
  handed_is : handed_to k w s t ≡ passed_on k (changed k w t (put_mark_passed (common_at k w s).by_put)) s t
  handed_is = ap (λ (v : World R). passed_on k v s t) (marked k w t (common_at k w s).by_put inactive)

  pub handed_to-keeps : Has w t → Keeps k w (handed_to k w s t)
  handed_to-keeps there = rw handed_is (handed k lawful w s t (common_at k w s).by_put there)

  pub handed_to-fewer : idle k (handed_to k w s t) ≤ idle k w
  handed_to-fewer = rw handed_is (handed-idle k lawful w s t (common_at k w s).by_put)

  pub handed_to-inactive : (common_at k (handed_to k w s t) t).active ≡ false
  handed_to-inactive = rw handed_is (handed-active k lawful w s t (common_at k w s).by_put ∙ inactive)

  pub handed_to-ran : (answers : Answers) → asked_ran k answers w s t ≡ begun_idle k answers (request k answers) (handed_to k w s t) t
  handed_to-ran answers =
      asked_ran-now k lawful answers w s t (not_put_down (common_at k w s).by_put (common_at k w t) inactive)
      ∙ ap (λ (v : World R). ran k answers v t) (sym handed_is)
      ∙ ran-idle k lawful answers (handed_to k w s t) t handed_to-inactive
