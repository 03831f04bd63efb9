-- The starts of puts with notification, in the order of the code.
use Rattle.std.proofs.Common.{◌≡◌, ◌≤◌, ℕ, length, zero, suc, true, false, Option, Some, refl, sym, ap, subst, ◌∙◌, arith}
use Rattle.ioc_ledger.specs.declared.outcome.Outcome.{Outcome}
use Rattle.ioc_ledger.specs.declared.tally.Tally.{Tally}
use Rattle.ioc_ledger.specs.Requests.{None, counted}
use Rattle.ioc_notify.specs.declared.waiting_lists.Waiting.{Waiting}
use Rattle.ioc_dbcommon.specs.Steps.{with_put_mark}
use Rattle.ioc_record.specs.RecordRules.{RecordRules}
use Rattle.ioc_record.specs.Laws.{IsLawful}
use Rattle.ioc_store.specs.World.{World, Has, at, changed, admitted, unqueued}
use Rattle.ioc_store.specs.Given.{Answers}
use Rattle.ioc_store.specs.Notifying.{notified}
use Rattle.ioc_process.specs.Processing.{Done, ran}
use Rattle.ioc_process.specs.Runs.{Leaves}
use Rattle.ioc_events.specs.Events.{Counts}
use Rattle.ioc_events.specs.Starting.{processes, next_waiting, taken_and_stored, started, started_then, started_most, all_started}
use Rattle.ioc_process.specs.Bodies.{counted-followed_by}
use Rattle.ioc_process.specs.Depth.{request-rule}
use Rattle.ioc_events.proofs.StartRules.{started-by, start-next, IsBest, best-next, is-next}
use Rattle.ioc_events.proofs.QuietEvents.{ready-has}

pub admitted-waiting : {R : Type 0} (number : ℕ) (w : World R) → (admitted number w).waiting ≡ w.waiting
unfolding admitted
admitted-waiting number w = refl

-- If none waits, none starts.
pub none-waits : {R : Type 0} (k : RecordRules R) (answers : Answers) (w : World R) → length w.waiting ≡ 0 → all_started k answers w ≡ record { world = w; requests = None }
unfolding all_started started_most
none-waits k answers w none = rw none refl

module _ {R : Type 0} (k : RecordRules R) (lawful : IsLawful k) (answers : Answers) where
  pub counts-told : (w after : World R) (x : Waiting) (t : Tally) → processes k (at k (taken_and_stored k w x) x.target) x.field ≡ false → after ≡ notified k (taken_and_stored k w x) x.target
      → Counts after t t (started k answers w x)
  counts-told w after x t plain is = rw (started-by k lawful answers w x false plain) (record { world = is; tally = refl })

  pub counts-processed : (w after : World R) (x : Waiting) (outcome : Outcome) (t counts : Tally) → processes k (at k (taken_and_stored k w x) x.target) x.field ≡ true
      → Leaves after t counts outcome (ran k answers (changed k (taken_and_stored k w x) x.target (with_put_mark true)) x.target) → Counts after t counts (started k answers w x)
  counts-processed w after x outcome t counts proc leaves =
      rw (started-by k lawful answers w x true proc, request-rule k lawful answers (changed k (taken_and_stored k w x) x.target (with_put_mark true)) x.target)
      (record { world = leaves.world; tally = leaves.tally })

  -- What has started so far has the same final result as the ones that are left.
  pub record LeadsOn (most left : ℕ) (before now : World R) (t counts : Tally) : Type 0 where
    pub world : (started_most k answers most before).world ≡ (started_most k answers left now).world
    pub tally : counted t (started_most k answers most before).requests ≡ counted counts (started_most k answers left now).requests

  pub leads-here : (most : ℕ) (w : World R) (t : Tally) → LeadsOn most most w w t t
  leads-here most w t = record { world = refl; tally = refl }

  pub leads-next : (most left : ℕ) (before w after : World R) (x : Waiting) (t counts more : Tally) → LeadsOn most (suc left) before w t counts → next_waiting k w ≡ Some x
      → Counts after counts more (started k answers (unqueued x.number w) x) → LeadsOn most left before after t more
  leads-next most left before w after x t counts more so_far is one =
      let next : started_most k answers (suc left) w ≡ started_then k answers (started_most k answers left) w (Some x) = start-next k lawful answers left w x is in
      let done = started k answers (unqueued x.number w) x in
      record {
        world = so_far.world ∙ ap (λ (d : Done R). d.world) next ∙ ap (λ (v : World R). (started_most k answers left v).world) (sym one.world);
        tally = so_far.tally ∙ ap (λ (d : Done R). counted counts d.requests) next ∙ counted-followed_by counts done.requests (started_most k answers left done.world).requests
            ∙ ap (λ (u : Tally). counted u (started_most k answers left done.world).requests) (sym one.tally)
            ∙ ap (λ (v : World R). counted more (started_most k answers left v).requests) (sym one.world);
      }

  -- None is left that may start.
  pub leads-end : (most left : ℕ) (before w : World R) (t counts : Tally) → LeadsOn most left before w t counts → started_most k answers left w ≡ record { world = w; requests = None }
      → Counts w t counts (started_most k answers most before)
  leads-end most left before w t counts so_far none = record {
    world = sym (so_far.world ∙ ap (λ (d : Done R). d.world) none);
    tally = sym (so_far.tally ∙ ap (λ (d : Done R). counted counts d.requests) none);
  }

  -- No more may start than wait.
  pub leads-done : (most left : ℕ) (before w : World R) (t counts : Tally) → LeadsOn most left before w t counts → left ≤ 0 → Counts w t counts (started_most k answers most before)
  unfolding started_most
  leads-done most zero before w t counts so_far none = leads-end most 0 before w t counts so_far refl
  leads-done most (suc left) before w t counts so_far none = absurd (omega arith)

  -- The record of the next one exists.
  pub next-has : (w : World R) (x : Waiting) → next_waiting k w ≡ Some x → Has w x.target
  next-has w x is = ready-has k lawful w x (is-next k w x (subst (λ (o : Option Waiting). IsBest k w w.waiting o) is (best-next k w))).ready
