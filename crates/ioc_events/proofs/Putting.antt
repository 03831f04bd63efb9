-- The cases of a put, whatever form its value has.
use Rattle.std.proofs.Common.{◌≡◌, ℕ, true, false, refl}
use Rattle.std.specs.Global.{Vec}
use Rattle.std.specs.Prelude.{Ok, Err}
use Rattle.std.specs.FinMap.{contains_key}
use Rattle.ioc_values.specs.declared.error.IocError.{IocError}
use Rattle.ioc_values.specs.declared.error.IocError.TheVariants.{NoRecord}
use Rattle.ioc_values.specs.declared.input.Input.{Input}
use Rattle.ioc_fields.specs.declared.field_no.FieldNo.{FieldNo}
use Rattle.ioc_device.specs.declared.Ask.{Ask}
use Rattle.ioc_device.specs.declared.Answer.{Answer}
use Rattle.ioc_ledger.specs.declared.tally.Tally.{Tally}
use Rattle.ioc_record.specs.RecordRules.{RecordRules}
use Rattle.ioc_record.specs.Laws.{IsLawful}
use Rattle.ioc_record.specs.Values.{put_field}
use Rattle.ioc_store.specs.World.{World, at, put}
use Rattle.ioc_store.specs.Given.{Given, Answers}
use Rattle.ioc_store.specs.Scanning.{rescanned}
use Rattle.ioc_store.specs.declared.frames.Frame.{Frame}
use Rattle.ioc_process.specs.Running.{CanRun, CanProcess, HasRun}
use Rattle.ioc_process.specs.Keeping.{has_run_same, has_run_after, can_process_on}
use Rattle.ioc_events.specs.declared.event.Event.TheVariants.{Put}
use Rattle.ioc_events.specs.declared.reply.Reply.{Reply}
use Rattle.ioc_events.specs.declared.reply.Reply.TheVariants.{Refused}
use Rattle.ioc_events.specs.Events.{Makes, HasDone}
use Rattle.ioc_events.specs.Step.{after_put, done_alone}
use Rattle.ioc_events.proofs.Stepping.{makes-refused, step-put_refused, step-put}
use Rattle.ioc_events.proofs.QuietEvents.{stored-keeps}

module _ {R : Type 0} (k : RecordRules R) (w : World R) (s : ℕ) (field : FieldNo) (given : Input) where
  -- There is no such record.
  pub put-missing : {D : Type 0} {gives : D → Ask → ℕ → Answer → D → Type 0} {asked : Given D} {frames : Vec Frame} (counts : Tally) → CanRun k w frames → contains_key w.records s ≡ false
      → HasDone k asked w w (Refused NoRecord) counts counts (Put s field given) × HasRun k gives w w asked asked frames frames
  put-missing counts can missing = (λ answers begins. makes-refused k answers w (Put s field given) counts missing, has_run_same k w can.empty)

  -- The value is refused.
  pub put-refused : {D : Type 0} {gives : D → Ask → ℕ → Answer → D → Type 0} {asked : Given D} {frames : Vec Frame} (counts : Tally) (e : IocError) → CanRun k w frames
      → contains_key w.records s ≡ true → put_field k (at k w s) field given ≡ Err e
      → HasDone k asked w w (Refused e) counts counts (Put s field given) × HasRun k gives w w asked asked frames frames
  put-refused counts e can there is =
      (λ answers begins. rw (step-put_refused k answers w s field given e there is) (record { world = refl; reply = refl; tally = refl }), has_run_same k w can.empty)

  -- The value is stored, and the record is processed if the field requires it.
  module _ (lawful : IsLawful k) (r : R) (there : contains_key w.records s ≡ true) (is : put_field k (at k w s) field given ≡ Ok r) where
    pub put-goes_on : {frames : Vec Frame} → CanRun k w frames → CanProcess k (rescanned k (put w s r) s field) s frames
    put-goes_on can = can_process_on k lawful (stored-keeps k lawful w _ s field given r there is refl) (record { there = there; run = can })

    pub put-done : (answers : Answers) (after : World R) (reply : Reply) (before counts : Tally) → Makes after reply before counts (after_put k answers (rescanned k (put w s r) s field) s field)
        → Makes after reply before counts (done_alone k answers w (Put s field given))
    put-done answers after reply before counts makes = rw (step-put k answers w s field given r there is) makes

    pub put-run : {D : Type 0} {gives : D → Ask → ℕ → Answer → D → Type 0} {after : World R} {asked asked_then : Given D} {frames frames_then : Vec Frame}
        → HasRun k gives (rescanned k (put w s r) s field) after asked asked_then frames frames_then
        → HasRun k gives w after asked asked_then frames frames_then
    put-run run = has_run_after k (stored-keeps k lawful w _ s field given r there is refl) run
