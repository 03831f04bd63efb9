-- The effect of the code of an event in terms of the effect of the event.
use Rattle.std.specs.Prelude.{◌≡◌, ℕ, Bool, drop, if◌then◌else◌, Option, Some, None as Nothing_, Result, Ok, Err}
use Rattle.ioc_values.specs.declared.error.IocError.{IocError}
use Rattle.ioc_ledger.specs.declared.outcome.Outcome.{Outcome}
use Rattle.ioc_ledger.specs.declared.tally.Tally.{Tally}
use Rattle.ioc_ledger.specs.Requests.{None, counted, counted_started}
use Rattle.ioc_record.specs.RecordRules.{RecordRules}
use Rattle.ioc_events.specs.declared.event.Event.{Event}
use Rattle.ioc_events.specs.declared.reply.Reply.{Reply}
use Rattle.ioc_events.specs.declared.reply.Reply.TheVariants.{Plain, Outcome as Outcome-reply, Refused}
use Rattle.ioc_store.specs.World.{World}
use Rattle.ioc_store.specs.Given.{Given, Answers, later_among}
use Rattle.ioc_process.specs.Processing.{Done}
use Rattle.ioc_process.specs.Runs.{ForAnswers}
use Rattle.ioc_events.specs.Starting.{all_started}
use Rattle.ioc_events.specs.Step.{Stepped, is_refusal, done_alone, stepped, tallied}

-- The reply of a request or a put: the outcome of the request, if there was one, or a refusal.
abbrev pub reply_of : Result (Option Outcome) IocError → Reply
reply_of (Ok (Some outcome)) = Outcome-reply outcome
reply_of (Ok Nothing_) = Plain
reply_of (Err e) = Refused e

-- The database, the reply and the tally after this event.
pub record Tells {R : Type 0} (w after : World R) (result : Reply) (before counts : Tally) (event : Event) (done : Stepped R) : Type 0 where
  pub world : after ≡ done.world
  pub reply : result ≡ done.reply
  pub tally : counts ≡ tallied before w event done

-- The database and the reply after an event by itself, and the tally with its requests.
pub record Makes {R : Type 0} (after : World R) (result : Reply) (before counts : Tally) (done : Stepped R) : Type 0 where
  pub world : after ≡ done.world
  pub reply : result ≡ done.reply
  pub tally : counts ≡ counted before done.requests

-- The database, the reply and the tally after this event, by its rule and for the answers that
-- devices gave.
abbrev pub HasStepped : {R D : Type 0} → RecordRules R → Given D → World R → World R → Reply → Tally → Tally → Event → Type 0
HasStepped k given w after result before counts event = ForAnswers given (λ answers. Tells w after result before counts event (stepped k answers w event))

-- The same of an event by itself.
abbrev pub HasDone : {R D : Type 0} → RecordRules R → Given D → World R → World R → Reply → Tally → Tally → Event → Type 0
HasDone k given w after result before counts event = ForAnswers given (λ answers. Makes after result before counts (done_alone k answers w event))

-- The database after requests, and the tally with them.
pub record Counts {R : Type 0} (after : World R) (before counts : Tally) (done : Done R) : Type 0 where
  pub world : after ≡ done.world
  pub tally : counts ≡ counted before done.requests

-- What follows an event by itself: waiting puts with notification start if they can, unless it was
-- refused.
abbrev pub ends_unless : {R : Type 0} → RecordRules R → Answers → World R → Bool → Done R
ends_unless k answers w refused = if refused then record { world = w; requests = None } else all_started k answers w

abbrev pub ends : {R : Type 0} → RecordRules R → Answers → World R → Reply → Done R
ends k answers w reply = ends_unless k answers w (is_refusal reply)

-- The database after that, and the tally with its requests and with the calls from `asked` on that
-- are answered later.
pub record Ends {R : Type 0} (after : World R) (asked : ℕ) (before counts : Tally) (done : Done R) : Type 0 where
  pub world : after ≡ done.world
  pub tally : counts ≡ counted_started (counted before done.requests) (later_among (drop asked after.calls))
