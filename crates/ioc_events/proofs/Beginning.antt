-- A put with notification begins by one kind of event, and only if there is a place for it.
use Rattle.std.proofs.Common.{◌≡◌, ℕ, true, ap, subst}
use Rattle.ioc_values.specs.declared.input.Input.{Input}
use Rattle.ioc_fields.specs.declared.field_no.FieldNo.{FieldNo}
use Rattle.ioc_ledger.specs.Requests.{Requests}
use Rattle.ioc_record.specs.RecordRules.{RecordRules}
use Rattle.ioc_store.specs.World.{World, has_place}
use Rattle.ioc_store.specs.Given.{Answers}
use Rattle.ioc_events.specs.declared.event.Event.{Event}
use Rattle.ioc_events.specs.declared.event.Event.TheVariants.{Notify}
use Rattle.ioc_events.specs.declared.reply.Reply.{Reply}
use Rattle.ioc_events.specs.declared.reply.Reply.TheVariants.{Notify as Notify-reply}
use Rattle.ioc_events.specs.StepRules.{Does, Step, by_itself, then_others, no_such_record, processes_record, refuses_value, stores_alone, stores_while_active, stores_and_processes, not_awaited, completes_record, refuses_notified_value, no_place, waits_its_turn, starts_now, not_live, cancels}

-- Holds if the event begins a put with notification under this number, for which there is a place.
pub record Begins {R : Type 0} (w : World R) (event : Event) (n : ℕ) : Type 0 where
  pub target : ℕ
  pub field : FieldNo
  pub given : Input
  pub event_is : event ≡ Notify target n field given
  pub place : has_place w n ≡ true

same-number : {a b : ℕ} → Notify-reply a ≡ Notify-reply b → a ≡ b
same-number is = cc

module _ {R : Type 0} (k : RecordRules R) (answers : Answers) (n : ℕ) where
  by-number : (w : World R) (s number : ℕ) (field : FieldNo) (given : Input) → has_place w number ≡ true → Notify-reply number ≡ Notify-reply n → Begins w (Notify s number field given) n
  by-number w s number field given place e = record {
    target = s;
    field = field;
    given = given;
    event_is = ap (λ (m : ℕ). Notify s m field given) (same-number e);
    place = subst (λ (m : ℕ). has_place w m ≡ true) (same-number e) place;
  }

  does-begin : {w w' : World R} {event : Event} {reply : Reply} {requests : Requests} → Does k answers w event w' reply requests → reply ≡ Notify-reply n → Begins w event n
  does-begin (no_such_record _) e = cc
  does-begin (processes_record _ _ _) e = cc
  does-begin (refuses_value _ _) e = cc
  does-begin (stores_alone _ _ _ _) e = cc
  does-begin (stores_while_active _ _ _ _ _) e = cc
  does-begin (stores_and_processes _ _ _ _ _ _ _) e = cc
  does-begin (not_awaited _ _) e = cc
  does-begin (completes_record _ _ _) e = cc
  does-begin (refuses_notified_value _ _) e = cc
  does-begin (no_place _ _ _) e = cc
  does-begin (waits_its_turn {w} {s} {number} {field} {given} _ _ place _) e = by-number w s number field given place e
  does-begin (starts_now {w} {s} {number} {field} {given} _ _ place _ _) e = by-number w s number field given place e
  does-begin (not_live _) e = cc
  does-begin (cancels _) e = cc

  -- An event whose reply is the number of a put with notification begins that one.
  pub step-begins : {w w' : World R} {event : Event} {reply : Reply} {requests : Requests} → Step k answers w event w' reply requests → reply ≡ Notify-reply n → Begins w event n
  step-begins (by_itself does _) e = does-begin does e
  step-begins (then_others does _ _) e = does-begin does e
