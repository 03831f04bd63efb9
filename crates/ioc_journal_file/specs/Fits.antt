-- The values of the types of an entry: numbers are in range, and texts are no longer than they can
-- be.
use Rattle.std.specs.Prelude.{ℕ, ◌<◌, ◌≤◌, ◌^◌, List, length, FitsSigned, T, Result, Ok, Err}
use Rattle.std.specs.List.{AllByRecursion}
use Rattle.std.specs.Int.{w16, w32, w64}
use Rattle.std.specs.Float.Ieee.{binary64, fits}
use Rattle.ioc_values.specs.declared.error.IocError.{IocError}
use Rattle.ioc_values.specs.declared.value.Value.{Value}
use Rattle.ioc_values.specs.declared.value.Value.TheVariants.{Long, ULong, Short, UShort, UChar, Enum, Int64, Double, Text}
use Rattle.ioc_values.specs.declared.value.Finished.{Finished}
use Rattle.ioc_values.specs.declared.value.Finished.TheVariants as finished
use Rattle.ioc_values.specs.declared.input.Input.{Input}
use Rattle.ioc_values.specs.declared.input.Input.TheVariants as input
use Rattle.ioc_device.specs.declared.Answer.{Answer}
use Rattle.ioc_device.specs.declared.Answer.TheVariants as answer
use Rattle.ioc_links.specs.declared.link.Link.{Link}
use Rattle.ioc_links.specs.declared.link.Link.TheVariants.{Empty, Constant, Real, Device, Database}
use Rattle.ioc_dbcommon.specs.declared.link_field.Lead.{Lead}
use Rattle.ioc_dbcommon.specs.declared.link_field.Lead.TheVariants.{Field}
use Rattle.ioc_events.specs.declared.event.Event.{Event}
use Rattle.ioc_events.specs.declared.event.Event.TheVariants.{Process, Put, Complete, Notify, Cancel}
use Rattle.ioc_events.specs.declared.event.Call.{Call}
use Rattle.ioc_events.specs.declared.event.Call.TheVariants as call
use Rattle.ioc_events.specs.declared.reply.Reply.{Reply}
use Rattle.ioc_events.specs.declared.reply.Reply.TheVariants as reply
use Rattle.ioc_journal_file.specs.declared.line.Mark.{Mark}

abbrev pub IsNumber : ℕ → Type 0
IsNumber n = n < 2 ^ 64

abbrev pub IsValue : Value → Type 0
IsValue (Long z) = FitsSigned w32 z
IsValue (ULong n) = n < 2 ^ 32
IsValue (Short z) = FitsSigned w16 z
IsValue (UShort n) = n < 2 ^ 16
IsValue (UChar n) = n < 2 ^ 8
IsValue (Enum n) = n < 2 ^ 16
IsValue (Int64 z) = FitsSigned w64 z
IsValue (Double x) = T (fits binary64 x)
IsValue (Text text) = length text ≤ 39

abbrev pub IsInput : Input → Type 0
IsInput (input.Value value) = IsValue value
IsInput (input.LongText text) = length text ≤ 39

abbrev pub IsFinished : Finished → Type 0
IsFinished (finished.Done value) = IsValue value
IsFinished finished.Fault = Unit {0}

abbrev pub IsAnswer : Answer → Type 0
IsAnswer (answer.Done value) = IsValue value
IsAnswer answer.Fault = Unit {0}
IsAnswer answer.Later = Unit {0}

abbrev pub IsReply : Reply → Type 0
IsReply (reply.Notify number) = IsNumber number
IsReply _ = Unit {0}

abbrev pub IsShown : Result (List ℕ) IocError → Type 0
IsShown (Ok text) = length text ≤ 120
IsShown (Err _) = Unit {0}

abbrev pub IsLink : Link → Type 0
IsLink Empty = Unit {0}
IsLink (Constant z) = FitsSigned w64 z
IsLink (Real text) = length text ≤ 39
IsLink (Device text) = length text ≤ 119
IsLink (Database target flags) = (length target.record_name ≤ 60) × (length target.field ≤ 8)

abbrev pub IsLead : Lead → Type 0
IsLead (Field to) = IsNumber to.number
IsLead _ = Unit {0}

abbrev pub IsEvent : Event → Type 0
IsEvent (Process target) = IsNumber target
IsEvent (Put target field value) = IsNumber target × IsInput value
IsEvent (Complete target wait finished) = IsNumber target × IsNumber wait × IsFinished finished
IsEvent (Notify target notification field value) = IsNumber target × IsNumber notification × IsInput value
IsEvent (Cancel notification) = IsNumber notification

abbrev pub IsCall : Call → Type 0
IsCall (call.Event event reply) = IsEvent event × IsReply reply
IsCall (call.Get target field text) = IsNumber target × IsShown text
IsCall (call.IsLive number live) = IsNumber number
IsCall (call.Link target field link result) = IsNumber target × IsLink link.link × IsLead link.lead
IsCall (call.Post name count) = (length name ≤ 39) × IsNumber count
IsCall (call.Interrupt device count) = (length device ≤ 119) × IsNumber count

pub record IsMark (mark : Mark) : Type 0 where
  pub place : IsNumber mark.place
  pub desk : IsNumber mark.desk
  pub call : IsNumber mark.call
  pub moment : IsNumber mark.moment

-- Holds of which entry it is, the call and the answers of each entry.
pub record IsEntry (m : Mark) (done : Call) (given : List Answer) : Type 0 where
  pub mark : IsMark m
  pub call : IsCall done
  pub answers : AllByRecursion IsAnswer given
  pub count : IsNumber (length given)
