-- What comes of a call, and which calls a database answers so.
--
-- Application Developer's Guide, "Runtime Database Access": dbGetField, dbPutField, dbProcess,
-- dbPutNotify, dbNotifyCancel.
use Rattle.std.specs.Prelude.{ℕ, List, [], ◌∷◌, Option, Some, None as Nothing_, Ok, Err}
use Rattle.ioc_values.specs.declared.error.IocError.{IocError}
use Rattle.ioc_fields.specs.declared.field_no.FieldNo.{FieldNo}
use Rattle.ioc_ledger.specs.Requests.{Requests, None}
use Rattle.ioc_record.specs.RecordRules.{RecordRules}
use Rattle.ioc_dbcommon.specs.declared.link_field.LinkField.{LinkField}
use Rattle.ioc_dbcommon.specs.Links.{use_of, named_by}
use Rattle.ioc_notify.specs.Living.{is_live}
use Rattle.ioc_store.specs.World.{World}
use Rattle.ioc_store.specs.Given.{Answers}
use Rattle.ioc_events.specs.declared.event.Call.{Call}
use Rattle.ioc_events.specs.declared.event.Call.TheVariants as call
use Rattle.ioc_events.specs.Step.{names, shown, link_refusal, relinked, stepped}

-- The records that a call names.
abbrev pub named : Call → List ℕ
named (call.Event event reply) = names event
named (call.Get s field text) = s ∷ []
named (call.IsLive number live) = []
named (call.Link s field link reply) = s ∷ named_by (use_of link)
named (call.Post name count) = []
named (call.Interrupt device count) = []

-- What comes of a call: the database afterwards, the call with the reply that it has here, and the
-- requests that were made.
pub record Called (R : Type 0) : Type 0 where
  pub world : World R
  pub call : Call
  pub requests : Requests

module _ {R : Type 0} (k : RecordRules R) (answers : Answers) where
  abbrev pub linked : World R → ℕ → FieldNo → LinkField → Option IocError → Called R
  linked w s field link (Some e) = record { world = w; call = call.Link s field link (Err e); requests = None }
  linked w s field link Nothing_ = record { world = relinked k w s field link; call = call.Link s field link (Ok tt); requests = None }

  -- What comes of a call, whatever reply is written in it.
  unfoldable pub called : World R → Call → Called R
  called w (call.Event event reply) = let done = stepped k answers w event in record { world = done.world; call = call.Event event done.reply; requests = done.requests }
  called w (call.Get s field text) = record { world = w; call = call.Get s field (shown k w s field); requests = None }
  called w (call.IsLive number live) = record { world = w; call = call.IsLive number (is_live number w.live); requests = None }
  called w (call.Link s field link reply) = linked w s field link (link_refusal k w s field link)
  called w (call.Post name count) = record { world = w; call = call.Post name count; requests = None }
  called w (call.Interrupt device count) = record { world = w; call = call.Interrupt device count; requests = None }
