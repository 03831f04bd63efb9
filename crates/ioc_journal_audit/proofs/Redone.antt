-- Whether a call that was made again has its reply.
use Rattle.std.proofs.Common.{◌≡◌, ℕ, Bool, true, List, Option, Some, None, refl, sym, ap, ◌∙◌}
use Rattle.std.specs.Prelude.{Result, Ok, Err}
use Rattle.std.specs.Bool.{Decides}
use Rattle.std.specs.Cmp.{booleans_Decides}
use Rattle.ioc_values.specs.declared.error.IocError.{IocError}
use Rattle.ioc_dbcommon.specs.declared.link_field.LinkField.{LinkField}
use Rattle.ioc_fields.specs.declared.field_no.FieldNo.{FieldNo}
use Rattle.ioc_events.specs.declared.event.Event.{Event}
use Rattle.ioc_events.specs.declared.event.Call.{Call}
use Rattle.ioc_events.specs.declared.event.Call.TheVariants as call
use Rattle.ioc_events.specs.declared.reply.Reply.{Reply}
use Rattle.ioc_events.specs.Calls.{called}
use Rattle.std.specs.Global.{Vec}
use Rattle.std.proofs.Common.{[], ◌⊎◌, inl, inr}
use Rattle.ioc_record.specs.RecordRules.{RecordRules}
use Rattle.ioc_store.specs.declared.frames.Frame.{Frame}
use Rattle.ioc_journal_audit.specs.declared.played_map.PlayedMap.{PlayedMap}
use Rattle.ioc_journal_audit.specs.declared.redo.Redone.{Redone}
use Rattle.ioc_journal_audit.specs.Redoing.{Redoes}

same_event : (e : Event) (x y : Reply) → call.Event e x ≡ call.Event e y → x ≡ y
same_event e x y is = cc

same_get : (s : ℕ) (f : FieldNo) (x y : Result (List ℕ) IocError) → call.Get s f x ≡ call.Get s f y → x ≡ y
same_get s f x y is = cc

same_live : (n : ℕ) (x y : Bool) → call.IsLive n x ≡ call.IsLive n y → x ≡ y
same_live n x y is = cc

same_link : (s : ℕ) (f : FieldNo) (l : LinkField) (x y : Result (Unit {0}) IocError) → call.Link s f l x ≡ call.Link s f l y → x ≡ y
same_link s f l x y is = cc

pub decides_event : (e : Event) (made by_rule reply : Reply) (r : Bool) → made ≡ by_rule → Decides r (made ≡ reply) → Decides r (call.Event e by_rule ≡ call.Event e reply)
decides_event e made by_rule reply r is d = (λ t. ap (call.Event e) (sym is ∙ d.0 t), λ same. d.1 (is ∙ same_event e by_rule reply same))

pub decides_get : (s : ℕ) (f : FieldNo) (made by_rule reply : Result (List ℕ) IocError) (r : Bool) → made ≡ by_rule → Decides r (made ≡ reply) → Decides r (call.Get s f by_rule ≡ call.Get s f reply)
decides_get s f made by_rule reply r is d = (λ t. ap (call.Get s f) (sym is ∙ d.0 t), λ same. d.1 (is ∙ same_get s f by_rule reply same))

pub decides_live : (n : ℕ) (made by_rule reply : Bool) (r : Bool) → made ≡ by_rule → Decides r (made ≡ reply) → Decides r (call.IsLive n by_rule ≡ call.IsLive n reply)
decides_live n made by_rule reply r is d = (λ t. ap (call.IsLive n) (sym is ∙ d.0 t), λ same. d.1 (is ∙ same_live n by_rule reply same))

pub decides_link : (s : ℕ) (f : FieldNo) (l : LinkField) (made by_rule reply : Result (Unit {0}) IocError) (r : Bool) → made ≡ by_rule → Decides r (made ≡ reply)
    → Decides r (call.Link s f l by_rule ≡ call.Link s f l reply)
decides_link s f l made by_rule reply r is d = (λ t. ap (call.Link s f l) (sym is ∙ d.0 t), λ same. d.1 (is ∙ same_link s f l by_rule reply same))

-- A call that changes no record and has no reply agrees.
pub unchanged : {R : Type 0} (k : RecordRules R) (s : PlayedMap R) (frames : Vec Frame) → frames.items ≡ [] → (made : Call)
    → ((x : List ℕ) × (y : ℕ) × (made ≡ call.Post x y)) ⊎ ((x : List ℕ) × (y : ℕ) × (made ≡ call.Interrupt x y))
    → (let redone : Redone = record { call = made; agrees = true } in Redoes k s s frames frames made redone)
unfolding called
unchanged k s frames empty made (inl h) = rw h.2 (record { world = refl; call = refl; agrees = (λ t. refl, λ same. refl); playing = refl; empty = empty; room = refl })
unchanged k s frames empty made (inr h) = rw h.2 (record { world = refl; call = refl; agrees = (λ t. refl, λ same. refl); playing = refl; empty = empty; room = refl })
