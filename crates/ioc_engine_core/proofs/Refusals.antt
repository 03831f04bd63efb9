-- Calls that a set refuses before a place is held for them.
use Rattle.std.proofs.Common.{◌≡◌, ◌⊎◌, ℕ, Result, Ok, Err, inl, inr, Contains}
use Rattle.std.specs.Prelude.{IfOk, IfErr}
use Rattle.ioc_values.specs.declared.error.IocError.{IocError}
use Rattle.ioc_record.specs.RecordRules.{RecordRules}
use Rattle.ioc_store.specs.World.{World}
use Rattle.ioc_events.specs.declared.event.Event.{Event}
use Rattle.ioc_journaled_set.specs.Holding.{HeldView, numbers_of, IsSoundlyHeld, IsNoCall}
use Rattle.ioc_fields.specs.declared.field_no.FieldNo.{FieldNo}
use Rattle.ioc_events.specs.Step.{shown}
use Rattle.ioc_journal.specs.Places.{IsNoPlace}
use Rattle.ioc_set.specs.SetState.{now_of}
use Rattle.ioc_engine_core.specs.Served.{CallIsRefused, GetIsRefused}

module _ {R D : Type 0} (k : RecordRules R) (base : World R) (held : HeldView R D) (count number : ℕ) (event : Event) (error : IocError) where
  pub refused_by_set : Contains (numbers_of held) number → IsSoundlyHeld k base held → IsNoCall k held.set event error → CallIsRefused D k base count number event error
  refused_by_set here sound (inl none) = inr (inr (inr (record { held = held; here = here; sound = sound; none = none })))
  refused_by_set here sound (inr place) = inr (inl place)

module _ {R D : Type 0} (k : RecordRules R) (base : World R) (held : HeldView R D) (count number : ℕ) (field : FieldNo) (error : IocError) where
  pub unread_by_set : Contains (numbers_of held) number → IsSoundlyHeld k base held → (shown k (now_of held.set) number field ≡ Err error) ⊎ IsNoPlace error → GetIsRefused D k base count number field error
  unread_by_set here sound (inl none) = inr (inr (inr (record { held = held; here = here; sound = sound; none = none })))
  unread_by_set here sound (inr place) = inr (inl place)

-- What follows from a result, and from an error.
pub ok_then : {A E : Type 0} (P Q : A → Type 0) (r : Result A E) → ((x : A) → P x → Q x) → IfOk r P → IfOk r Q
ok_then P Q (Ok x) then is = then x is
ok_then P Q (Err e) then is = is

pub err_then : {A E : Type 0} (P Q : E → Type 0) (r : Result A E) → ((e : E) → P e → Q e) → IfErr r P → IfErr r Q
err_then P Q (Ok x) then is = is
err_then P Q (Err e) then is = then e is
