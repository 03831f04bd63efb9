-- Calls of the engine. Application Developer's Guide, "Database Locking, Scanning, and Processing".
-- The journal is this project's own.
use Rattle.std.specs.Prelude.{ℕ, ◌≡◌, ◌⊎◌, List, Some, Err, Contains}
use Rattle.ioc_values.specs.declared.error.IocError.{IocError}
use Rattle.ioc_values.specs.declared.input.Input.{Input}
use Rattle.ioc_values.specs.declared.error.IocError.TheVariants.{Stopped}
use Rattle.ioc_fields.specs.declared.field_no.FieldNo.{FieldNo}
use Rattle.ioc_device.specs.declared.Ask.{Ask}
use Rattle.ioc_device.specs.declared.Answer.{Answer}
use Rattle.ioc_record.specs.RecordRules.{RecordRules}
use Rattle.ioc_store.specs.World.{World}
use Rattle.ioc_events.specs.declared.event.Event.{Event}
use Rattle.ioc_events.specs.declared.event.Event.TheVariants.{Process, Put, Complete}
use Rattle.ioc_events.specs.declared.reply.Reply.{Reply}
use Rattle.ioc_events.specs.Step.{shown}
use Rattle.ioc_journal.specs.Account.{DeskView}
use Rattle.ioc_journal.specs.Places.{IsNoPlace}
use Rattle.ioc_set.specs.SetState.{now_of}
use Rattle.ioc_set.specs.NoCalls.{no_call}
use Rattle.ioc_topology.specs.Change.{IsRefused}
use Rattle.ioc_journaled_set.specs.Holding.{HeldView, numbers_of, IsSoundlyHeld, Serves, Tells, Begins}

-- The record of a request, a put or a completion.
abbrev pub target_of : Event → ℕ
target_of (Process s) = s
target_of (Put s field given) = s
target_of (Complete s number finished) = s
target_of _ = 0

module _ {R : Type 0} (D : Type 0) (k : RecordRules R) (base : World R) where
  -- A sound set has the record, and the record has no such field, or the field can't be put.
  pub record IsInVain (number : ℕ) (event : Event) (error : IocError) : Type 0 where
    pub held : HeldView R D
    pub here : Contains (numbers_of held) number
    pub sound : IsSoundlyHeld k base held
    pub none : no_call k (now_of held.set) event ≡ Some error

  -- The errors of a call that isn't added to the journal: the engine was closed, the journal has no
  -- place left, allocation fails, there is no record with this number, the record has no such
  -- field, or the field can't be put.
  abbrev pub CallIsRefused : ℕ → ℕ → Event → IocError → Type 0
  CallIsRefused count number event error = (error ≡ Stopped) ⊎ (IsNoPlace error ⊎ (IsRefused count number error ⊎ IsInVain number event error))

  -- A sound set has the record, and the record has no such field.
  pub record IsUnreadable (number : ℕ) (field : FieldNo) (error : IocError) : Type 0 where
    pub held : HeldView R D
    pub here : Contains (numbers_of held) number
    pub sound : IsSoundlyHeld k base held
    pub none : shown k (now_of held.set) number field ≡ Err error

  -- The errors of a get that isn't added to the journal: the engine was closed, the journal has no
  -- place left, allocation fails, there is no record with this number, or the record has no such
  -- field.
  abbrev pub GetIsRefused : ℕ → ℕ → FieldNo → IocError → Type 0
  GetIsRefused count number field error = (error ≡ Stopped) ⊎ (IsNoPlace error ⊎ (IsRefused count number error ⊎ IsUnreadable number field error))

  -- The text of a field was told to a desk by the set of the record, which was sound before and is
  -- sound afterwards.
  pub record WasTold (number : ℕ) (desk : DeskView) (at_moment : ℕ) (field : FieldNo) (text : List ℕ) (desk_then : DeskView) : Type 0 where
    pub held : HeldView R D
    pub held_then : HeldView R D
    pub here : Contains (numbers_of held) number
    pub before : IsSoundlyHeld k base held
    pub tells : Tells k base held desk at_moment number field text held_then desk_then
    pub after : IsSoundlyHeld k base held_then

  -- An event of a desk was done on the set of the record, which was sound before and is sound
  -- afterwards. The set keeps as many events as this limit of the engine says at most, or one.
  pub record WasServed (gives : D → Ask → ℕ → Answer → D → Type 0) (limit number : ℕ) (desk : DeskView) (at_moment : ℕ) (done : Event) (reply : Reply) (desk_then : DeskView) (come_to : World R) : Type 0 where
    pub held : HeldView R D
    pub held_then : HeldView R D
    pub here : Contains (numbers_of held) number
    pub before : IsSoundlyHeld k base held
    pub serves : Serves k gives base limit held desk at_moment done reply held_then desk_then come_to
    pub after : IsSoundlyHeld k base held_then

  -- A put with notification of a desk began on the set of the record, which was sound before and is
  -- sound afterwards. The set keeps as many events as this limit of the engine says at most, or one.
  pub record WasBegun (gives : D → Ask → ℕ → Answer → D → Type 0) (limit number : ℕ) (desk : DeskView) (at_moment : ℕ) (field : FieldNo) (given : Input) (reply : Reply) (desk_then : DeskView) (come_to : World R) : Type 0 where
    pub held : HeldView R D
    pub held_then : HeldView R D
    pub here : Contains (numbers_of held) number
    pub before : IsSoundlyHeld k base held
    pub begins : Begins k gives base limit held desk at_moment number field given reply held_then desk_then come_to
    pub after : IsSoundlyHeld k base held_then
