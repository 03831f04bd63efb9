-- A put with notification that was canceled by a call of the engine. Application Developer's Guide,
-- "Put with Notification" (dbNotifyCancel). The journal is this project's own.
use Rattle.std.specs.Prelude.{◌≡◌, ◌⊎◌, ℕ, List, All}
use Rattle.ioc_record.specs.RecordRules.{RecordRules}
use Rattle.ioc_store.specs.World.{World}
use Rattle.ioc_values.specs.declared.error.IocError.TheVariants.{Stale}
use Rattle.ioc_events.specs.declared.reply.Reply.{Reply}
use Rattle.ioc_events.specs.declared.reply.Reply.TheVariants.{Plain, Refused}
use Rattle.ioc_journal.specs.Account.{DeskView}
use Rattle.ioc_journaled_set.specs.Holding.{HeldView, IsSoundlyHeld}
use Rattle.ioc_journaled_set.specs.Puts.{PutsView, WasStale}
use Rattle.ioc_journaled_set.specs.GivingUp.{GaveUpOn}

module _ {R : Type 0} (D : Type 0) (k : RecordRules R) (base : World R) (number : ℕ) (desk : DeskView) (moment : ℕ) (reply : Reply) (desk_then : DeskView) where
  -- The put with notification was canceled on all sets with its records, which were sound before
  -- and are sound afterwards. Each keeps as many events as this limit of the engine says at most, or
  -- one.
  pub record WasGivenUp (limit : ℕ) : Type 0 where
    pub puts : PutsView
    pub puts_then : PutsView
    pub before : List (HeldView R D)
    pub after : List (HeldView R D)
    pub sound : All (IsSoundlyHeld k base) before
    pub answer : reply ≡ Plain
    pub gave_up : GaveUpOn k base limit moment number desk before puts desk_then after puts_then
    pub sound_then : All (IsSoundlyHeld k base) after

  -- The put with notification wasn't live.
  pub record WasNotLive : Type 0 where
    pub puts : PutsView
    pub puts_then : PutsView
    pub answer : reply ≡ Refused Stale
    pub stale : WasStale k base puts desk moment number puts_then desk_then

  -- A cancel of a desk: the put with notification was canceled, or wasn't live.
  abbrev pub WasCancelled : ℕ → Type 0
  WasCancelled limit = WasGivenUp limit ⊎ WasNotLive
