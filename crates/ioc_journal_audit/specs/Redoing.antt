-- Calls, made again on a map whose devices give the answers of a list.
use Rattle.std.specs.Prelude.{◌≡◌, [], vec_capacity}
use Rattle.std.specs.Bool.{Decides}
use Rattle.std.specs.Global.{Vec}
use Rattle.ioc_events.specs.declared.event.Call.{Call}
use Rattle.ioc_events.specs.Calls.{Called, called}
use Rattle.ioc_record.specs.RecordRules.{RecordRules}
use Rattle.ioc_store.specs.Given.{listed}
use Rattle.ioc_store.specs.declared.frames.Frame.{Frame}
use Rattle.ioc_journal_audit.specs.declared.played_map.PlayedMap.{PlayedMap}
use Rattle.ioc_journal_audit.specs.declared.redo.Redone.{Redone}
use Rattle.ioc_journal_audit.specs.PlayedMap.{world_of}

module _ {R : Type 0} (k : RecordRules R) where
  -- What comes of a call on a map.
  abbrev pub called_on : PlayedMap R → Call → Called R
  called_on s call = called k (listed s.playing) (world_of s) call

  -- The map after a call was made again, the call with the reply that it has here, and whether that
  -- is the reply that was written in it. The devices keep their list, and no frame is open.
  pub record Redoes (before after : PlayedMap R) (frames frames_then : Vec Frame) (made : Call) (redone : Redone) : Type 0 where
    pub world : world_of after ≡ (called_on before made).world
    pub call : redone.call ≡ (called_on before made).call
    pub agrees : Decides redone.agrees ((called_on before made).call ≡ made)
    pub playing : after.playing ≡ before.playing
    pub empty : frames_then.items ≡ []
    pub room : vec_capacity frames_then ≡ vec_capacity frames
