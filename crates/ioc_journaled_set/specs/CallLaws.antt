-- The laws on which the calls on journaled sets rest, in one record. This project's own.
use Rattle.ioc_record.specs.RecordRules.{RecordRules}
use Rattle.ioc_journal.specs.EventLaws.{EventLaws}
use Rattle.ioc_journal.specs.Laws.{Lasts, LiveLasts, OneMore, HoldersMove, HoldersAreFew, HeldAreFewer, EndsOver, EndsLast, NobodyHas, PlaceForOneMore, HeldAlike, StaysSound}
use Rattle.ioc_journal.specs.CountLaws.{PartsCountAlike}

pub record CallLaws {R : Type 0} (k : RecordRules R) : Type 0 where
  pub events : EventLaws k
  -- Held records stay as they are known, stay held after an event, and may be held in parts.
  pub lasts : Lasts k
  pub one_more : OneMore k
  pub alike : HeldAlike k
  pub sound : StaysSound k
  -- The counts of puts with notification change among all records as among the held ones.
  pub live_lasts : LiveLasts k
  pub moves : HoldersMove k
  pub few : HoldersAreFew k
  pub fewer : HeldAreFewer k
  pub place : PlaceForOneMore k
  pub over : EndsOver k
  pub last : EndsLast k
  pub nobody : NobodyHas k
  -- An event counts the same among held records as among all.
  pub counts : PartsCountAlike k
