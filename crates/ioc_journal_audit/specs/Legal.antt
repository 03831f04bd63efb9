-- Which lists of entries are a legal run of a database.
use Rattle.std.specs.Prelude.{◌≡◌, List, [], map}
use Rattle.ioc_events.specs.declared.event.Entry.{Entry}
use Rattle.ioc_events.specs.Calls.{Called, called}
use Rattle.ioc_events.specs.StepRules.{Replay}
use Rattle.ioc_journal_file.specs.declared.line.Line.{Line}
use Rattle.ioc_record.specs.RecordRules.{RecordRules}
use Rattle.ioc_store.specs.Given.{answers_of, listed}
use Rattle.ioc_store.specs.World.{World, begun_at}
use Rattle.ioc_journal_audit.specs.Numbering.{Start, AreNumbered}

-- The entry of a line.
abbrev pub entry_of : Line → Entry
entry_of line = record { moment = line.mark.moment; call = line.call; answers = line.answers.items }

module _ {R : Type 0} (k : RecordRules R) where
  -- Holds if these entries, numbered in order from a start on, lead from one database to another by the
  -- rules of calls.
  pub record IsLegal (start : Start) (first : World R) (lines : List Line) (last : World R) : Type 0 where
    pub numbered : AreNumbered start [] lines
    pub replay : Replay k first (map entry_of lines) last

  -- What comes of the call of an entry if devices give its answers.
  abbrev pub redone : World R → Entry → Called R
  redone w entry = called k (listed entry.answers) (begun_at entry.moment w) entry.call

  -- Holds if the rules give the reply of an entry, and use all of its answers.
  pub record Agrees (w : World R) (entry : Entry) : Type 0 where
    pub call : (redone w entry).call ≡ entry.call
    pub answers : answers_of (redone w entry).world.calls ≡ entry.answers
