-- The state of an audit.
use Rattle.std.specs.Prelude.{◌≡◌, ℕ, ◌+◌, false, List, [], ◌∷◌, ◌++◌, length, Option, Some, None}
use Rattle.std.specs.Bool.{Decides}
use Rattle.std.specs.Option.{IfSome}
use Rattle.rec_types.specs.Record.{Record, record_rules}
use Rattle.ioc_journal_file.specs.declared.line.Line.{Line}
use Rattle.ioc_journal_file.specs.declared.line.Mark.{Mark}
use Rattle.ioc_store.specs.World.{World}
use Rattle.ioc_journal_audit.specs.declared.auditor.Auditor.{Auditor}
use Rattle.ioc_journal_audit.specs.declared.difference.Difference.{Difference}
use Rattle.ioc_journal_audit.specs.declared.redo.Redone.{Redone}
use Rattle.ioc_journal_audit.specs.Legal.{IsLegal, Agrees, entry_of, redone}
use Rattle.ioc_journal_audit.specs.Numbering.{Start, made_by, numbers_begun}
use Rattle.ioc_journal_audit.specs.Numbers.{count_to, count_in, has_begun, AreBegun}
use Rattle.ioc_journal_audit.specs.PlayedMap.{world_of}

-- Holds if these entries, from a start on, agree, and have led from the first database to the auditor's.
pub record HasAudited (start : Start) (first : World Record) (lines : List Line) (a : Auditor) : Type 0 where
  pub legal : IsLegal record_rules start first lines (world_of a.map)
  pub place : count_to a.place ≡ start.place + length lines
  pub desks : (desk : ℕ) → count_in a.desks desk ≡ start.calls desk + made_by desk lines
  pub begun : AreBegun a.begun (numbers_begun lines)

-- The call of an entry was made again, with its answers.
pub record MakesAgain (before : Auditor) (line : Line) (after : Auditor) (made : Redone) : Type 0 where
  pub world : world_of after.map ≡ (redone record_rules (world_of before.map) (entry_of line)).world
  pub call : made.call ≡ (redone record_rules (world_of before.map) (entry_of line)).call
  pub agrees : Decides made.agrees ((redone record_rules (world_of before.map) (entry_of line)).call ≡ line.call)
  pub playing : after.map.playing ≡ line.answers.items
  pub place : after.place ≡ before.place
  pub desks : after.desks ≡ before.desks
  pub begun : after.begun ≡ before.begun

-- Holds if the entry agrees with the rules, which lead to the database afterwards.
pub record Follows (before : Auditor) (line : Line) (after : Auditor) : Type 0 where
  pub agrees : Agrees record_rules (world_of before.map) (entry_of line)
  pub world : world_of after.map ≡ (redone record_rules (world_of before.map) (entry_of line)).world
  pub place : after.place ≡ before.place
  pub desks : after.desks ≡ before.desks
  pub begun : after.begun ≡ before.begun

-- An entry agrees exactly if no difference is told.
abbrev pub Compares : Auditor → Line → Auditor → Option Difference → Type 0
Compares before line after None = Follows before line after
Compares before line after (Some difference) = Agrees record_rules (world_of before.map) (entry_of line) → ⊥

-- The numbers of an entry are the next ones, and that of the put with notification which it begins, if
-- it begins one, is new: exactly if no difference is told.
abbrev pub HasNextNumbers : Auditor → Mark → Option ℕ → Type 0
HasNextNumbers a mark begins = (mark.place ≡ count_to a.place) × (mark.call ≡ count_in a.desks mark.desk) × IfSome begins (λ number. has_begun a.begun number ≡ false)

abbrev pub IsNext : Auditor → Mark → Option ℕ → Option Difference → Type 0
IsNext a mark begins None = HasNextNumbers a mark begins
IsNext a mark begins (Some difference) = HasNextNumbers a mark begins → ⊥

-- If no difference is told, the entry agrees after those that do. If one is told, no legal run has
-- the entry after these.
abbrev pub ChecksNext : Auditor → Line → Auditor → Option Difference → Type 0
ChecksNext before line after None = (start : Start) (first : World Record) (lines : List Line) → HasAudited start first lines before → HasAudited start first (lines ++ line ∷ []) after
ChecksNext before line after (Some difference) =
    (start : Start) (first last : World Record) (lines more : List Line) → HasAudited start first lines before → IsLegal record_rules start first (lines ++ line ∷ more) last → ⊥
