-- The numbers of the entries of a journal.
use Rattle.std.specs.Prelude.{◌≡◌, ℕ, ◌+◌, ◌==◌, if◌then◌else◌, List, [], ◌∷◌, ◌++◌, length, Option, Some, None, Contains}
use Rattle.std.specs.List.{cons_option}
use Rattle.std.specs.Option.{IfSome}
use Rattle.ioc_events.specs.declared.event.Call.{Call}
use Rattle.ioc_events.specs.declared.event.Call.TheVariants.{Event}
use Rattle.ioc_events.specs.declared.event.Event.TheVariants.{Notify}
use Rattle.ioc_journal_file.specs.declared.line.Line.{Line}

-- How many of these entries are calls of this desk.
abbrev pub made_by : ℕ → List Line → ℕ
made_by desk [] = 0
made_by desk (line ∷ lines) = (if line.mark.desk == desk then 1 else 0) + made_by desk lines

-- The number under which a call begins a put with notification.
abbrev pub number_begun : Call → Option ℕ
number_begun (Event (Notify target number field given) reply) = Some number
number_begun _ = None

-- The numbers under which these entries begin puts with notification, in order.
abbrev pub numbers_begun : List Line → List ℕ
numbers_begun [] = []
numbers_begun (line ∷ lines) = cons_option (number_begun line.call) (numbers_begun lines)

-- Where a file begins: the place of its first entry, and how many calls each desk has made before it.
pub record Start : Type 0 where
  pub place : ℕ
  pub calls : ℕ → ℕ

-- The beginning of a run.
abbrev pub run_start : Start
run_start = record { place = 0; calls = λ desk. 0 }

-- Holds if an entry has the numbers of the next one after these: its place is the number of entries
-- before it, and its call the number of calls of its desk before it. If it begins a put with
-- notification, none of those before it began one under the same number.
pub record IsNumbered (start : Start) (before : List Line) (line : Line) : Type 0 where
  pub place : line.mark.place ≡ start.place + length before
  pub call : line.mark.call ≡ start.calls line.mark.desk + made_by line.mark.desk before
  pub notified : IfSome (number_begun line.call) (λ number. Contains (numbers_begun before) number → ⊥)

-- Holds if each of these entries has the next numbers, after those before them.
abbrev pub AreNumbered : Start → List Line → List Line → Type 0
AreNumbered start before [] = Unit {0}
AreNumbered start before (line ∷ lines) = IsNumbered start before line × AreNumbered start (before ++ line ∷ []) lines
