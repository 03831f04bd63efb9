-- What an audit finds in the text of a journal.
use Rattle.std.specs.Prelude.{◌≡◌, ◌≢◌, ◌⊎◌, ℕ, suc, List, [], ◌∷◌, ◌++◌, length, Bool, not, ◌==◌, Option, Some, None}
use Rattle.std.specs.Io.BufRead.{take_through, drop_through}
use Rattle.ioc_device.specs.declared.Answer.{Answer}
use Rattle.ioc_events.specs.declared.event.Call.{Call}
use Rattle.ioc_journal_file.specs.declared.line.Line.{Line}
use Rattle.ioc_journal_file.specs.declared.line.Mark.{Mark}
use Rattle.ioc_journal_file.specs.Fits.{IsEntry}
use Rattle.ioc_journal_file.specs.Form.{line_of}
use Rattle.ioc_journal_audit.specs.declared.auditor.Auditor.{Auditor}
use Rattle.ioc_journal_audit.specs.declared.difference.Difference.{Difference}
use Rattle.ioc_journal_audit.specs.declared.journal.Step.{Step}
use Rattle.ioc_journal_audit.specs.declared.journal.Step.TheVariants.{Agrees as Agrees-step, Differs as Differs-step, NoEntry as NoEntry-step}
use Rattle.ioc_journal_audit.specs.declared.journal.Audited.{Audited}
use Rattle.ioc_journal_audit.specs.declared.journal.Audited.TheVariants.{Agree, Differs, NoEntry, CutOff}
use Rattle.ioc_journal_audit.specs.Audit.{HasAudited, ChecksNext}
use Rattle.ioc_journal_audit.specs.Legal.{IsLegal}
use Rattle.ioc_journal_audit.specs.Numbering.{Start}
use Rattle.ioc_store.specs.World.{World}
use Rattle.rec_types.specs.Record.{Record, record_rules}

-- The text of an entry, with its line feed.
abbrev pub text_of : Line → List ℕ
text_of line = line_of line.mark line.call line.answers.items

-- The text of a journal with these entries.
abbrev pub texts_of : List Line → List ℕ
texts_of [] = []
texts_of (line ∷ lines) = text_of line ++ texts_of lines

-- Holds if no entry has this line.
abbrev pub IsNoEntry : List ℕ → Type 0
IsNoEntry text = (mark : Mark) (call : Call) (answers : List Answer) → IsEntry mark call answers → text ≡ line_of mark call answers → ⊥

-- Holds if no other entry has the same line.
abbrev pub IsOnly : Line → Type 0
IsOnly line = (mark : Mark) (call : Call) (answers : List Answer) → IsEntry mark call answers → text_of line ≡ line_of mark call answers
    → (line.mark ≡ mark) × (line.call ≡ call) × (line.answers.items ≡ answers)

abbrev pub AreOnly : List Line → Type 0
AreOnly [] = Unit {0}
AreOnly (line ∷ lines) = IsOnly line × AreOnly lines

-- A line was read from a text, with its line feed, or nothing was left.
pub record ReadsLine (text : List ℕ) (some : Bool) (line : List ℕ) (rest : Option (List ℕ)) : Type 0 where
  pub first : line ≡ take_through 10 text
  pub left : rest ≡ Some (drop_through 10 text)
  pub found : some ≡ not (length line == 0)

-- What comes of a line of a journal: it is that of an entry, which agrees or which no legal run has
-- there, or it is that of none.
pub record Checks (before : Auditor) (text : List ℕ) (after : Auditor) (difference : Option Difference) : Type 0 where
  pub line : Line
  pub is_its : text ≡ text_of line
  pub only : IsOnly line
  pub checks : ChecksNext before line after difference

abbrev pub Steps : Auditor → List ℕ → Auditor → Step → Type 0
Steps before text after Agrees-step = Checks before text after None
Steps before text after (Differs-step difference) = Checks before text after (Some difference)
Steps before text after NoEntry-step = IsNoEntry text × (after ≡ before)

-- The text begins with these entries, which agree.
pub record Agreed (before : Auditor) (text : List ℕ) (after : Auditor) (rest : List ℕ) (count : ℕ) : Type 0 where
  pub lines : List Line
  pub begins : text ≡ texts_of lines ++ rest
  pub many : length lines ≡ count
  pub only : AreOnly lines
  pub audited : (start : Start) (first : World Record) (done : List Line) → HasAudited start first done before → HasAudited start first (done ++ lines) after

-- The text begins with entries that agree, and then has one that no legal run has there.
pub record Differed (before : Auditor) (text : List ℕ) (count : ℕ) : Type 0 where
  pub middle : Auditor
  pub rest : List ℕ
  pub agreed : Agreed before text middle rest count
  pub line : Line
  pub behind : List ℕ
  pub begins : rest ≡ text_of line ++ behind
  pub only : IsOnly line
  pub illegal : (start : Start) (first last : World Record) (done more : List Line) → HasAudited start first done before
      → IsLegal record_rules start first ((done ++ agreed.lines) ++ line ∷ more) last → ⊥

-- The text begins with entries that agree, and then has a line that no entry has.
pub record Ended (before : Auditor) (text : List ℕ) (count : ℕ) : Type 0 where
  pub middle : Auditor
  pub rest : List ℕ
  pub agreed : Agreed before text middle rest count
  pub some : rest ≢ []
  pub none : IsNoEntry (take_through 10 rest)

-- Holds if a line ends with a line feed.
abbrev pub IsWhole : List ℕ → Type 0
IsWhole line = (front : List ℕ) × (line ≡ front ++ 10 ∷ [])

-- What is found where a line behind so many entries is none: whether it is whole.
abbrev pub IsEnd : ℕ → List ℕ → Audited → Type 0
IsEnd count line (Agree n) = ⊥
IsEnd count line (Differs n difference) = ⊥
IsEnd count line (NoEntry n) = (n ≡ suc count) × IsWhole line
IsEnd count line (CutOff n) = (n ≡ count) × (IsWhole line → ⊥)

-- The text begins with these entries, which agree, and then has a last line that isn't whole, and that no entry has.
pub record IsCutOff (before : Auditor) (text : List ℕ) (after : Auditor) (count : ℕ) : Type 0 where
  pub rest : List ℕ
  pub agreed : Agreed before text after rest count
  pub some : rest ≢ []
  pub none : IsNoEntry (take_through 10 rest)
  pub cut : IsWhole (take_through 10 rest) → ⊥

-- The text begins with so many entries that agree, and these are all, or as many as were asked for.
pub record AllAgreed (before : Auditor) (text : List ℕ) (most : ℕ) (after : Auditor) (count : ℕ) : Type 0 where
  pub rest : List ℕ
  pub agreed : Agreed before text after rest count
  pub ends : (count ≡ most) ⊎ (rest ≡ [])

-- What an audit of a text finds.
abbrev pub Finds : Auditor → List ℕ → ℕ → Auditor → Audited → Type 0
Finds before text most after (Agree count) = AllAgreed before text most after count
Finds before text most after (Differs n difference) = (count : ℕ) × ((n ≡ suc count) × Differed before text count)
Finds before text most after (NoEntry n) = (count : ℕ) × ((n ≡ suc count) × Ended before text count)
Finds before text most after (CutOff count) = IsCutOff before text after count
