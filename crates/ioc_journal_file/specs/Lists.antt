-- The words for values of which there are few, and the value of each word.
use Rattle.std.specs.Prelude.{ℕ, List, [], ◌∷◌, codes, Option}
use Rattle.std.specs.List.{find}
use Rattle.ioc_values.specs.declared.error.IocError.{IocError}
use Rattle.ioc_values.specs.declared.error.IocError.TheVariants as refusal
use Rattle.ioc_values.specs.Words.{refusal_words}
use Rattle.ioc_fields.specs.declared.field_no.FieldNo.{FieldNo}
use Rattle.ioc_fields.specs.Names.{name_of, all_fields}
use Rattle.ioc_links.specs.declared.link.Mode.{Mode}
use Rattle.ioc_links.specs.declared.link.Mode.TheVariants.{Nms, Ms, Msi, Mss}
use Rattle.ioc_ledger.specs.declared.outcome.Outcome.{Outcome}
use Rattle.ioc_ledger.specs.declared.outcome.Outcome.TheVariants.{Processed, Disabled, Active, Reprocess}
use Rattle.ioc_journal_file.specs.declared.kinds.ValueKind.{ValueKind}
use Rattle.ioc_journal_file.specs.declared.kinds.ValueKind.TheVariants as kind
use Rattle.ioc_journal_file.specs.declared.kinds.CallKind.{CallKind}
use Rattle.ioc_journal_file.specs.declared.kinds.CallKind.TheVariants as call
use Rattle.ioc_journal_file.specs.Words.{is_word}

-- The first value of a list with this word.
abbrev pub with_word : {X : Type 0} → (X → List ℕ) → List X → List ℕ → Option X
with_word words all word = find (λ x. is_word (words x) word) all

-- The field of any type with this name.
abbrev pub field_of : List ℕ → Option FieldNo
field_of word = with_word name_of all_fields word

abbrev pub all_errors : List IocError
all_errors = refusal.NoRecord ∷ refusal.NoField ∷ refusal.NoMod ∷ refusal.PutDisabled ∷ refusal.BadValue ∷ refusal.BadLink ∷ refusal.NotifyPending ∷ refusal.Stale ∷ refusal.QueueFull ∷ refusal.NoMemory ∷ refusal.JournalFull ∷ refusal.Stopped ∷ []

-- The error of a word such as `E5 BadValue`.
abbrev pub error_of : List ℕ → Option IocError
error_of word = with_word refusal_words all_errors word

unfoldable pub outcome_word : Outcome → List ℕ
outcome_word Processed = codes "processed"
outcome_word Disabled = codes "disabled"
outcome_word Active = codes "active"
outcome_word Reprocess = codes "reprocess"

abbrev pub all_outcomes : List Outcome
all_outcomes = Processed ∷ Disabled ∷ Active ∷ Reprocess ∷ []

abbrev pub outcome_of : List ℕ → Option Outcome
outcome_of word = with_word outcome_word all_outcomes word

unfoldable pub mode_word : Mode → List ℕ
mode_word Nms = codes "NMS"
mode_word Ms = codes "MS"
mode_word Msi = codes "MSI"
mode_word Mss = codes "MSS"

abbrev pub all_modes : List Mode
all_modes = Nms ∷ Ms ∷ Msi ∷ Mss ∷ []

abbrev pub mode_of : List ℕ → Option Mode
mode_of word = with_word mode_word all_modes word

unfoldable pub kind_word : ValueKind → List ℕ
kind_word kind.Long = codes "long"
kind_word kind.ULong = codes "ulong"
kind_word kind.Short = codes "short"
kind_word kind.UShort = codes "ushort"
kind_word kind.UChar = codes "uchar"
kind_word kind.Enum = codes "enum"
kind_word kind.Int64 = codes "int64"
kind_word kind.Double = codes "double"
kind_word kind.Text = codes "text"

abbrev pub all_kinds : List ValueKind
all_kinds = kind.Long ∷ kind.ULong ∷ kind.Short ∷ kind.UShort ∷ kind.UChar ∷ kind.Enum ∷ kind.Int64 ∷ kind.Double ∷ kind.Text ∷ []

abbrev pub kind_of : List ℕ → Option ValueKind
kind_of word = with_word kind_word all_kinds word

unfoldable pub call_word : CallKind → List ℕ
call_word call.Process = codes "process"
call_word call.Put = codes "put"
call_word call.Complete = codes "complete"
call_word call.Notify = codes "notify"
call_word call.Cancel = codes "cancel"
call_word call.Get = codes "get"
call_word call.IsLive = codes "live"
call_word call.Link = codes "link"
call_word call.Post = codes "post"
call_word call.Interrupt = codes "interrupt"

abbrev pub all_calls : List CallKind
all_calls = call.Process ∷ call.Put ∷ call.Complete ∷ call.Notify ∷ call.Cancel ∷ call.Get ∷ call.IsLive ∷ call.Link ∷ call.Post ∷ call.Interrupt ∷ []

abbrev pub call_of : List ℕ → Option CallKind
call_of word = with_word call_word all_calls word
