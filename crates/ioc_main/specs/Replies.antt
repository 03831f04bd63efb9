-- The lines of replies and counts, without their line feeds. This project's own, after what the
-- commands dbpf and dbgf of an IOC's shell print: Application Developer's Guide, "IOC Test
-- Facilities".
use Rattle.std.specs.Prelude.{ℕ, List, ◌++◌, codes, decimal, Result, Ok, Err}
use Rattle.ioc_values.specs.declared.error.IocError.{IocError}
use Rattle.ioc_values.specs.Words.{refusal_words}
use Rattle.ioc_ledger.specs.declared.outcome.Outcome.{Outcome}
use Rattle.ioc_ledger.specs.declared.outcome.Outcome.TheVariants.{Processed, Disabled, Active, Reprocess}
use Rattle.ioc_ledger.specs.declared.tally.Tally.{Tally}
use Rattle.ioc_events.specs.declared.reply.Reply.{Reply}
use Rattle.ioc_events.specs.declared.reply.Reply.TheVariants.{Plain, Outcome as Outcome-reply, Notify as Notify-reply, Refused}

-- The words for the outcome of a request.
unfoldable pub outcome_words : Outcome → List ℕ
outcome_words Processed = codes "ok processed"
outcome_words Disabled = codes "ok disabled"
outcome_words Active = codes "ok active"
outcome_words Reprocess = codes "ok reprocess"

-- The line of a reply, without its line feed.
abbrev pub reply_words : Reply → List ℕ
reply_words Plain = codes "ok"
reply_words (Outcome-reply outcome) = outcome_words outcome
reply_words (Notify-reply number) = codes "ok notify " ++ decimal number
reply_words (Refused e) = refusal_words e

-- The line of a get, without its line feed.
abbrev pub text_words : Result (List ℕ) IocError → List ℕ
text_words (Ok text) = codes "= " ++ text
text_words (Err e) = refusal_words e

-- The line of a count, without its line feed.
unfoldable pub count_words : ℕ → List ℕ
count_words count = codes "ok " ++ decimal count

-- The line of the counts of requests, without its line feed.
unfoldable pub tally_words : Tally → ℕ → List ℕ
tally_words t dropped =
    codes "tally begun=" ++ decimal t.begun ++ codes " processed=" ++ decimal t.processed
    ++ codes " disabled=" ++ decimal t.disabled ++ codes " active=" ++ decimal t.active
    ++ codes " reprocess=" ++ decimal t.reprocess ++ codes " started=" ++ decimal t.started
    ++ codes " completed=" ++ decimal t.completed ++ codes " dropped=" ++ decimal dropped
