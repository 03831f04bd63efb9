-- Printed replies are read.
use Rattle.std.proofs.Common.{◌≡◌, ℕ, Bool, true, false, List, ◌∷◌, ◌++◌, Some, None, Result, Ok, Err, refl, ap}
use Rattle.std.specs.Prelude.{codes}
use Rattle.ioc_values.specs.declared.error.IocError.{IocError}
use Rattle.ioc_values.specs.declared.error.IocError.TheVariants as refusal
use Rattle.ioc_values.specs.Words.{refusal_words}
use Rattle.ioc_ledger.specs.declared.outcome.Outcome.{Outcome}
use Rattle.ioc_ledger.specs.declared.outcome.Outcome.TheVariants.{Processed, Disabled, Active, Reprocess}
use Rattle.ioc_events.specs.declared.reply.Reply.{Reply}
use Rattle.ioc_events.specs.declared.reply.Reply.TheVariants as reply
use Rattle.ioc_journal_file.specs.Words.{ends_word, is_word}
use Rattle.ioc_journal_file.specs.Lists.{error_of, outcome_word, outcome_of}
use Rattle.ioc_journal_file.specs.Form.{reply_text, shown_text, changed_text, live_word}
use Rattle.ioc_journal_file.specs.Parts.{refused_at, notified_at, reply_at, shown_at, changed_at, live_at}
use Rattle.ioc_journal_file.specs.Fits.{IsReply, IsShown}
use Rattle.ioc_journal_file.proofs.Splitting.{is_whole, word_cut, after_cut}
use Rattle.ioc_journal_file.proofs.NumbersAgain.{number_again}
use Rattle.ioc_journal_file.proofs.TextsAgain.{text_again}

-- The words of an error are the words of no other reply.
pub record IsErrorWord (e : IocError) : Type 0 where
  pub whole : is_whole (refusal_words e) ≡ true
  pub read : error_of (refusal_words e) ≡ Some e
  pub not_done : is_word (refusal_words e) (codes "done") ≡ false
  pub no_notify : is_word (refusal_words e) (codes "notify") ≡ false
  pub no_outcome : outcome_of (refusal_words e) ≡ None

pub error_word : (e : IocError) → IsErrorWord e
unfolding refusal_words outcome_word
error_word refusal.NoRecord = record { whole = refl; read = refl; not_done = refl; no_notify = refl; no_outcome = refl }
error_word refusal.NoField = record { whole = refl; read = refl; not_done = refl; no_notify = refl; no_outcome = refl }
error_word refusal.NoMod = record { whole = refl; read = refl; not_done = refl; no_notify = refl; no_outcome = refl }
error_word refusal.PutDisabled = record { whole = refl; read = refl; not_done = refl; no_notify = refl; no_outcome = refl }
error_word refusal.BadValue = record { whole = refl; read = refl; not_done = refl; no_notify = refl; no_outcome = refl }
error_word refusal.BadLink = record { whole = refl; read = refl; not_done = refl; no_notify = refl; no_outcome = refl }
error_word refusal.NotifyPending = record { whole = refl; read = refl; not_done = refl; no_notify = refl; no_outcome = refl }
error_word refusal.Stale = record { whole = refl; read = refl; not_done = refl; no_notify = refl; no_outcome = refl }
error_word refusal.QueueFull = record { whole = refl; read = refl; not_done = refl; no_notify = refl; no_outcome = refl }
error_word refusal.NoMemory = record { whole = refl; read = refl; not_done = refl; no_notify = refl; no_outcome = refl }
error_word refusal.JournalFull = record { whole = refl; read = refl; not_done = refl; no_notify = refl; no_outcome = refl }
error_word refusal.Stopped = record { whole = refl; read = refl; not_done = refl; no_notify = refl; no_outcome = refl }

-- The word of an outcome is neither `done` nor `notify`.
pub record IsOutcomeWord (o : Outcome) : Type 0 where
  pub whole : is_whole (outcome_word o) ≡ true
  pub read : outcome_of (outcome_word o) ≡ Some o
  pub not_done : is_word (outcome_word o) (codes "done") ≡ false
  pub no_notify : is_word (outcome_word o) (codes "notify") ≡ false

pub outcome_is : (o : Outcome) → IsOutcomeWord o
unfolding outcome_word
outcome_is Processed = record { whole = refl; read = refl; not_done = refl; no_notify = refl }
outcome_is Disabled = record { whole = refl; read = refl; not_done = refl; no_notify = refl }
outcome_is Active = record { whole = refl; read = refl; not_done = refl; no_notify = refl }
outcome_is Reprocess = record { whole = refl; read = refl; not_done = refl; no_notify = refl }

refused_again : (error : IocError) (c : ℕ) (rest : List ℕ) → ends_word c ≡ true → refused_at (refusal_words error ++ c ∷ rest) ≡ Some (reply.Refused error, rest)
unfolding refused_at
refused_again error c rest e =
    let w = error_word error in rw (word_cut (refusal_words error) c rest w.whole e, w.read, after_cut (refusal_words error) c rest w.whole e) refl

outcome_again : (o : Outcome) (c : ℕ) (rest : List ℕ) → ends_word c ≡ true → reply_at (outcome_word o ++ c ∷ rest) ≡ Some (reply.Outcome o, rest)
unfolding reply_at
outcome_again o c rest e =
    let w = outcome_is o in
    rw (word_cut (outcome_word o) c rest w.whole e, w.not_done, w.no_notify, w.read, after_cut (outcome_word o) c rest w.whole e) refl

error_again : (error : IocError) (c : ℕ) (rest : List ℕ) → ends_word c ≡ true → reply_at (refusal_words error ++ c ∷ rest) ≡ Some (reply.Refused error, rest)
unfolding reply_at
error_again error c rest e =
    let w = error_word error in
    rw (word_cut (refusal_words error) c rest w.whole e, w.not_done, w.no_notify, w.no_outcome) (refused_again error c rest e)

plain_reply : (w : List ℕ) (c : ℕ) (rest : List ℕ) → is_whole w ≡ true → is_word w (codes "done") ≡ true → ends_word c ≡ true → reply_at (w ++ c ∷ rest) ≡ Some (reply.Plain, rest)
unfolding reply_at
plain_reply w c rest h d e = rw (word_cut w c rest h e, after_cut w c rest h e, d) refl

pub reply_again : (r : Reply) (c : ℕ) (rest : List ℕ) → IsReply r → ends_word c ≡ true → reply_at (reply_text r ++ c ∷ rest) ≡ Some (r, rest)
unfolding reply_text reply_at notified_at
reply_again reply.Plain c rest h e = plain_reply (codes "done") c rest refl refl e
reply_again (reply.Outcome o) c rest h e = outcome_again o c rest e
reply_again (reply.Notify number) c rest h e = rw (number_again number c rest h e) refl
reply_again (reply.Refused error) c rest h e = error_again error c rest e

shown_error : (error : IocError) (c : ℕ) (rest : List ℕ) → ends_word c ≡ true → shown_at (refusal_words error ++ c ∷ rest) ≡ (Err error, rest)
unfolding shown_at
shown_error error c rest e =
    let w = error_word error in rw (word_cut (refusal_words error) c rest w.whole e, w.read, after_cut (refusal_words error) c rest w.whole e) refl

changed_error : (error : IocError) (c : ℕ) (rest : List ℕ) → ends_word c ≡ true → changed_at (refusal_words error ++ c ∷ rest) ≡ (Err error, rest)
unfolding changed_at
changed_error error c rest e =
    let w = error_word error in rw (word_cut (refusal_words error) c rest w.whole e, w.read, after_cut (refusal_words error) c rest w.whole e) refl

pub shown_again : (r : Result (List ℕ) IocError) (c : ℕ) (rest : List ℕ) → IsShown r → ends_word c ≡ true → shown_at (shown_text r ++ c ∷ rest) ≡ (r, rest)
unfolding shown_text shown_at refusal_words
shown_again (Ok text) c rest h e = ap (λ (p : List ℕ × List ℕ). (Ok p.0, p.1)) (text_again 120 text c rest h e)
shown_again (Err error) c rest h e = shown_error error c rest e

changed_by : (w : List ℕ) (c : ℕ) (rest : List ℕ) → is_whole w ≡ true → error_of w ≡ None → ends_word c ≡ true → changed_at (w ++ c ∷ rest) ≡ (Ok tt, rest)
unfolding changed_at
changed_by w c rest h d e = rw (word_cut w c rest h e, after_cut w c rest h e, d) refl

pub changed_again : (r : Result (Unit {0}) IocError) (c : ℕ) (rest : List ℕ) → ends_word c ≡ true → changed_at (changed_text r ++ c ∷ rest) ≡ (r, rest)
unfolding changed_text changed_at refusal_words
changed_again (Ok x) c rest e = changed_by (codes "done") c rest refl refl e
changed_again (Err error) c rest e = changed_error error c rest e

live_by : (w : List ℕ) (live : Bool) (c : ℕ) (rest : List ℕ) → is_whole w ≡ true → is_word w (codes "yes") ≡ live → ends_word c ≡ true → live_at (w ++ c ∷ rest) ≡ (live, rest)
unfolding live_at
live_by w live c rest h d e = rw (word_cut w c rest h e, after_cut w c rest h e, d) refl

pub live_again : (live : Bool) (c : ℕ) (rest : List ℕ) → ends_word c ≡ true → live_at (live_word live ++ c ∷ rest) ≡ (live, rest)
unfolding live_word live_at
live_again true c rest e = live_by (codes "yes") true c rest refl refl e
live_again false c rest e = live_by (codes "no") false c rest refl refl e
