-- Two errors are the same if their words are.
use Rattle.std.proofs.Common.{◌≡◌, List, ℕ, Bool, true, Some, Option, refl, sym, ap, ◌∙◌}
use Rattle.std.specs.Str.{bytes_eq}
use Rattle.std.specs.Bool.{Decides}
use Rattle.std.proofs.lemmas.Slice.Eq.{bytes_eq-Decides}
use Rattle.ioc_values.specs.declared.error.IocError.{IocError}
use Rattle.ioc_values.specs.declared.error.IocError.TheVariants as refusal
use Rattle.ioc_values.specs.Words.{refusal_words}
use Rattle.ioc_journal_file.specs.Lists.{error_of}

read_again : (e : IocError) → error_of (refusal_words e) ≡ Some e
unfolding refusal_words
read_again refusal.NoRecord = refl
read_again refusal.NoField = refl
read_again refusal.NoMod = refl
read_again refusal.PutDisabled = refl
read_again refusal.BadValue = refl
read_again refusal.BadLink = refl
read_again refusal.NotifyPending = refl
read_again refusal.Stale = refl
read_again refusal.QueueFull = refl
read_again refusal.NoMemory = refl
read_again refusal.JournalFull = refl
read_again refusal.Stopped = refl

same_some : (e f : IocError) → Some e ≡ Some f → e ≡ f
same_some e f is = cc

words_tell : (e f : IocError) → refusal_words e ≡ refusal_words f → e ≡ f
words_tell e f same = same_some e f (sym (read_again e) ∙ ap error_of same ∙ read_again f)

pub words-decide : (e f : IocError) (a b : List ℕ) (r : Bool) → a ≡ refusal_words e → b ≡ refusal_words f → r ≡ bytes_eq a b → Decides r (e ≡ f)
words-decide e f a b r one other is =
    let d = bytes_eq-Decides a b in
    (λ t. words_tell e f (sym one ∙ d.0 (sym is ∙ t) ∙ other), λ same. is ∙ d.1 (one ∙ ap refusal_words same ∙ sym other))
