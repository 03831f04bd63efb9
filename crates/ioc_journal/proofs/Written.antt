-- The entries of the calls behind those that were dropped.
use Rattle.std.proofs.Common.{◌≡◌, ℕ, zero, suc, ◌+◌, ◌≤◌, List, [], ◌∷◌, ◌++◌, length, drop, refl, sym, ap, ◌∙◌, arith, length-drop}
use Rattle.std.proofs.lemmas.List.{drop-append-le}
use Rattle.std.specs.Prelude.{slice_get}
use Rattle.ioc_journal.specs.declared.entry.JournalEntry.{JournalEntry}
use Rattle.ioc_journal.specs.declared.entry.Note.{Note}
use Rattle.ioc_journal.specs.Key.{Key}
use Rattle.ioc_journal.specs.Line.{noted}
use Rattle.ioc_journal.specs.Account.{calls}
use Rattle.ioc_journal.proofs.Calls.{calls-append, length-calls}

-- The dropped calls and the entries are as many as the notes.
pub as_many : (items : List JournalEntry) (dropped : ℕ) (seen : List Note) → items ≡ drop dropped (calls seen) → dropped ≤ length seen → dropped + length items ≡ length seen
as_many items dropped seen is within = omega (arith, ap length is, length-drop dropped (calls seen), length-calls seen, within)

-- One more call.
pub one_more_entry : (items : List JournalEntry) (dropped : ℕ) (seen : List Note) (e : JournalEntry) (ks : List Key) → items ≡ drop dropped (calls seen) → dropped ≤ length seen
    → items ++ e ∷ [] ≡ drop dropped (calls (seen ++ noted e ks ∷ []))
one_more_entry items dropped seen e ks is within =
    ap (λ l. l ++ e ∷ []) is
    ∙ (sym (drop-append-le dropped (calls seen) (e ∷ []) (omega (arith, length-calls seen, within))) ∙ sym (ap (drop dropped) (calls-append seen (noted e ks ∷ []))))

-- The entry of a place that wasn't dropped.
pub entry_behind : {X : Type 0} (dropped : ℕ) (xs : List X) (k : ℕ) → slice_get (drop dropped xs) k ≡ slice_get xs (dropped + k)
entry_behind zero xs k = let e : k ≡ 0 + k = omega arith in ap (slice_get xs) e
entry_behind (suc n) [] k = refl
entry_behind (suc n) (x ∷ xs) k = let e : suc n + k ≡ suc (n + k) = omega arith in entry_behind n xs k ∙ sym (ap (slice_get (x ∷ xs)) e)
