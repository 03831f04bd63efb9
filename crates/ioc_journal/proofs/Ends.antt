-- The entry with which a list ends.
use Rattle.std.proofs.Common.{◌≡◌, ℕ, zero, suc, ◌+◌, List, [], ◌∷◌, ◌++◌, length, Option, Some, None, refl, sym, ap, ◌∙◌, arith, length-append}
use Rattle.std.proofs.lemmas.List.{append_assoc}
use Rattle.std.proofs.lemmas.Option.{slice_get-get_or}
use Rattle.std.proofs.Math.Seq.{get_or-append_seam}
use Rattle.std.specs.Prelude.{slice_get, unwrap_or}
use Rattle.ioc_journal.specs.declared.entry.JournalEntry.{JournalEntry}
use Rattle.ioc_journal.specs.declared.entry.Note.{Note}
use Rattle.ioc_journal.specs.Line.{Begins, noted}
use Rattle.ioc_journal.specs.Account.{calls, IsEntryOf}
use Rattle.ioc_journal.proofs.Calls.{calls-append, length-calls}

-- A list that isn't empty is what precedes its last element, followed by that element.
last_of : {X : Type 0} (xs : List X) (n : ℕ) → length xs ≡ n + 1 → (before : List X) × (x : X) × (xs ≡ before ++ x ∷ []) × (length before ≡ n)
last_of [] n is = absurd (let z : ⊥ = omega (arith, is) in z)
last_of (x ∷ []) n is = ([], x, refl, let z : 0 ≡ n = omega (arith, is) in z)
last_of (x ∷ y ∷ zs) zero is = absurd (let z : ⊥ = omega (arith, is) in z)
last_of (x ∷ y ∷ zs) (suc n) is = let r = last_of (y ∷ zs) n (omega (arith, is)) in (x ∷ r.0, r.1, ap (λ l. x ∷ l) r.2, ap suc r.3)

at_seam : {X : Type 0} (xs : List X) (y : X) (ys : List X) → slice_get (xs ++ y ∷ ys) (length xs) ≡ Some y
at_seam xs y ys =
    slice_get-get_or (xs ++ y ∷ ys) (length xs) y (omega (arith, length-append xs (y ∷ ys))) ∙ ap (λ x. Some x) (get_or-append_seam xs y ys y)

-- If all calls begin with the receipt's list, the entry at its last place is the receipt's.
pub is_entry_of : (receipt all : List Note) (place : ℕ) (entry : JournalEntry) → length receipt ≡ place + 1 → Begins receipt all → slice_get (calls all) place ≡ Some entry → IsEntryOf receipt all entry
is_entry_of receipt all place entry long begins found =
    let r = last_of receipt place long in
    let before = r.0 in
    let last = r.1 in
    let count : length (calls before) ≡ place = length-calls before ∙ r.3 in
    let whole : calls all ≡ calls before ++ last.entry ∷ calls begins.0 =
    ap calls begins.1 ∙ (calls-append receipt begins.0 ∙ (ap (λ l. calls l ++ calls begins.0) r.2 ∙ (ap (λ l. l ++ calls begins.0) (calls-append before (last ∷ [])) ∙ append_assoc (calls before) (last.entry ∷ []) (calls begins.0)))) in
    let here : slice_get (calls all) place ≡ Some last.entry = ap (λ l. slice_get l place) whole ∙ (ap (λ k. slice_get (calls before ++ last.entry ∷ calls begins.0) k) (sym count) ∙ at_seam (calls before) last.entry (calls begins.0)) in
    let same : last.entry ≡ entry = ap (λ (o : Option JournalEntry). unwrap_or o entry) (sym here ∙ found) in
    record {
      before = before;
      keys = last.keys;
      ends = r.2 ∙ ap (λ (e : JournalEntry). before ++ noted e last.keys ∷ []) same;
      begins = begins;
      place = ap (λ k. slice_get (calls all) k) r.3 ∙ found;
    }

none_some : {X : Type 0} (x : X) → Some x ≡ None → ⊥
none_some x e = cc

-- There is an entry at that place.
pub is_within : (receipt all : List Note) (place : ℕ) → length receipt ≡ place + 1 → Begins receipt all → slice_get (calls all) place ≡ None → ⊥
is_within receipt all place long begins none =
    let few : length all ≡ length receipt + length begins.0 = ap length begins.1 ∙ length-append receipt begins.0 in
    let many = length-calls all in
    let r = last_of receipt place long in
    none_some _ (sym (slice_get-get_or (calls all) place r.1.entry (omega (arith, long, few, many))) ∙ none)
