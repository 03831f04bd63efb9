-- The line of an entry is read as this entry.
use Rattle.std.proofs.Common.{◌≡◌, ℕ, suc, ◌-◌, ◌+◌, ◌≤◌, ◌<◌, Bool, true, false, IsTrue, List, [], ◌∷◌, ◌++◌, Option, Some, None, refl, sym, ap, ◌∙◌, append_assoc, arith}
use Rattle.std.specs.Prelude.{decimal}
use Rattle.std.proofs.lemmas.List.{append-nil}
use Rattle.ioc_device.specs.declared.Answer.{Answer}
use Rattle.ioc_events.specs.declared.event.Call.{Call}
use Rattle.ioc_journal_file.specs.declared.line.Mark.{Mark}
use Rattle.ioc_journal_file.specs.declared.line_error.LineError.{LineError}
use Rattle.ioc_journal_file.specs.declared.line_error.LineError.TheVariants as error
use Rattle.ioc_journal_file.specs.Words.{ends_word}
use Rattle.ioc_journal_file.specs.Form.{answers_text, call_text, mark_text, line_of}
use Rattle.ioc_journal_file.specs.Reading.{◌>>=◌}
use Rattle.ioc_journal_file.specs.Parts.{number_at, answer_at, answers_of}
use Rattle.ioc_journal_file.specs.Calls.{mark_at, head_at, parts_of}
use Rattle.ioc_journal_file.specs.Fits.{IsMark, IsEntry}
use Rattle.ioc_journal_file.specs.Lines.{Fails, IsLineOf, IsOutOfMemory}
use Rattle.ioc_journal_file.proofs.NumbersAgain.{number_again}
use Rattle.ioc_journal_file.proofs.ValuesAgain.{answers_again}
use Rattle.ioc_journal_file.proofs.CallsAgain.{call_again}
use Rattle.ioc_journal_file.proofs.Splitting.{three, four}

mark_again : (m : Mark) (c : ℕ) (rest : List ℕ) → IsMark m → ends_word c ≡ true → mark_at (mark_text m ++ c ∷ rest) ≡ Some (m, rest)
unfolding mark_at mark_text
mark_again m c rest h e =
    ap mark_at (four (decimal m.place) (decimal m.desk) (decimal m.call) (decimal m.moment) (c ∷ rest))
    ∙ rw (
      number_again m.place 9 (decimal m.desk ++ 9 ∷ (decimal m.call ++ 9 ∷ (decimal m.moment ++ c ∷ rest))) h.place refl,
      number_again m.desk 9 (decimal m.call ++ 9 ∷ (decimal m.moment ++ c ∷ rest)) h.desk refl,
      number_again m.call 9 (decimal m.moment ++ c ∷ rest) h.call refl,
      number_again m.moment c rest h.moment e,
    ) refl

-- ---- Reading the answers after the rest was read

abbrev with_head : Mark → Call → ℕ × List ℕ → Option ((Mark × Call × ℕ) × List ℕ)
with_head mark made count = Some ((mark, made, count.0), count.1)

abbrev with_answers : (Mark × Call × ℕ) × List ℕ → Option (Mark × Call × List Answer)
with_answers head = answers_of head.0.2 head.1 >>= λ answers. Some (head.0.0, head.0.1, answers)

abbrev counted_answers : ℕ × List ℕ → Option (List Answer)
counted_answers count = answers_of count.0 count.1

counted : (mark : Mark) (made : Call) (read : Option (ℕ × List ℕ)) (answers : List Answer) → (read >>= counted_answers) ≡ Some answers
    → ((read >>= with_head mark made) >>= with_answers) ≡ Some (mark, made, answers)
counted mark made None answers h = absurd cc
counted mark made (Some count) answers h = rw h refl

-- The line of an entry is read as its parts.
pub line_again : (mark : Mark) (made : Call) (answers : List Answer) → IsEntry mark made answers → parts_of (line_of mark made answers) ≡ Some (mark, made, answers)
unfolding parts_of head_at line_of
line_again mark made answers h =
    let last = answers_text answers ++ 10 ∷ [] in
    ap parts_of (three (mark_text mark) (call_text made) (answers_text answers) (10 ∷ []))
    ∙ rw (mark_again mark 9 (call_text made ++ 9 ∷ last) h.mark refl, call_again made 9 last h.call refl)
    (counted mark made (number_at last) answers (answers_again answers 10 [] h.answers h.count refl))

-- ---- Reading answers one after the other

-- The answers that were read before, and those that are still read.
abbrev pub with_front : List Answer → Option (List Answer) → Option (List Answer)
with_front front read = read >>= λ answers. Some (front ++ answers)

regroup : (front : List Answer) (a : Answer) (read : Option (List Answer)) → with_front front (read >>= λ answers. Some (a ∷ answers)) ≡ with_front (front ++ a ∷ []) read
regroup front a (Some answers) = ap (λ (l : List Answer). Some l) (simp append_assoc)
regroup front a None = refl

pub goes_on : (front : List Answer) (count i : ℕ) (bytes after : List ℕ) (a : Answer) (total : Option (List Answer)) → i < count → answer_at bytes ≡ Some (a, after)
    → with_front front (answers_of (count - i) bytes) ≡ total → with_front (front ++ a ∷ []) (answers_of (count - (i + 1)) after) ≡ total
unfolding answers_of
goes_on front count i bytes after a total lt h so_far =
    let k : count - i ≡ suc (count - (i + 1)) = omega arith in
    let one : with_front front (answers_of (count - i) bytes) ≡ with_front (front ++ a ∷ []) (answers_of (count - (i + 1)) after) = rw (k, h) (regroup front a (answers_of (count - (i + 1)) after)) in
    sym one ∙ so_far

pub ends : (front : List Answer) (count i : ℕ) (bytes : List ℕ) (total : Option (List Answer)) → i < count → answer_at bytes ≡ None
    → with_front front (answers_of (count - i) bytes) ≡ total → total ≡ None
unfolding answers_of
ends front count i bytes total lt h so_far =
    let k : count - i ≡ suc (count - (i + 1)) = omega arith in
    let one : with_front front (answers_of (count - i) bytes) ≡ None = rw (k, h) refl in
    sym so_far ∙ one

pub is_done : (front : List Answer) (count i : ℕ) (bytes : List ℕ) (total : Option (List Answer)) → count ≤ i → with_front front (answers_of (count - i) bytes) ≡ total → total ≡ Some front
unfolding answers_of
is_done front count i bytes total le so_far =
    let k : count - i ≡ 0 = omega arith in
    let one : with_front front (answers_of (count - i) bytes) ≡ Some front = rw k (ap (λ (l : List Answer). Some l) (append-nil front)) in
    sym so_far ∙ one

-- ---- Different entries have different lines

abbrev parts : Mark → Call → List Answer → Option (Mark × Call × List Answer)
parts m made answers = Some (m, made, answers)

parts_alike : (p q : Mark × Call × List Answer) → (let a : Option (Mark × Call × List Answer) = Some p in let b : Option (Mark × Call × List Answer) = Some q in a ≡ b) → p ≡ q
parts_alike p q is = cc

parts_same : (m n : Mark) (a b : Call) (xs ys : List Answer) → parts m a xs ≡ parts n b ys → (m ≡ n) × (a ≡ b) × (xs ≡ ys)
parts_same m n a b xs ys is =
    let e = parts_alike (m, a, xs) (n, b, ys) is in (ap (λ (p : Mark × Call × List Answer). p.0) e, ap (λ (p : Mark × Call × List Answer). p.1) e, ap (λ (p : Mark × Call × List Answer). p.2) e)

pub lines_same : (m n : Mark) (a b : Call) (xs ys : List Answer) → IsEntry m a xs → IsEntry n b ys → line_of m a xs ≡ line_of n b ys → (m ≡ n) × (a ≡ b) × (xs ≡ ys)
lines_same m n a b xs ys h k is = parts_same m n a b xs ys (sym (line_again m a xs h) ∙ ap parts_of is ∙ line_again n b ys k)

-- What was read of the line of an entry is the entry.
pub read_as : (line : List ℕ) (m n : Mark) (a b : Call) (xs ys : List Answer) → IsEntry n b ys → line ≡ line_of n b ys → parts_of line ≡ Some (m, a, xs) → (m ≡ n) × (a ≡ b) × (xs ≡ ys)
read_as line m n a b xs ys k is read = parts_same m n a b xs ys (sym read ∙ ap parts_of is ∙ line_again n b ys k)

pub not_none : (line : List ℕ) (n : Mark) (b : Call) (ys : List Answer) → IsEntry n b ys → line ≡ line_of n b ys → parts_of line ≡ None → ⊥
not_none line n b ys k is read = let e : parts n b ys ≡ None = sym (line_again n b ys k) ∙ sym (ap parts_of is) ∙ read in absurd cc

-- Reading the line of an entry fails only if memory ran out.
pub only_memory : (e : LineError) (line : List ℕ) (n : Mark) (b : Call) (ys : List Answer) → IsEntry n b ys → line ≡ line_of n b ys → Fails e (parts_of line) → IsOutOfMemory e
only_memory error.NotALine line n b ys k is read = not_none line n b ys k is read
only_memory error.NoMemory line n b ys k is read = tt

contradicts : (b : Bool) → IsTrue b → b ≡ false → ⊥
contradicts true t h = absurd cc
contradicts false t h = absurd cc

-- What was read of the line of an entry has this line.
pub not_refused : (b : Bool) (line : List ℕ) (m n : Mark) (a c : Call) (xs ys : List Answer) → IsEntry n c ys → line ≡ line_of n c ys → parts_of line ≡ Some (m, a, xs) → IsLineOf b line m a xs → b ≡ false → ⊥
not_refused b line m n a c xs ys k is read told refused =
    let same = read_as line m n a c xs ys k is read in
    contradicts b (told.1 (rw (same.0, same.1, same.2) is)) refused
