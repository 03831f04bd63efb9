-- Printed values and answers are read.
use Rattle.std.proofs.Common.{◌≡◌, ℕ, ◌≤◌, ◌<◌, ◌^◌, Bool, true, false, cond, List, [], ◌∷◌, ◌++◌, length, Some, ℤ, pos, negsuc, refl, ap, ◌∙◌, append_assoc, arith}
use Rattle.std.specs.Prelude.{FitsSigned, T, codes, decimal}
use Rattle.std.specs.Float.Ieee.{Float, binary64, fits}
use Rattle.std.specs.Int.{w16, w32, w64}
use Rattle.std.specs.List.{flat_map, AllByRecursion}
use Rattle.std.specs.Fmt.{signed_decimal}
use Rattle.std.proofs.lemmas.Int.{ints}
use Rattle.std.proofs.lemmas.Bool.{lt-ltb}
use Rattle.ioc_values.specs.Conversion.{value_in}
use Rattle.ioc_values.specs.declared.kind.Range.{Range}
use Rattle.ioc_values.specs.declared.kind.Range.TheVariants as range
use Rattle.ioc_values.specs.declared.value.Value.{Value}
use Rattle.ioc_values.specs.declared.value.Value.TheVariants.{Long, ULong, Short, UShort, UChar, Enum, Int64, Double, Text}
use Rattle.ioc_values.specs.declared.value.Finished.{Finished}
use Rattle.ioc_values.specs.declared.value.Finished.TheVariants as finished
use Rattle.ioc_values.specs.declared.input.Input.{Input}
use Rattle.ioc_values.specs.declared.input.Input.TheVariants as input
use Rattle.ioc_device.specs.declared.Answer.{Answer}
use Rattle.ioc_device.specs.declared.Answer.TheVariants as answer
use Rattle.ioc_journal_file.specs.declared.kinds.ValueKind.TheVariants as kind
use Rattle.ioc_journal_file.specs.Words.{ends_word, word_of, is_word}
use Rattle.ioc_journal_file.specs.Texts.{quoted}
use Rattle.ioc_journal_file.specs.Bits.{bits_text}
use Rattle.ioc_journal_file.specs.Lists.{kind_word}
use Rattle.ioc_journal_file.specs.Form.{value_text, input_text, finished_text, answer_text, answers_text}
use Rattle.ioc_journal_file.specs.Reading.{◌>>=◌}
use Rattle.ioc_journal_file.specs.Parts.{number_in, double_at, value_by, value_at, value_input_at, input_at, done_at, finished_at, value_answer_at, answer_at, answers_of, number_at}
use Rattle.ioc_journal_file.specs.Fits.{IsValue, IsInput, IsFinished, IsAnswer, IsNumber}
use Rattle.ioc_journal_file.proofs.Splitting.{is_whole, word_cut, after_cut}
use Rattle.ioc_journal_file.proofs.NumbersAgain.{integer_again, number_again}
use Rattle.ioc_journal_file.proofs.TextsAgain.{text_again}
use Rattle.ioc_journal_file.proofs.BitsAgain.{bits_whole, bits_again}

in_signed31 : (z : ℤ) → FitsSigned w32 z → (value_in range.Long z ≡ Some (Long z)) × FitsSigned w64 z
unfolding value_in
in_signed31 (pos n) h = let k : n < 2 ^ 31 = omega (arith, ints) in (rw (lt-ltb n (2 ^ 31) k) refl, omega (arith, ints))
in_signed31 (negsuc n) h = let k : n < 2 ^ 31 = omega (arith, ints) in (rw (lt-ltb n (2 ^ 31) k) refl, omega (arith, ints))

in_signed15 : (z : ℤ) → FitsSigned w16 z → (value_in range.Short z ≡ Some (Short z)) × FitsSigned w64 z
unfolding value_in
in_signed15 (pos n) h = let k : n < 2 ^ 15 = omega (arith, ints) in (rw (lt-ltb n (2 ^ 15) k) refl, omega (arith, ints))
in_signed15 (negsuc n) h = let k : n < 2 ^ 15 = omega (arith, ints) in (rw (lt-ltb n (2 ^ 15) k) refl, omega (arith, ints))

in_signed63 : (z : ℤ) → FitsSigned w64 z → value_in range.Int64 z ≡ Some (Int64 z)
unfolding value_in
in_signed63 (pos n) h = let k : n < 2 ^ 63 = omega (arith, ints) in rw (lt-ltb n (2 ^ 63) k) refl
in_signed63 (negsuc n) h = let k : n < 2 ^ 63 = omega (arith, ints) in rw (lt-ltb n (2 ^ 63) k) refl

wide : (n : ℕ) → n < 2 ^ 32 → FitsSigned w64 (pos n)
wide n h = omega (arith, ints)

number_in_again : (range : Range) (z : ℤ) (v : Value) (c : ℕ) (rest : List ℕ) → value_in range z ≡ Some v → FitsSigned w64 z → ends_word c ≡ true
    → number_in range (signed_decimal z ++ c ∷ rest) ≡ Some (v, rest)
unfolding number_in
number_in_again range z v c rest is h e = rw (integer_again z c rest h e) (rw is refl)

text_value : (text : List ℕ) (c : ℕ) (rest : List ℕ) → length text ≤ 39 → ends_word c ≡ true → value_by kind.Text (quoted text ++ c ∷ rest) ≡ Some (Text text, rest)
unfolding value_by
text_value text c rest h e = ap (λ (p : List ℕ × List ℕ). Some (Text p.0, p.1)) (text_again 39 text c rest h e)

double_value : (x : Float) (c : ℕ) (rest : List ℕ) → T (fits binary64 x) → ends_word c ≡ true → value_by kind.Double (bits_text x ++ c ∷ rest) ≡ Some (Double x, rest)
unfolding value_by double_at
double_value x c rest h e = rw (word_cut (bits_text x) c rest (bits_whole x) e, after_cut (bits_text x) c rest (bits_whole x) e, bits_again x h) refl

pub value_again : (v : Value) (c : ℕ) (rest : List ℕ) → IsValue v → ends_word c ≡ true → value_at (value_text v ++ c ∷ rest) ≡ Some (v, rest)
unfolding value_text value_at value_by value_in kind_word
value_again (Long z) c rest h e = let i = in_signed31 z h in number_in_again range.Long z (Long z) c rest i.0 i.1 e
value_again (ULong n) c rest h e = number_in_again range.ULong (pos n) (ULong n) c rest (rw (lt-ltb n (2 ^ 32) h) refl) (wide n h) e
value_again (Short z) c rest h e = let i = in_signed15 z h in number_in_again range.Short z (Short z) c rest i.0 i.1 e
value_again (UShort n) c rest h e = number_in_again range.UShort (pos n) (UShort n) c rest (rw (lt-ltb n (2 ^ 16) h) refl) (wide n (omega (arith, h))) e
value_again (UChar n) c rest h e = number_in_again range.UChar (pos n) (UChar n) c rest (rw (lt-ltb n (2 ^ 8) h) refl) (wide n (omega (arith, h))) e
value_again (Enum n) c rest h e = number_in_again range.Enum (pos n) (Enum n) c rest (rw (lt-ltb n (2 ^ 16) h) refl) (wide n (omega (arith, h))) e
value_again (Int64 z) c rest h e = number_in_again range.Int64 z (Int64 z) c rest (in_signed63 z h) h e
value_again (Double x) c rest h e = double_value x c rest h e
value_again (Text text) c rest h e = text_value text c rest h e

-- The first word of a value is none of the words that stand in place of a value.
pub record IsNoOther (word : List ℕ) : Type 0 where
  pub longtext : is_word word (codes "longtext") ≡ false
  pub fault : is_word word (codes "fault") ≡ false
  pub later : is_word word (codes "later") ≡ false

no_other : (v : Value) (rest : List ℕ) → IsNoOther (word_of (value_text v ++ rest))
unfolding value_text
no_other (Long z) rest = record { longtext = refl; fault = refl; later = refl }
no_other (ULong n) rest = record { longtext = refl; fault = refl; later = refl }
no_other (Short z) rest = record { longtext = refl; fault = refl; later = refl }
no_other (UShort n) rest = record { longtext = refl; fault = refl; later = refl }
no_other (UChar n) rest = record { longtext = refl; fault = refl; later = refl }
no_other (Enum n) rest = record { longtext = refl; fault = refl; later = refl }
no_other (Int64 z) rest = record { longtext = refl; fault = refl; later = refl }
no_other (Double x) rest = record { longtext = refl; fault = refl; later = refl }
no_other (Text text) rest = record { longtext = refl; fault = refl; later = refl }

pub otherwise : {X : Type 0} (b : Bool) (x y z : X) → b ≡ false → y ≡ z → cond b x y ≡ z
otherwise true x y z h k = absurd cc
otherwise false x y z h k = k

pub chosen : {X : Type 0} (b : Bool) (x y z : X) → b ≡ true → x ≡ z → cond b x y ≡ z
chosen true x y z h k = k
chosen false x y z h k = absurd cc

pub input_again : (v : Input) (c : ℕ) (rest : List ℕ) → IsInput v → ends_word c ≡ true → input_at (input_text v ++ c ∷ rest) ≡ Some (v, rest)
unfolding input_text input_at value_input_at
input_again (input.Value v) c rest h e =
    otherwise (is_word (word_of (value_text v ++ c ∷ rest)) (codes "longtext")) _ _ _ (no_other v (c ∷ rest)).longtext (rw (value_again v c rest h e) refl)
input_again (input.LongText text) c rest h e = ap (λ (p : List ℕ × List ℕ). Some (input.LongText p.0, p.1)) (text_again 39 text c rest h e)

fault_finished : (w : List ℕ) (c : ℕ) (rest : List ℕ) → is_whole w ≡ true → is_word w (codes "fault") ≡ true → ends_word c ≡ true → finished_at (w ++ c ∷ rest) ≡ Some (finished.Fault, rest)
unfolding finished_at
fault_finished w c rest h f e = rw (word_cut w c rest h e, after_cut w c rest h e, f) refl

pub finished_again : (x : Finished) (c : ℕ) (rest : List ℕ) → IsFinished x → ends_word c ≡ true → finished_at (finished_text x ++ c ∷ rest) ≡ Some (x, rest)
unfolding finished_text finished_at done_at
finished_again (finished.Done v) c rest h e =
    otherwise (is_word (word_of (value_text v ++ c ∷ rest)) (codes "fault")) _ _ _ (no_other v (c ∷ rest)).fault (rw (value_again v c rest h e) refl)
finished_again finished.Fault c rest h e = fault_finished (codes "fault") c rest refl refl e

fault_answer : (w : List ℕ) (c : ℕ) (rest : List ℕ) → is_whole w ≡ true → is_word w (codes "fault") ≡ true → ends_word c ≡ true → answer_at (w ++ c ∷ rest) ≡ Some (answer.Fault, rest)
unfolding answer_at
fault_answer w c rest h f e = rw (word_cut w c rest h e, after_cut w c rest h e, f) refl

later_answer : (w : List ℕ) (c : ℕ) (rest : List ℕ) → is_whole w ≡ true → is_word w (codes "fault") ≡ false → is_word w (codes "later") ≡ true → ends_word c ≡ true
    → answer_at (w ++ c ∷ rest) ≡ Some (answer.Later, rest)
unfolding answer_at
later_answer w c rest h f l e = rw (word_cut w c rest h e, after_cut w c rest h e, f, l) refl

pub answer_again : (a : Answer) (c : ℕ) (rest : List ℕ) → IsAnswer a → ends_word c ≡ true → answer_at (answer_text a ++ c ∷ rest) ≡ Some (a, rest)
unfolding answer_text answer_at value_answer_at
answer_again (answer.Done v) c rest h e =
    let n = no_other v (c ∷ rest) in
    otherwise (is_word (word_of (value_text v ++ c ∷ rest)) (codes "fault")) _ _ _ n.fault
    (otherwise (is_word (word_of (value_text v ++ c ∷ rest)) (codes "later")) _ _ _ n.later (rw (value_again v c rest h e) refl))
answer_again answer.Fault c rest h e = fault_answer (codes "fault") c rest refl refl e
answer_again answer.Later c rest h e = later_answer (codes "later") c rest refl refl refl e

abbrev listed : List Answer → List ℕ
listed answers = flat_map (λ answer. 9 ∷ answer_text answer) answers

-- The answers after the byte that ends the word before them.
abbrev behind : List Answer → ℕ → List ℕ → List ℕ
behind [] c rest = rest
behind (a ∷ answers) c rest = answer_text a ++ (listed answers ++ c ∷ rest)

-- What ends the word before some answers, if nothing or `c` follows them.
abbrev before : List Answer → ℕ → ℕ
before [] c = c
before (a ∷ answers) c = 9

begun : (answers : List Answer) (c : ℕ) (rest : List ℕ) → listed answers ++ c ∷ rest ≡ before answers c ∷ behind answers c rest
begun [] c rest = refl
begun (a ∷ answers) c rest = ap (λ (l : List ℕ). 9 ∷ l) (append_assoc (answer_text a) (listed answers) (c ∷ rest))

begins : (answers : List Answer) (c : ℕ) → ends_word c ≡ true → ends_word (before answers c) ≡ true
begins [] c e = e
begins (a ∷ answers) c e = refl

listed_again : (answers : List Answer) (c : ℕ) (rest : List ℕ) → AllByRecursion IsAnswer answers → ends_word c ≡ true → answers_of (length answers) (behind answers c rest) ≡ Some answers
unfolding answers_of
listed_again [] c rest h e = refl
listed_again (a ∷ answers) c rest h e =
    rw (begun answers c rest, answer_again a (before answers c) (behind answers c rest) h.0 (begins answers c e), listed_again answers c rest h.1 e) refl

-- The count and the answers.
pub answers_again : (answers : List Answer) (c : ℕ) (rest : List ℕ) → AllByRecursion IsAnswer answers → IsNumber (length answers) → ends_word c ≡ true
    → (number_at (answers_text answers ++ c ∷ rest) >>= λ count. answers_of count.0 count.1) ≡ Some answers
unfolding answers_text
answers_again answers c rest h few e =
    let text : answers_text answers ++ c ∷ rest ≡ decimal (length answers) ++ before answers c ∷ behind answers c rest =
    append_assoc (decimal (length answers)) (listed answers) (c ∷ rest) ∙ ap (λ (l : List ℕ). decimal (length answers) ++ l) (begun answers c rest) in
    let count = ap number_at text ∙ number_again (length answers) (before answers c) (behind answers c rest) few (begins answers c e) in
    rw count (listed_again answers c rest h e)
