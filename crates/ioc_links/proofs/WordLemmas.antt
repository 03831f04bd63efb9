-- The first word of a text, and the words after it.
use Rattle.std.proofs.Common.{◌≡◌, ℕ, ◌≤◌, ◌<◌, Bool, true, false, List, [], ◌∷◌, length, refl, sym, ap, ◌∙◌, arith}
use Rattle.std.proofs.lemmas.Bool.{cases_Bool}
use Rattle.std.proofs.Common.{inl, inr}
use Rattle.ioc_values.specs.Trim.{is_blank, skip_front}
use Rattle.ioc_links.specs.declared.class.Class.TheVariants.{Blank}
use Rattle.ioc_links.specs.Classes.{in_class, front_of, back_of}
use Rattle.ioc_links.specs.Words.{words, in_word}

skipped : (t : Bool) (b : ℕ) (bs : List ℕ) → is_blank true b ≡ t → words (skip_front (is_blank true) bs) ≡ words bs → words (skip_front (is_blank true) (b ∷ bs)) ≡ words (b ∷ bs)
skipped true b bs t h = rw t h
skipped false b bs t h = rw t (rw t refl)

pub words_skip : (bs : List ℕ) → words (skip_front (is_blank true) bs) ≡ words bs
words_skip [] = refl
words_skip (b ∷ bs) = skipped (is_blank true b) b bs refl (words_skip bs)

word_onto : (b : ℕ) (bs front : List ℕ) (others : List (List ℕ)) → is_blank true b ≡ false → in_word bs ≡ true → words bs ≡ front ∷ others → words (b ∷ bs) ≡ (b ∷ front) ∷ others
word_onto b bs front others h i e = rw (h, i, e) refl

onto : (b : ℕ) (bs : List ℕ) → is_blank true b ≡ false → in_word bs ≡ true → words bs ≡ front_of Blank bs ∷ words (back_of Blank bs) → words (b ∷ bs) ≡ front_of Blank (b ∷ bs) ∷ words (back_of Blank (b ∷ bs))
unfolding in_class
onto b bs h i e = word_onto b bs _ _ h i e ∙ rw h refl

alone : (b : ℕ) (bs : List ℕ) → is_blank true b ≡ false → in_word bs ≡ false → front_of Blank bs ≡ [] → back_of Blank bs ≡ bs → words (b ∷ bs) ≡ front_of Blank (b ∷ bs) ∷ words (back_of Blank (b ∷ bs))
unfolding in_class
alone b bs h i f k = rw (h, i, f, k) refl

-- The words of a text that begins with no blank are its first word and the words after it.
pub words_first : (b : ℕ) (bs : List ℕ) → is_blank true b ≡ false → words (b ∷ bs) ≡ front_of Blank (b ∷ bs) ∷ words (back_of Blank (b ∷ bs))
unfolding in_class
words_first b [] h = rw h refl
words_first b (c ∷ cs) h =
    elim (cases_Bool (is_blank true c)) [
      | inl is ↦ alone b (c ∷ cs) h (rw is refl) (rw is refl) (rw is refl)
      | inr other ↦ onto b (c ∷ cs) h (rw other refl) (words_first c cs other)
    ]

back_le : (bs : List ℕ) → length (back_of Blank bs) ≤ length bs
unfolding in_class
back_le [] = omega arith
back_le (b ∷ bs) =
    elim (cases_Bool (is_blank true b)) [
      | inl is ↦ rw is (omega arith)
      | inr other ↦ rw other (omega (arith, back_le bs))
    ]

shorter : (b : ℕ) (bs : List ℕ) → is_blank true b ≡ false → length (back_of Blank (b ∷ bs)) < length (b ∷ bs)
unfolding in_class
shorter b bs h = rw h (omega (arith, back_le bs))

pub next_none : (text skipped : List ℕ) → skipped ≡ skip_front (is_blank true) text → length skipped ≡ 0 → words text ≡ []
next_none text [] e h = sym (words_skip text) ∙ ap words (sym e)
next_none text (b ∷ bs) e h = absurd (omega arith)

abbrev BeginsSo : List ℕ → List ℕ → Type 0
BeginsSo text skipped = (words text ≡ front_of Blank skipped ∷ words (back_of Blank skipped)) × (length (back_of Blank skipped) < length text)

begins : (text : List ℕ) → 0 < length (skip_front (is_blank true) text) → BeginsSo text (skip_front (is_blank true) text)
unfolding in_class
begins [] h = absurd (omega arith)
begins (b ∷ bs) h =
    elim (cases_Bool (is_blank true b)) [
      | inl is ↦ let k = begins bs (rw is at h) in rw is (k.0, omega (arith, k.1))
      | inr other ↦ let e : skip_front (is_blank true) (b ∷ bs) ≡ b ∷ bs = rw other refl in rw e (words_first b bs other, shorter b bs other)
    ]

pub next_some : (text skipped front back : List ℕ) → skipped ≡ skip_front (is_blank true) text → front ≡ front_of Blank skipped → back ≡ back_of Blank skipped → 0 < length skipped
    → (words text ≡ front ∷ words back) × (length back < length text)
next_some text skipped front back e f b h = rw (f, b, e) (begins text (rw e at h))
