-- The first line of a text, and those after it.
use Rattle.std.proofs.Common.{◌≡◌, ℕ, ◌<◌, Bool, true, false, cond, eqb, List, [], ◌∷◌, length, refl, sym, ap, inl, inr, arith}
use Rattle.std.specs.List.{onto_first}
use Rattle.std.proofs.lemmas.Bool.{cases_Bool, eqb-true}
use Rattle.ioc_dblex.specs.Lines.{lines_of}

-- The first line, with its line feed.
abbrev pub first_line : List ℕ → List ℕ
first_line [] = []
first_line (b ∷ bs) = cond (eqb b 10) (b ∷ []) (b ∷ first_line bs)

-- The text after the first line.
abbrev pub behind_line : List ℕ → List ℕ
behind_line [] = []
behind_line (b ∷ bs) = cond (eqb b 10) bs (behind_line bs)

abbrev SplitsOff : List ℕ → Type 0
SplitsOff bs = lines_of bs ≡ first_line bs ∷ lines_of (behind_line bs)

-- A line feed ends the first line.
at_feed : (b : ℕ) (bs : List ℕ) → eqb b 10 ≡ true → SplitsOff (b ∷ bs)
at_feed b bs is = rw is (ap (λ (k : ℕ). (k ∷ []) ∷ lines_of bs) (sym (eqb-true b 10 is)))

at_other : (b : ℕ) (bs : List ℕ) → eqb b 10 ≡ false → lines_of bs ≡ first_line bs ∷ lines_of (behind_line bs) → SplitsOff (b ∷ bs)
at_other b bs is e = rw is (ap (onto_first b) e)

last_other : (b : ℕ) → eqb b 10 ≡ false → SplitsOff (b ∷ [])
last_other b is = rw is refl

pub splits_off : (b : ℕ) (bs : List ℕ) → SplitsOff (b ∷ bs)
splits_off b [] = elim (cases_Bool (eqb b 10)) [ inl is ↦ at_feed b [] is | inr is ↦ last_other b is ]
splits_off b (c ∷ cs) =
    elim (cases_Bool (eqb b 10)) [ inl is ↦ at_feed b (c ∷ cs) is | inr is ↦ at_other b (c ∷ cs) is (splits_off c cs) ]

-- A text that isn't empty has a first line.
pub line_splits : (bs line behind : List ℕ) → line ≡ first_line bs → behind ≡ behind_line bs → 0 < length bs → lines_of bs ≡ line ∷ lines_of behind
line_splits [] line behind l r h = absurd (omega arith)
line_splits (b ∷ bs) line behind l r h = rw (l, r) (splits_off b bs)

onto_some : (b : ℕ) (bs line : List ℕ) (ls others : List (List ℕ)) → onto_first b ls ≡ line ∷ others → 0 < length line
onto_some b bs line [] others e = let k : b ∷ [] ≡ line = cc in rw (← k) (omega arith)
onto_some b bs line (l ∷ ls) others e = let k : b ∷ l ≡ line = cc in rw (← k) (omega arith)

some_step : (t : Bool) (b : ℕ) (bs line : List ℕ) (others : List (List ℕ)) → cond t ((10 ∷ []) ∷ lines_of bs) (onto_first b (lines_of bs)) ≡ line ∷ others → 0 < length line
some_step true b bs line others e = let k : 10 ∷ [] ≡ line = cc in rw (← k) (omega arith)
some_step false b bs line others e = onto_some b bs line (lines_of bs) others e

-- A line has at least one byte.
pub line_some : (bs line : List ℕ) (others : List (List ℕ)) → lines_of bs ≡ line ∷ others → 0 < length line
line_some [] line others e = absurd cc
line_some (b ∷ bs) line others e = some_step (eqb b 10) b bs line others e
