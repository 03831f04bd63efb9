-- Words and lines are cut off at the byte that ends them.
use Rattle.std.proofs.Common.{◌≡◌, ℕ, ◌<◌, Bool, true, false, eqb, not, ◌&&◌, List, [], ◌∷◌, ◌++◌, length, refl, sym, ap, ◌∙◌, arith}
use Rattle.std.specs.List.{slice_get}
use Rattle.std.proofs.lemmas.Bool.{cases_Bool, eq-eqb, eqb-true, and_right}
use Rattle.std.proofs.Common.{◌⊎◌, inl, inr, Option, Some, ◌-◌}
use Rattle.ioc_saved.specs.Words.{lacks, before, behind, onto_first, lines_of, no_lines, last_of, last_byte, ends_line}

pub both : (a b : Bool) → (a && b) ≡ true → (a ≡ true) × (b ≡ true)
both true b h = (refl, h)
both false b h = absurd cc

pub and_true : (a b : Bool) → a ≡ true → b ≡ true → (a && b) ≡ true
and_true true b h k = k
and_true false b h k = absurd cc

pub negated : (a : Bool) → not a ≡ true → a ≡ false
negated true h = absurd cc
negated false h = refl

pub lacks_append : (c : ℕ) (v w : List ℕ) → lacks c v ≡ true → lacks c w ≡ true → lacks c (v ++ w) ≡ true
lacks_append c [] w h k = k
lacks_append c (b ∷ bs) w h k =
    let p = both (not (eqb b c)) (lacks c bs) h in and_true (not (eqb b c)) (lacks c (bs ++ w)) p.0 (lacks_append c bs w p.1 k)

same_byte : (c : ℕ) → eqb c c ≡ true
same_byte c = eq-eqb c c refl

pub before_cut : (c : ℕ) (w rest : List ℕ) → lacks c w ≡ true → before c (w ++ c ∷ rest) ≡ w
before_cut c [] rest h = rw (same_byte c) refl
before_cut c (b ∷ bs) rest h =
    let p = both (not (eqb b c)) (lacks c bs) h in
    let other = negated (eqb b c) p.0 in rw other (ap (λ (l : List ℕ). b ∷ l) (before_cut c bs rest p.1))

pub behind_cut : (c : ℕ) (w rest : List ℕ) → lacks c w ≡ true → behind c (w ++ c ∷ rest) ≡ rest
behind_cut c [] rest h = rw (same_byte c) refl
behind_cut c (b ∷ bs) rest h =
    let p = both (not (eqb b c)) (lacks c bs) h in
    let other = negated (eqb b c) p.0 in rw other (behind_cut c bs rest p.1)

pub lines_cut : (w rest : List ℕ) → lacks 10 w ≡ true → lines_of (w ++ 10 ∷ rest) ≡ w ∷ lines_of rest
lines_cut [] rest h = refl
lines_cut (b ∷ bs) rest h =
    let p = both (not (eqb b 10)) (lacks 10 bs) h in
    let other = negated (eqb b 10) p.0 in rw other (ap (onto_first b) (lines_cut bs rest p.1))

-- The first line of bytes, and the lines behind it.
pub lines_split : (b : ℕ) (bs : List ℕ) → lines_of (b ∷ bs) ≡ before 10 (b ∷ bs) ∷ lines_of (behind 10 (b ∷ bs))
lines_split b [] =
    elim (cases_Bool (eqb b 10)) [
      | inl is ↦ rw is refl
      | inr other ↦ rw other refl
    ]
lines_split b (c ∷ bs) =
    elim (cases_Bool (eqb b 10)) [
      | inl is ↦ rw is refl
      | inr other ↦ rw other (ap (onto_first b) (lines_split c bs))
    ]

pub has_lines : (b : ℕ) (bs : List ℕ) → no_lines (lines_of (b ∷ bs)) ≡ false
has_lines b bs = ap no_lines (lines_split b bs)

pub lines_at : (text : List ℕ) → (length text ≡ 0 → ⊥) → lines_of text ≡ before 10 text ∷ lines_of (behind 10 text)
lines_at [] h = absurd (h refl)
lines_at (b ∷ bs) h = lines_split b bs

pub lines_none : (text : List ℕ) → length text ≡ 0 → no_lines (lines_of text) ≡ true
lines_none [] h = refl
lines_none (b ∷ bs) h = absurd (omega arith)

pub lines_some : (text : List ℕ) → (length text ≡ 0 → ⊥) → no_lines (lines_of text) ≡ false
lines_some [] h = absurd (h refl)
lines_some (b ∷ bs) h = has_lines b bs

pub behind_shorter : (c : ℕ) (text : List ℕ) → (length text ≡ 0 → ⊥) → length (behind c text) < length text
behind_shorter c [] h = absurd (h refl)
behind_shorter c (b ∷ []) h =
    elim (cases_Bool (eqb b c)) [
      | inl is ↦ rw is (omega arith)
      | inr other ↦ rw other (omega arith)
    ]
behind_shorter c (b ∷ d ∷ bs) h =
    elim (cases_Bool (eqb b c)) [
      | inl is ↦ rw is (omega arith)
      | inr other ↦ let k = behind_shorter c (d ∷ bs) (λ e. absurd (omega (arith, e))) in rw other (omega (arith, k))
    ]

-- ---- One line after the other

nonempty : (bytes : List ℕ) → false ≡ eqb (length bytes) 0 → length bytes ≡ 0 → ⊥
nonempty [] h e = absurd cc
nonempty (b ∷ bs) h e = absurd (omega arith)

pub lines_here : (rest : List ℕ) → false ≡ eqb (length rest) 0 → lines_of rest ≡ before 10 rest ∷ lines_of (behind 10 rest)
lines_here rest h = lines_at rest (nonempty rest h)

pub none_left : (rest : List ℕ) → true ≡ eqb (length rest) 0 → no_lines (lines_of rest) ≡ true
none_left [] h = refl
none_left (b ∷ bs) h = let k = eqb-true (length (b ∷ bs)) 0 (sym h) in absurd (omega (arith, k))

pub some_left : (rest : List ℕ) → false ≡ eqb (length rest) 0 → no_lines (lines_of rest) ≡ false
some_left rest h = lines_some rest (nonempty rest h)

pub shorter : (rest after : List ℕ) → false ≡ eqb (length rest) 0 → after ≡ behind 10 rest → length after < length rest
shorter rest after h e = let k = behind_shorter 10 rest (nonempty rest h) in omega (arith, k, ap length e)

pub last_here : (rest line after last : List ℕ) → false ≡ eqb (length rest) 0 → line ≡ before 10 rest → after ≡ behind 10 rest → true ≡ eqb (length after) 0
    → last_of (lines_of rest) ≡ last → line ≡ last
last_here rest line after last h is next none so_far =
    let e : last_of (lines_of rest) ≡ before 10 rest = ap last_of (lines_here rest h) ∙ rw (← next) (rw (none_left after none) refl) in
    is ∙ sym e ∙ so_far

pub last_further : (rest after last : List ℕ) → false ≡ eqb (length rest) 0 → after ≡ behind 10 rest → false ≡ eqb (length after) 0 → last_of (lines_of rest) ≡ last
    → last_of (lines_of after) ≡ last
last_further rest after last h next some so_far =
    let e : last_of (lines_of rest) ≡ last_of (lines_of after) = ap last_of (lines_here rest h) ∙ rw (← next) (rw (some_left after some) refl) in
    sym e ∙ so_far

-- ---- The last byte

pub last_append : (b last : ℕ) (front bytes : List ℕ) → ((c : ℕ) → last_byte c bytes ≡ last) → last_byte b (front ++ bytes) ≡ last
last_append b last [] bytes e = e b
last_append b last (c ∷ front) bytes e = last_append c last front bytes e

last_other : (b : ℕ) (bytes : List ℕ) → eqb b 10 ≡ false → lacks 10 bytes ≡ true → eqb (last_byte b bytes) 10 ≡ false
last_other b [] h k = h
last_other b (c ∷ bs) h k = let p = both (not (eqb c 10)) (lacks 10 bs) k in last_other c bs (negated (eqb c 10) p.0) p.1

pub last_lacks : (bytes : List ℕ) → lacks 10 bytes ≡ true → ends_line bytes ≡ false
last_lacks bytes h = last_other 0 bytes refl h

pub last_got : (b : ℕ) (bs : List ℕ) → slice_get (b ∷ bs) (length bs) ≡ Some (last_byte b bs)
last_got b [] = refl
last_got b (c ∷ bs) = last_got c bs

pub last_is : (text : List ℕ) (b : ℕ) → (let read : Option ℕ = Some b in read ≡ slice_get text (length text - 1)) → eqb b 10 ≡ ends_line text
last_is [] b h = absurd cc
last_is (c ∷ cs) b h =
    let k : length (c ∷ cs) - 1 ≡ length cs = omega arith in
    let e : Some b ≡ Some (last_byte c cs) = h ∙ ap (slice_get (c ∷ cs)) k ∙ last_got c cs in
    let same : b ≡ last_byte c cs = cc in
    ap (λ (n : ℕ). eqb n 10) same

-- ---- A text that was cut

pub lacks_not : (c : ℕ) (w rest : List ℕ) → lacks c (w ++ c ∷ rest) ≡ false
lacks_not c [] rest = rw (same_byte c) refl
lacks_not c (b ∷ bs) rest = and_right (not (eqb b c)) (lacks c (bs ++ c ∷ rest)) (lacks_not c bs rest)

-- A text is cut in its first line or behind it.
pub cut_line : (line tail front rest : List ℕ) (next : ℕ) → lacks 10 line ≡ true → line ++ 10 ∷ tail ≡ front ++ next ∷ rest
    → (lacks 10 front ≡ true) ⊎ ((more : List ℕ) × ((front ≡ line ++ 10 ∷ more) × (tail ≡ more ++ next ∷ rest)))
cut_line line tail [] rest next h is = inl refl
cut_line [] tail (c ∷ front) rest next h is = inr (front, (cc, cc))
cut_line (b ∷ line) tail (c ∷ front) rest next h is =
    let p = both (not (eqb b 10)) (lacks 10 line) h in
    let first : b ≡ c = cc in
    let others : line ++ 10 ∷ tail ≡ front ++ next ∷ rest = cc in
    elim (cut_line line tail front rest next p.1 others) [
      | inl within ↦ inl (and_true (not (eqb c 10)) (lacks 10 front) (rw (← first) p.0) within)
      | inr beyond ↦ let e : front ≡ line ++ 10 ∷ beyond.0 = beyond.1.0 in inr (beyond.0, (cc, beyond.1.1))
    ]
