-- The ends of a trimmed text.
use Rattle.std.proofs.Common.{◌≡◌, ℕ, ◌≤◌, Bool, true, false, not, List, [], ◌∷◌, length, reverse, refl, sym, ap, ◌∙◌, inl, inr, arith}
use mathlib.Core.List.{reverse_aux}
use Rattle.std.proofs.lemmas.Bool.{cases_Bool, not-true}
use Rattle.std.proofs.lemmas.List.{reverse-reverse, length-reverse}
use Rattle.ioc_values.specs.Trim.{skip_front, trimmed}

abbrev pub last_of : ℕ → List ℕ → ℕ
last_of x [] = x
last_of x (y ∷ ys) = last_of y ys

abbrev pub begins_solid : (ℕ → Bool) → List ℕ → Bool
begins_solid blank [] = true
begins_solid blank (b ∷ bs) = not (blank b)

pub skipped_solid : (blank : ℕ → Bool) (bs : List ℕ) → begins_solid blank (skip_front blank bs) ≡ true
skipped_solid blank [] = refl
skipped_solid blank (b ∷ bs) =
    elim (cases_Bool (blank b)) [
      | inl is ↦ rw is (skipped_solid blank bs)
      | inr other ↦ rw other (rw other refl)
    ]

pub skipped_short : (blank : ℕ → Bool) (bs : List ℕ) → length (skip_front blank bs) ≤ length bs
skipped_short blank [] = omega arith
skipped_short blank (b ∷ bs) =
    elim (cases_Bool (blank b)) [
      | inl is ↦ rw is (omega (arith, skipped_short blank bs))
      | inr other ↦ rw other (omega arith)
    ]

pub trimmed_short : (blank : ℕ → Bool) (bs : List ℕ) → length (trimmed blank bs) ≤ length bs
trimmed_short blank bs =
    let s = skip_front blank bs in
    omega (arith, length-reverse (skip_front blank (reverse s)), skipped_short blank (reverse s), length-reverse s, skipped_short blank bs)

-- A reversed text begins with the last byte.
backwards : (x : ℕ) (xs zs : List ℕ) → (r : List ℕ) × (reverse_aux (x ∷ xs) zs ≡ last_of x xs ∷ r)
backwards x [] zs = (zs, refl)
backwards x (y ∷ ys) zs = backwards y ys (x ∷ zs)

-- A reversed text ends with the first byte.
last_back : (x y : ℕ) (ts ys : List ℕ) → last_of x (reverse_aux ts (y ∷ ys)) ≡ last_of y ys
last_back x y [] ys = refl
last_back x y (u ∷ us) ys = last_back x u us (y ∷ ys)

-- Skipping bytes at the front keeps the last byte.
pub skip_last : (blank : ℕ → Bool) (x : ℕ) (cs : List ℕ) (e : ℕ) (es : List ℕ) → skip_front blank cs ≡ e ∷ es → last_of x cs ≡ last_of e es
skip_last blank x [] e es h = absurd cc
skip_last blank x (c ∷ cs) e es h =
    elim (cases_Bool (blank c)) [
      | inl is ↦ skip_last blank c cs e es (rw is at h)
      | inr other ↦ let k : c ∷ cs ≡ e ∷ es = rw other at h in ap (last_of x) k
    ]

first_of_reversed : (blank : ℕ → Bool) (t : ℕ) (ts s : List ℕ) (l : ℕ) (r : List ℕ) → begins_solid blank s ≡ true → skip_front blank (reverse s) ≡ l ∷ r → reverse (t ∷ ts) ≡ l ∷ r → blank t ≡ false
first_of_reversed blank t ts [] l r o h e = absurd cc
first_of_reversed blank t ts (x ∷ xs) l r o h e =
    let same : x ≡ t = sym (last_back 0 x xs []) ∙ skip_last blank 0 (reverse (x ∷ xs)) l r h ∙ sym (ap (last_of 0) e) ∙ last_back 0 t ts [] in
    sym (ap blank same) ∙ not-true _ o

-- Neither end of a trimmed text is a blank.
pub trimmed_solid : (blank : ℕ → Bool) (text : List ℕ) (t : ℕ) (ts : List ℕ) → trimmed blank text ≡ t ∷ ts → (blank t ≡ false) × (blank (last_of t ts) ≡ false)
trimmed_solid blank text t ts h =
    let s = skip_front blank text in
    let b = backwards t ts [] in
    let k : skip_front blank (reverse s) ≡ last_of t ts ∷ b.0 = sym (reverse-reverse (skip_front blank (reverse s))) ∙ ap reverse h ∙ b.1 in
    let o : begins_solid blank (last_of t ts ∷ b.0) ≡ true = sym (ap (begins_solid blank) k) ∙ skipped_solid blank (reverse s) in
    (first_of_reversed blank t ts s (last_of t ts) b.0 (skipped_solid blank text) k b.1, not-true _ o)

kept_front : (blank : ℕ → Bool) (x : ℕ) (xs : List ℕ) → blank x ≡ false → skip_front blank (x ∷ xs) ≡ x ∷ xs
kept_front blank x xs h = rw h refl

-- Trimming keeps a text without blanks at its ends.
pub solid_kept : (blank : ℕ → Bool) (t : ℕ) (ts : List ℕ) → blank t ≡ false → blank (last_of t ts) ≡ false → trimmed blank (t ∷ ts) ≡ t ∷ ts
solid_kept blank t ts f l =
    let b = backwards t ts [] in
    let solid : skip_front blank (reverse (t ∷ ts)) ≡ reverse (t ∷ ts) = ap (skip_front blank) b.1 ∙ kept_front blank (last_of t ts) b.0 l ∙ sym b.1 in
    ap (λ (x : List ℕ). reverse (skip_front blank (reverse x))) (kept_front blank t ts f) ∙ ap reverse solid ∙ reverse-reverse (t ∷ ts)
