-- The last digits of a number, so many of them.
use Rattle.std.proofs.Common.{◌≡◌, ◌≢◌, ℕ, suc, zero, ◌+◌, ◌-◌, ◌/◌, ◌%◌, ◌<◌, ◌≤◌, List, [], ◌∷◌, ◌++◌, length, replicate, refl, sym, ap, ◌∙◌, arith, length-append, append_assoc, append-nil, add-one, lit≤}
use Rattle.std.proofs.lemmas.List.{length-replicate}
use Rattle.std.proofs.lemmas.Bool.{ne_eqb}
use Rattle.ioc_double.specs.Pieces.{last_digits, fraction_text, padded}

pub digits_length : (count n : ℕ) → length (last_digits count n) ≡ count
unfolding last_digits
digits_length zero n = refl
digits_length (suc count) n = length-append (last_digits count (n / 10)) ((48 + n % 10) ∷ []) ∙ ap (λ (k : ℕ). k + 1) (digits_length count (n / 10)) ∙ add-one count

pub digits_none : (xs : List ℕ) (count n : ℕ) → count ≡ 0 → xs ≡ xs ++ last_digits count n
unfolding last_digits
digits_none xs zero n h = sym (append-nil xs)
digits_none xs (suc count) n h = absurd (omega arith)

pub digits_next : (xs ys zs : List ℕ) (count n : ℕ) → count ≢ 0 → ys ≡ xs ++ last_digits (count - 1) (n / 10) → zs ≡ ys ++ (48 + n % 10) ∷ [] → zs ≡ xs ++ last_digits count n
unfolding last_digits
digits_next xs ys zs zero n h e q = absurd (omega arith)
digits_next xs ys zs (suc count) n h e q =
    let one : suc count - 1 ≡ count = omega arith in
    q ∙ ap (λ (l : List ℕ). l ++ (48 + n % 10) ∷ []) (rw one at e) ∙ append_assoc xs (last_digits count (n / 10)) ((48 + n % 10) ∷ [])

-- Room for one digit more.
pub digits_room : (xs ys : List ℕ) (count n : ℕ) → count ≢ 0 → ys ≡ xs ++ last_digits (count - 1) (n / 10) → length xs + count ≤ 23 → length ys < 23
digits_room xs ys count n h e fits = rw (e, length-append xs (last_digits (count - 1) (n / 10)), digits_length (count - 1) (n / 10)) (omega arith)

-- A text with spaces in front.
pub padding : (xs ys zs ws : List ℕ) (k width : ℕ) → ys ≡ replicate k 32 → k ≡ width - length xs → zs ≡ xs → ws ≡ ys ++ zs → ws ≡ padded width xs
padding xs ys zs ws k width e q r s = s ∙ rw (e, q, r) refl

pub padding_room : (xs ys zs : List ℕ) (k width : ℕ) → ys ≡ replicate k 32 → k ≡ width - length xs → zs ≡ xs → width ≤ 23 → length zs ≤ 23 → length ys + length zs ≤ 23
padding_room xs ys zs k width e q r h i = let j : length xs ≤ 23 = rw (sym r) i in rw (e, r, length-replicate {A = ℕ} k 32) (omega arith)

pub fraction_length : (d n : ℕ) → length (fraction_text d n) ≤ d + 1
fraction_length zero n = lit≤ tt
fraction_length (suc d) n =
    let some : suc d ≢ 0 = omega arith in
    let l = digits_length (suc d) n in
    rw (ne_eqb (suc d) 0 some) (omega arith)

-- Room for the digits behind the first one, and for the exponent.
pub first_room : (xs ys : List ℕ) (n d : ℕ) → ys ≡ xs ++ last_digits 1 n → length xs ≤ 1 → d ≤ 15 → length ys + d + 1 ≤ 23
first_room xs ys n d e h few = rw (e, length-append xs (last_digits 1 n), digits_length 1 n) (omega arith)

pub fraction_room : (xs ys zs : List ℕ) (n d m : ℕ) → ys ≡ xs ++ last_digits 1 n → zs ≡ ys ++ fraction_text d m → length xs ≤ 1 → d ≤ 15 → length zs ≤ 18
fraction_room xs ys zs n d m e q h few =
    let l = fraction_length d m in
    rw (q, e, length-append (xs ++ last_digits 1 n) (fraction_text d m), length-append xs (last_digits 1 n), digits_length 1 n) (omega arith)

pub padding_length : (xs ys zs : List ℕ) → zs ≡ xs ++ ys → length xs + length ys ≤ 23 → length zs ≤ 23
padding_length xs ys zs e h = rw (e, length-append xs ys) h

pub fraction_short : (xs ys zs : List ℕ) (d n : ℕ) → ys ≡ xs ++ 46 ∷ [] → zs ≡ ys ++ last_digits d n → length zs ≤ length xs + d + 1
fraction_short xs ys zs d n e q = rw (q, e, length-append (xs ++ 46 ∷ []) (last_digits d n), digits_length d n) (rw (length-append xs (46 ∷ [])) (omega arith))
