-- Parts of given lengths.
use Rattle.std.proofs.Common.{◌≡◌, ℕ, ◌+◌, ◌≤◌, List, [], ◌∷◌, ◌++◌, length, take, drop, sum, refl, ap, ◌∙◌, arith, length-drop}
use Rattle.std.proofs.Math.Seq.{take-length}
use Rattle.std.proofs.lemmas.List.{take-append-le, drop-append-le}
use Rattle.std.proofs.lemmas.List.Sums.{sum_by-append}
use Rattle.ioc_dblex.specs.Texts.{parts_of}

-- The sum of a list with a number appended is its sum plus that number.
pub sum_push : (ns : List ℕ) (n : ℕ) → sum (ns ++ n ∷ []) ≡ sum ns + n
sum_push ns n = sum_by-append (λ x. x) ns (n ∷ []) ∙ ap (λ k. sum ns + k) (omega arith)

pub sum_first : (n : ℕ) (ns : List ℕ) → sum (n ∷ ns) ≡ n + sum ns
sum_first n ns = sum_by-append (λ x. x) (n ∷ []) ns ∙ ap (λ k. k + sum ns) (omega arith)

-- Appending a text and its length appends a part.
pub parts_push : (ns bytes text : List ℕ) → sum ns ≡ length bytes → parts_of (ns ++ length text ∷ []) (bytes ++ text) ≡ parts_of ns bytes ++ text ∷ []
parts_push [] [] text h = rw take-length refl
parts_push [] (b ∷ bs) text h = absurd (omega arith)
parts_push (n ∷ ns) bytes text h =
    let total : sum (n ∷ ns) ≡ n + sum ns = sum_first n ns in
    let within : n ≤ length bytes = omega arith in
    let left : sum ns ≡ length (drop n bytes) = omega (arith, length-drop n bytes) in
    rw (take-append-le n bytes text within, drop-append-le n bytes text within) (ap (λ ts. take n bytes ∷ ts) (parts_push ns (drop n bytes) text left))
