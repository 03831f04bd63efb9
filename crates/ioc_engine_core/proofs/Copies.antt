-- Items that are moved from the front of one list to the end of another.
use Rattle.std.proofs.Common.{◌≡◌, ℕ, ◌<◌, zero, suc, List, [], ◌∷◌, ◌++◌, ◌+◌, length, map, get_or, drop, refl, sym, ap, ◌∙◌, append_assoc, append-nil, length-append, below_more, arith}
use Rattle.std.specs.Prelude.{All}
use Rattle.std.proofs.Math.Seq.{get_or-append_seam}
use Rattle.std.proofs.lemmas.List.{map-append, get_or_append_left, get_or-drop, drop-drop}
use Rattle.std.proofs.lemmas.List.Elements.{All-append}

pub one_kept : {A B : Type 0} (f : A → B) (xs : List A) (y : A) (left after items : List B) → left ≡ f y ∷ after → map f xs ++ left ≡ items → map f (xs ++ y ∷ []) ++ after ≡ items
one_kept f xs y left after items e h =
    ap (λ l. l ++ after) (map-append f xs (y ∷ [])) ∙ append_assoc (map f xs) (f y ∷ []) after ∙ ap (λ l. map f xs ++ l) (sym e) ∙ h

alone : {A : Type 0} (P : A → Type 0) (y : A) → P y → All P (y ∷ [])
alone P y h zero d lt = h
alone P y h (suc k) d lt = absurd (let z : ⊥ = omega (arith, lt) in z)

pub all_kept : {A : Type 0} (P : A → Type 0) (xs : List A) (y : A) → All P xs → P y → All P (xs ++ y ∷ [])
all_kept P xs y h p = All-append P xs (y ∷ []) h (alone P y p)

pub one_fewer : {A : Type 0} (left after : List A) (x : A) → left ≡ x ∷ after → length left ≡ length after + 1
one_fewer left after x e = ap (λ l. length l) e ∙ omega arith

nothing_left : {A : Type 0} (left : List A) → length left ≡ 0 → left ≡ []
nothing_left [] e = refl
nothing_left (x ∷ xs) e = absurd (let z : ⊥ = omega (arith, e) in z)

pub all_taken : {A : Type 0} (kept left items : List A) → length left ≡ 0 → kept ++ left ≡ items → kept ≡ items
all_taken kept left items none h = sym (append-nil kept) ∙ ap (λ l. kept ++ l) (sym (nothing_left left none)) ∙ h

-- What is true of each place so far and of the next one is true of each place up to it.
pub each_at : {A B : Type 0} (f : A → B) (none : B) (xs : List A) (y : A) (bs : List B) → ((i : ℕ) (d : A) → i < length xs → f (get_or xs i d) ≡ get_or bs i none) → f y ≡ get_or bs (length xs) none
    → (i : ℕ) (d : A) → i < length (xs ++ y ∷ []) → f (get_or (xs ++ y ∷ []) i d) ≡ get_or bs i none
each_at f none xs y bs h e i d lt =
    let long = length-append xs (y ∷ []) in
    below_more (λ j. f (get_or (xs ++ y ∷ []) j d) ≡ get_or bs j none) (length xs)
    (λ j below. ap f (get_or_append_left xs (y ∷ []) d j below) ∙ h j d below)
    (ap f (get_or-append_seam xs y [] d) ∙ e) i (omega (arith, lt, long))

-- The first of the remaining items is the one at this place.
pub first_left : {A : Type 0} (n : ℕ) (left xs : List A) (d : A) → left ≡ drop n xs → get_or left 0 d ≡ get_or xs n d
first_left n left xs d e = ap (λ l. get_or l 0 d) e ∙ get_or-drop n xs 0 d ∙ ap (λ i. get_or xs i d) (omega arith)

-- The items that remain after the first is moved.
pub fewer_left : {A B : Type 0} (all : List A) (y : A) (left after xs : List B) → left ≡ drop (length all) xs → after ≡ drop 1 left → after ≡ drop (length (all ++ y ∷ [])) xs
fewer_left all y left after xs e h = h ∙ ap (λ l. drop 1 l) e ∙ drop-drop 1 (length all) xs ∙ ap (λ n. drop n xs) (let long = length-append all (y ∷ []) in omega (arith, long))
