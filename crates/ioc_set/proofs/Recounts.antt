-- The loops that recount the parts of each put with notification: the function on lists, after one
-- more item.
use Rattle.std.proofs.Common.{◌≡◌, ℕ, ◌+◌, ◌<◌, ◌≤◌, suc, Bool, true, false, cond, List, [], ◌∷◌, ◌++◌, length, drop, take, get_or, sym, ap, ◌∙◌, length-append, arith}
use Rattle.std.specs.List.{filter}
use Rattle.std.proofs.lemmas.List.{at_drop_more, length-take}
use Rattle.ioc_notify.specs.declared.live_numbers.Live.{Live}
use Rattle.ioc_notify.specs.declared.waiting_lists.Waiting.{Waiting}
use Rattle.ioc_notify.specs.Living.{is_live, begun, gained, lost}
use Rattle.ioc_set.specs.Recounting.{begun_each, gained_each, lost_each}

pub begun_more : (xs ls : List Live) → length ls ≤ length (begun_each xs ls)
begun_more [] ls = omega arith
begun_more (x ∷ xs) ls =
    elim (is_live x.number ls) as (λ b. length ls ≤ length (begun_each xs (cond b ls (begun x.number ls)))) [
      | true ↦ begun_more xs ls
      | false ↦ let more = length-append ls (record { number = x.number; holders = 1 } ∷ []) in omega (arith, more, begun_more xs (begun x.number ls))
    ]

pub begun-next : (xs : List Live) (i : ℕ) (x : Live) (ls : List Live) → i < length xs → x ≡ get_or xs i x → begun_each (drop i xs) ls ≡ begun_each (drop (i + 1) xs) (cond (is_live x.number ls) ls (begun x.number ls))
begun-next xs i x ls within is = at_drop_more (λ ys. begun_each ys ls) xs i x within ∙ ap (λ (y : Live). begun_each (y ∷ drop (i + 1) xs) ls) (sym is)

pub begun-room : (xs : List Live) (i : ℕ) (x : Live) (ls before : List Live) (ended : List ℕ) → i < length xs → x ≡ get_or xs i x → is_live x.number ls ≡ false
    → begun_each (drop i xs) ls ≡ begun_each xs before → length (begun_each xs before) ≤ 256 → ended ≡ [] → length ls + length ended < 256
begun-room xs i x ls before ended within is dead so_far fits none =
    let next = begun-next xs i x ls within is ∙ ap (λ (b : Bool). begun_each (drop (i + 1) xs) (cond b ls (begun x.number ls))) dead in
    let count : length (begun_each (drop (i + 1) xs) (begun x.number ls)) ≡ length (begun_each xs before) = ap (λ (l : List Live). length l) (sym next ∙ so_far) in
    let more = begun_more (drop (i + 1) xs) (begun x.number ls) in
    let one = length-append ls (record { number = x.number; holders = 1 } ∷ []) in
    let no_ended : length ended ≡ 0 = ap (λ (l : List ℕ). length l) none in
    omega (arith, count, more, one, no_ended, fits)

pub lost-next : (xs : List Live) (i : ℕ) (x : Live) (ls : List Live) → i < length xs → x ≡ get_or xs i x → lost_each (drop i xs) ls ≡ lost_each (drop (i + 1) xs) (lost x.number ls)
lost-next xs i x ls within is = at_drop_more (λ ys. lost_each ys ls) xs i x within ∙ ap (λ (y : Live). lost_each (y ∷ drop (i + 1) xs) ls) (sym is)

pub gained-next : (xs : List Waiting) (i : ℕ) (x : Waiting) (ls : List Live) → i < length xs → x ≡ get_or xs i x → gained_each (drop i xs) ls ≡ gained_each (drop (i + 1) xs) (gained x.number ls)
gained-next xs i x ls within is = at_drop_more (λ ys. gained_each ys ls) xs i x within ∙ ap (λ (y : Waiting). gained_each (y ∷ drop (i + 1) xs) ls) (sym is)

pub filter_few : {X : Type 0} (p : X → Bool) (xs : List X) → length (filter p xs) ≤ length xs
filter_few p [] = omega arith
filter_few p (x ∷ xs) = elim (p x) as (λ b. length (cond b (x ∷ filter p xs) (filter p xs)) ≤ suc (length xs)) [
  | true ↦ omega (arith, filter_few p xs)
  | false ↦ omega (arith, filter_few p xs)
]

pub queued-room : (p : Waiting → Bool) (xs waiting before : List Waiting) (i : ℕ) → i < length xs → waiting ≡ before ++ filter p (take i xs) → length before + length xs ≤ 256 → length waiting < 256
queued-room p xs waiting before i within is fits =
    let count : length waiting ≡ length (before ++ filter p (take i xs)) = ap (λ (l : List Waiting). length l) is in
    omega (arith, count, length-append before (filter p (take i xs)), filter_few p (take i xs), length-take i xs, fits)
