-- The number of live puts with notification as records join and leave them.
use Rattle.std.proofs.lemmas.List.{length_push}
use Rattle.std.proofs.Common.{◌≡◌, ℕ, suc, ◌+◌, ◌≤◌, Bool, true, false, List, [], ◌∷◌, ◌++◌, length, ◌==◌, ◌&&◌, ◌||◌, not, refl, ap, subst, arith}
use Rattle.std.specs.Prelude.{nat_lt, if◌then◌else◌, ◌-◌}
use Rattle.std.specs.List.{list_any}
use Rattle.ioc_notify.specs.declared.live_numbers.Live.{Live}
use Rattle.ioc_notify.specs.Living.{gained, lost, forgotten, one_more, one_less, is_at_its_last, holders_of}

pub length-gained : (number : ℕ) (ls : List Live) → length (gained number ls) ≡ length ls
length-gained number [] = refl
length-gained number (l ∷ ls) =
    elim (l.number == number) as (λ b. length (if b then one_more l ++ ls else l ∷ gained number ls) ≡ suc (length ls)) [
      | true ↦ refl
      | false ↦ ap suc (length-gained number ls)
    ]

-- A put with notification that ends is one live one less.
pub length-lost : (number : ℕ) (ls : List Live) → length (lost number ls) + (if is_at_its_last number ls then 1 else 0) ≡ length ls
length-lost number [] = refl
length-lost number (l ∷ ls) =
    elim (l.number == number) as (λ b. length (if b then one_less l ++ ls else l ∷ lost number ls)
    + (if (b || list_any (λ x. x.number == number) ls) && not (nat_lt 1 (if b then l.holders else holders_of number ls)) then 1 else 0) ≡ suc (length ls)) [
      | true ↦ elim (nat_lt 1 l.holders) as (λ b. length ((if b then (record l { holders = l.holders - 1 }) ∷ [] else []) ++ ls) + (if true && not b then 1 else 0) ≡ suc (length ls)) [
        | true ↦ omega arith
        | false ↦ omega arith
      ]
      | false ↦ omega (arith, length-lost number ls)
    ]

-- The live puts with notification and those that have ended in the event are no more than before.
pub few-ended : (number : ℕ) (ls after : List Live) (es ended : List ℕ) → after ≡ lost number ls → is_at_its_last number ls ≡ true → ended ≡ es ++ number ∷ []
    → length ls + length es ≤ 256 → length after + length ended ≤ 256
few-ended number ls after es ended is last pushed few =
    let one : length (lost number ls) + 1 ≡ length ls = subst (λ (b : Bool). length (lost number ls) + (if b then 1 else 0) ≡ length ls) last (length-lost number ls) in
    omega (arith, one, few, ap length is, ap length pushed, length_push es number)

pub few-left : (number : ℕ) (ls after : List Live) (es : List ℕ) → after ≡ lost number ls → length ls + length es ≤ 256 → length after + length es ≤ 256
few-left number ls after es is few = omega (arith, length-lost number ls, few, ap length is)

pub length-forgotten : (number : ℕ) (ls : List Live) → length (forgotten number ls) ≤ length ls
length-forgotten number [] = omega arith
length-forgotten number (l ∷ ls) =
    let rest = length-forgotten number ls in
    elim (l.number == number) as (λ b. length (if b then [] ++ ls else l ∷ forgotten number ls) ≤ suc (length ls)) [
      | true ↦ omega arith
      | false ↦ omega (arith, rest)
    ]
