use Rattle.std.proofs.Common.{◌≡◌, ℕ, ◌+◌, ◌^◌, ◌≤◌, ◌++◌, List, length, arith, lit<, length-append}
use Rattle.std.proofs.lemmas.Fmt.{length-decimal-le}
use Rattle.std.proofs.Math.Nat.{lt_of_le_of_lt}
use Rattle.std.specs.Fmt.{decimal}
use Rattle.ioc_double.proofs.fixed.push_fixed.Goals as goal

short : (n : ℕ) → n ≤ 10 ^ 7 + 1 → length (decimal n) ≤ 10
short n h = length-decimal-le 10 n (lit< tt) (lt_of_le_of_lt h (lit< tt)) (lt_of_le_of_lt h (lit< tt))

room : (xs ys : List ℕ) (n d : ℕ) → ys ≡ xs ++ decimal n → length xs ≤ 1 → n ≤ 10 ^ 7 + 1 → d ≤ 8 → length ys + d + 1 ≤ 23
room xs ys n d e h i few = let s = short n i in rw (e, length-append xs (decimal n)) (omega arith)

pub push_decimal-requires : goal.push_decimal-requires
push_decimal-requires c = let s = short c.carry-parts.result.whole c.carry-parts.ensures.whole in omega arith

pub push_fraction-requires : goal.push_fraction-requires
push_fraction-requires c = room _ _ c.carry-parts.result.whole c.args.digits c.push_decimal.ensures c.requires.room c.carry-parts.ensures.whole c.requires.digits

pub returns-clause-short : goal.returns-clause-short
returns-clause-short c =
    let r = room _ _ c.carry-parts.result.whole c.args.digits c.push_decimal.ensures c.requires.room c.carry-parts.ensures.whole c.requires.digits in
    let s = c.push_fraction.ensures.short in
    omega arith
