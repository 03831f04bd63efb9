-- The counts of the calls of each desk.
use Rattle.std.proofs.Common.{◌≡◌, ℕ, ◌+◌, ◌-◌, ◌≤◌, suc, Bool, true, false, cond, Option, Some, ap, arith, nat_eq}
use Rattle.std.proofs.lemmas.Bool.Decides.{nat_tests}
use Rattle.ioc_journal_audit.specs.Numbers.{count_to}

same_desk : (m n : ℕ) → nat_eq m n ≡ true → m ≡ n
same_desk m n e = grind (arith, nat_tests)

-- After the next call of a desk it has one more, and each other desk as many as before.
pub one_more : (last : ℕ → Option ℕ) (desk other number : ℕ) (new : Option ℕ) (b : Bool) → nat_eq desk other ≡ b → number ≡ count_to (last desk)
    → new ≡ cond b (Some number) (last other) → count_to new ≡ (cond b 1 0) + count_to (last other)
one_more last desk other number new true same is e =
    let there : count_to (last desk) ≡ count_to (last other) = ap (λ d. count_to (last d)) (same_desk desk other same) in
    let now : count_to new ≡ suc number = ap count_to e in
    omega (arith, there, now, is)
one_more last desk other number new false same is e = let now : count_to new ≡ count_to (last other) = ap count_to e in omega (arith, now)

-- After its first calls a desk has made these, and each other desk as many as before.
pub first_ones : (last : ℕ → Option ℕ) (desk other calls : ℕ) (new : Option ℕ) (b : Bool) → nat_eq desk other ≡ b → 1 ≤ calls → count_to (last desk) ≡ 0
    → new ≡ cond b (Some (calls - 1)) (last other) → count_to new ≡ (cond b calls 0) + count_to (last other)
first_ones last desk other calls new true same some none e =
    let there : count_to (last desk) ≡ count_to (last other) = ap (λ d. count_to (last d)) (same_desk desk other same) in
    let now : count_to new ≡ suc (calls - 1) = ap count_to e in
    omega (arith, there, now, some, none)
first_ones last desk other calls new false same some none e = let now : count_to new ≡ count_to (last other) = ap count_to e in omega (arith, now)
