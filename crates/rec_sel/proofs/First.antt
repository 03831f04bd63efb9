-- The least number that passes a test, among those below 12.
use Rattle.std.proofs.Common.{◌≡◌, ℕ, suc, ◌+◌, ◌-◌, ◌<◌, ◌≤◌, Bool, true, false, cond, Some, None, ap, ◌∙◌, arith}
use Rattle.rec_sel.specs.Choosing.{first_from}

-- The next number passes the test.
pub first_found : (test : ℕ → Bool) (m : ℕ) → m < 12 → test m ≡ true → first_from test m (12 - m) ≡ Some m
first_found test m less is =
    let more : 12 - m ≡ suc (12 - (m + 1)) = omega arith in
    ap (first_from test m) more ∙ ap (λ b. cond b (Some m) (first_from test (m + 1) (12 - (m + 1)))) is

-- The next number doesn't.
pub first_passed : (test : ℕ → Bool) (m : ℕ) → m < 12 → test m ≡ false → first_from test m (12 - m) ≡ first_from test (m + 1) (12 - (m + 1))
first_passed test m less is =
    let more : 12 - m ≡ suc (12 - (m + 1)) = omega arith in
    ap (first_from test m) more ∙ ap (λ b. cond b (Some m) (first_from test (m + 1) (12 - (m + 1)))) is

-- All numbers were tested.
pub first_none : (test : ℕ → Bool) (m : ℕ) → 12 ≤ m → first_from test m (12 - m) ≡ None
first_none test m all =
    let none : 12 - m ≡ 0 = omega arith in
    ap (first_from test m) none
