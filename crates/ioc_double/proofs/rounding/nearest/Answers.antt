use Rattle.std.proofs.Common.{◌≡◌, ℕ, ◌+◌, ◌*◌, ◌/◌, ◌%◌, ◌^◌, ◌<◌, ◌≤◌, false, arith, sym, ◌∙◌, lit<, Fits, suc, zero, rules}
use mir.Syntax.{w128}
use lib.Dec.{ltb}
use Rattle.std.proofs.lemmas.Bool.{ltb-false}
use Rattle.std.proofs.Math.Nat.{pow-le-pow_right, one-le-pow, pow-succ', mul-le-mul_left, div-mul-le_self, lt_of_le_of_lt, mod-add-div'}
use Rattle.ioc_double.proofs.Closest.{nearest_down, nearest_up, nearest_up_more, nearest_tie}
use Rattle.ioc_double.proofs.rounding.nearest.Goals as goal
use Rattle.ioc_double.proofs.rounding.nearest.Goals.{then-rest-half-2, else-rest-half-2}

positive : (p t : ℕ) → t ≡ 10 ^ p → 0 < t
positive p t e = rw e (one-le-pow p 10 (lit< tt))

split : (h t : ℕ) → h ≡ h / t * t + h % t
split h t = let e = mod-add-div' h t in omega arith

pub pow-tens-requires : goal.pow-tens-requires
pow-tens-requires c = lt_of_le_of_lt (pow-le-pow_right (lit< tt) c.requires.small) (lit< tt)

pub nonzero_div-whole : goal.nonzero_div-whole
nonzero_div-whole c = positive c.args.places c.pow-tens.result c.pow-tens.ensures

pub nonzero_rem-rest : goal.nonzero_rem-rest
nonzero_rem-rest c = positive c.args.places c.pow-tens.result c.pow-tens.ensures

tenth : (h t p : ℕ) → t ≡ 10 ^ p → 0 < p → h < 2 ^ 128 → h / t + 1 < 2 ^ 128
tenth h t zero e k f = absurd (omega arith)
tenth h t (suc p) e k f =
    let i = one-le-pow p 10 (lit< tt) in
    let t10 : 10 ≤ t = rw (e, pow-succ' 10 p) (omega arith) in
    let d : h / t * t ≤ h = div-mul-le_self h t in
    let m : h / t * 10 ≤ h / t * t = mul-le-mul_left (h / t) t10 in
    omega arith

pub overflow_add-result : goal.overflow_add-result
overflow_add-result c =
    let f : Fits w128 c.args.number.head = search rules in
    record { fits = tenth c.args.number.head c.pow-tens.result c.args.places c.pow-tens.ensures c.requires.positive f.fits }

pub overflow_add-result-else-number : goal.overflow_add-result-else-number
overflow_add-result-else-number c =
    let f : Fits w128 c.args.number.head = search rules in
    let t = tenth c.args.number.head c.pow-tens.result c.args.places c.pow-tens.ensures c.requires.positive f.fits in
    record { fits = omega arith }

rest_small : (h p : ℕ) → h % 10 ^ p < 10 ^ p
rest_small h p = let z = one-le-pow p 10 (lit< tt) in omega arith

pub returns-then-rest-half : goal.returns-then-rest-half
returns-then-rest-half c = λ n leads.
    rw c.pow-tens.ensures
    (nearest_down c.args.number n c.args.places _ _ leads c.requires.positive (split c.args.number.head (10 ^ c.args.places)) (rest_small c.args.number.head c.args.places)
    (rw c.pow-tens.ensures at c.if-rest-half.true))

pub returns-then-number : goal.returns-then-number
returns-then-number c = λ n leads.
    let l = c.args.number in
    let p = c.args.places in
    let is = split l.head (10 ^ p) in
    let small = rest_small l.head p in
    rw c.pow-tens.ensures
    (elim c.if-rest-half-2.branch [
      | then-rest-half-2 w ↦ nearest_up l n p _ _ leads c.requires.positive is small (rw c.pow-tens.ensures at w.if-rest-half-2.true)
      | else-rest-half-2 w ↦
          nearest_up_more l n p _ _ leads c.requires.positive is small (rw c.pow-tens.ensures at c.if-rest-half.false) (sym w.value-is ∙ c.if-number.true)
    ])

one_number : (a b : ℕ) → a ≤ b → b ≤ a → a ≡ b
one_number a b h k = omega arith

never : (a b : ℕ) → a < b → ltb a b ≡ false → ⊥
never a b h k = let z = ltb-false a b k in omega arith

pub returns-else-number : goal.returns-else-number
returns-else-number c = λ n leads.
    let l = c.args.number in
    let p = c.args.places in
    let is = split l.head (10 ^ p) in
    let small = rest_small l.head p in
    rw c.pow-tens.ensures
    (elim c.if-rest-half-2.branch [
      | then-rest-half-2 w ↦ absurd (never _ _ w.if-rest-half-2.true (sym w.value-is ∙ c.if-number.false))
      | else-rest-half-2 w ↦
          nearest_tie l n p _ _ leads c.requires.positive is small
          (one_number _ _ (rw c.pow-tens.ensures at c.if-rest-half.false) (rw c.pow-tens.ensures at w.if-rest-half-2.false)) (sym w.value-is ∙ c.if-number.false)
    ])
