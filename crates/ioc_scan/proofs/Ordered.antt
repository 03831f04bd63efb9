-- The order of positions: those that compare equal are the same, and those of one list are between
-- its bounds.
use Rattle.std.proofs.Common.{◌≡◌, ℕ, ◌<◌, ◌≤◌, ℤ, pos, negsuc, ◌<ℤ◌, ◌≤ℤ◌, ◌⊎◌, inl, inr, true, false, not, ◌&&◌, refl, sym, ap, ◌∙◌, subst, arith}
use Rattle.std.proofs.lemmas.Int.{ints}
use Rattle.std.specs.declared.cmp.Ordering.{Ordering}
use Rattle.std.specs.declared.cmp.Ordering.TheVariants.{Less, Equal, Greater}
use Rattle.std.specs.Ordering.{nat_cmp, int_cmp, ordering_then, eq_by_cmp, is_eq, is_lt, is_le, is_gt, MatchOrdering}
use Rattle.std.specs.Cmp.{IsTotalOrder}
use Rattle.ioc_scan.specs.Standing.{low, high, within}
use Rattle.std.proofs.lemmas.Cmp.{ranked, int_ranked, tied_itself}
use Rattle.std.proofs.lemmas.Map.Lookups.{CmpEqualImpliesEq, exact_bytes, exact_signed, exact_unsigned}
use Rattle.ioc_scan.specs.declared.list_name.ListName.{ListName}
use Rattle.ioc_scan.specs.declared.list_name.ListName.TheVariants.{Period, Event, Interrupt, Start}
use Rattle.ioc_scan.specs.declared.period.Period.{Period as Every}
use Rattle.ioc_scan.specs.declared.position.Position.{Position}
use Rattle.ioc_scan.specs.contracts.period.PeriodOrd.TheImpl as period
use Rattle.ioc_scan.specs.contracts.list_name.ListNameOrd.TheImpl as list_name
use Rattle.ioc_scan.specs.contracts.position.PositionOrd.TheImpl as order_of
use Rattle.ioc_scan.specs.contracts.list_name.ListNameOrd.TheImpl.Laws as list_laws
use Rattle.ioc_scan.specs.contracts.position.PositionOrd.TheImpl.Laws as position_laws

abbrev list_cmp : ListName → ListName → Ordering
list_cmp = list_name.ghosts.cmp

abbrev every : ℕ → Every
every ticks = record { ticks = ticks }

exact_period : CmpEqualImpliesEq period.ghosts.cmp
exact_period a b e = ap every (exact_unsigned a.ticks b.ticks e)

exact_list : CmpEqualImpliesEq list_cmp
exact_list (Period a) (Period b) e = ap Period (exact_period a b e)
exact_list (Event a) (Event b) e = ap Event (exact_bytes a b e)
exact_list (Interrupt a) (Interrupt b) e = ap Interrupt (exact_bytes a b e)
exact_list Start Start e = refl
exact_list a b e = cc

list_itself : (l : ListName) → list_cmp l l ≡ Equal
list_itself l = tied_itself list_laws.total-law l

by_parts : (a b : Position) → order_of.ghosts.cmp a b ≡ ordering_then (list_cmp a.list b.list) (ordering_then (int_cmp a.phase b.phase) (nat_cmp a.order b.order))
by_parts a b = refl

both_equal : (o p : Ordering) → ordering_then o p ≡ Equal → (o ≡ Equal) × (p ≡ Equal)
both_equal Less p e = cc
both_equal Equal p e = (refl, e)
both_equal Greater p e = cc

same : (l m : ListName) (p q : ℤ) (o n : ℕ) → l ≡ m → p ≡ q → o ≡ n → ◌≡◌ {A = Position} (record { list = l; phase = p; order = o }) (record { list = m; phase = q; order = n })
same l m p q o n e f g = cc

pub exact : CmpEqualImpliesEq order_of.ghosts.cmp
exact a b e =
    let lists = both_equal (list_cmp a.list b.list) (ordering_then (int_cmp a.phase b.phase) (nat_cmp a.order b.order)) (sym (by_parts a b) ∙ e) in
    let rest = both_equal (int_cmp a.phase b.phase) (nat_cmp a.order b.order) lists.1 in
    same a.list b.list a.phase b.phase a.order b.order (exact_list a.list b.list lists.0) (exact_signed a.phase b.phase rest.0) (exact_unsigned a.order b.order rest.1)

pub itself : (a : Position) → eq_by_cmp order_of.ghosts.cmp a a ≡ true
itself a = ap is_eq (tied_itself position_laws.total-law a)

sides : (o p q : Ordering) → (is_le (ordering_then o p) && not (is_lt (ordering_then o q))) ≡ true → o ≡ Equal
sides Less p q e = cc
sides Equal p q e = refl
sides Greater p q e = cc

pub list_within : (list : ListName) (k : Position) → within list k ≡ true → k.list ≡ list
list_within list k e = sym (exact_list list k.list (sides (list_cmp list k.list) (ordering_then (int_cmp (negsuc 32767) k.phase) (nat_cmp 0 k.order)) (ordering_then (int_cmp (pos 32767) k.phase) (nat_cmp 18446744073709551615 k.order)) e))

from_low : (r s : Ordering) (m p : ℤ) (o : ℕ) → MatchOrdering r (m <ℤ p) (m ≡ p) (p <ℤ m) → MatchOrdering s (0 < o) (0 ≡ o) (o < 0) → m ≤ℤ p → is_le (ordering_then r s) ≡ true
from_low Less s m p o a b l = refl
from_low Equal Less m p o a b l = refl
from_low Equal Equal m p o a b l = refl
from_low Equal Greater m p o a b l = absurd (omega arith)
from_low Greater s m p o a b l = absurd (omega (arith, ints))

to_high : (r s : Ordering) (m p : ℤ) (n o : ℕ) → MatchOrdering r (m <ℤ p) (m ≡ p) (p <ℤ m) → MatchOrdering s (n < o) (n ≡ o) (o < n) → p ≤ℤ m → o ≤ n → is_lt (ordering_then r s) ≡ false
to_high Less s m p n o a b l k = absurd (omega (arith, ints))
to_high Equal Less m p n o a b l k = absurd (omega arith)
to_high Equal Equal m p n o a b l k = refl
to_high Equal Greater m p n o a b l k = refl
to_high Greater s m p n o a b l k = refl

lies : (a b c d : Ordering) → a ≡ Equal → is_le b ≡ true → is_lt c ≡ false → (is_le (ordering_then a b) && not (is_lt (ordering_then a c))) ≡ true
lies Less b c d e f g = cc
lies Equal b c d e f g = rw (f, g) refl
lies Greater b c d e f g = cc

pub within_list : (list : ListName) (k : Position) → k.list ≡ list → negsuc 32767 ≤ℤ k.phase → k.phase ≤ℤ pos 32767 → k.order ≤ 18446744073709551615 → within list k ≡ true
within_list list k e l h o =
    lies (list_cmp list k.list) (ordering_then (int_cmp (negsuc 32767) k.phase) (nat_cmp 0 k.order)) (ordering_then (int_cmp (pos 32767) k.phase) (nat_cmp 18446744073709551615 k.order)) Equal
    (subst (λ v. list_cmp list v ≡ Equal) (sym e) (list_itself list))
    (from_low _ _ (negsuc 32767) k.phase k.order (int_ranked (negsuc 32767) k.phase _ refl) (ranked 0 k.order _ refl) l)
    (to_high _ _ (pos 32767) k.phase 18446744073709551615 k.order (int_ranked (pos 32767) k.phase _ refl) (ranked 18446744073709551615 k.order _ refl) h o)

first_less : (o r s : Ordering) (p q : ℤ) (a b : ℕ) → MatchOrdering r (p <ℤ q) (p ≡ q) (q <ℤ p) → MatchOrdering s (a < b) (a ≡ b) (b < a) → o ≡ Equal → ordering_then o (ordering_then r s) ≡ Less → (p <ℤ q) ⊎ ((p ≡ q) × (a < b))
first_less Equal Less s p q a b u v e f = inl u
first_less Equal Equal Less p q a b u v e f = inr (u, v)
first_less Equal Equal Equal p q a b u v e f = cc
first_less Equal Equal Greater p q a b u v e f = cc
first_less Equal Greater s p q a b u v e f = cc
first_less Less r s p q a b u v e f = cc
first_less Greater r s p q a b u v e f = cc

-- Of two positions on one list, the lesser one comes first, by PHAS and then by the order of
-- adding.
pub precedes : (a b : Position) (list : ListName) → a.list ≡ list → b.list ≡ list → order_of.ghosts.cmp a b ≡ Less → (a.phase <ℤ b.phase) ⊎ ((a.phase ≡ b.phase) × (a.order < b.order))
precedes a b list e f less =
    first_less (list_cmp a.list b.list) (int_cmp a.phase b.phase) (nat_cmp a.order b.order) a.phase b.phase a.order b.order
    (int_ranked a.phase b.phase _ refl) (ranked a.order b.order _ refl)
    (subst (λ v. list_cmp v b.list ≡ Equal) (sym e) (subst (λ v. list_cmp list v ≡ Equal) (sym f) (list_itself list))) less

pub total : IsTotalOrder order_of.ghosts.cmp
total = position_laws.total-law

first_decides : (o : Ordering) (n : Ordering) → o ≡ Equal → is_gt (ordering_then o (ordering_then Less n)) ≡ false
first_decides Less n e = refl
first_decides Equal n e = refl
first_decides Greater n e = cc

-- The bounds of a list are in order.
pub forward : (list : ListName) (a b : Position) → a ≡ low list → b ≡ high list → is_gt (order_of.ghosts.cmp a b) ≡ false
forward list a b e f =
    let ends : is_gt (order_of.ghosts.cmp (low list) (high list)) ≡ false = first_decides (list_cmp list list) (nat_cmp 0 18446744073709551615) (list_itself list) in
    ap (λ (v : Position). is_gt (order_of.ghosts.cmp v b)) e ∙ ap (λ (v : Position). is_gt (order_of.ghosts.cmp (low list) v)) f ∙ ends
