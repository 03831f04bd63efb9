-- The numbers under which puts with notification have begun.
use Rattle.std.proofs.Common.{◌≡◌, ◌<◌, ℕ, zero, suc, Bool, true, false, cond, nat_eq, List, [], ◌∷◌, ◌++◌, Option, Some, None, refl, sym, subst, ◌∙◌, inl, inr, arith, append-nil}
use Rattle.std.specs.Prelude.{◌⊎◌, Contains}
use Rattle.std.specs.Bool.{Decides}
use Rattle.std.specs.List.{cons_option}
use Rattle.std.specs.Option.{IfSome}
use Rattle.std.proofs.lemmas.Bool.Decides.{nat_tests}
use Rattle.std.proofs.lemmas.List.Elements.{Contains-append_left, Contains-append_right, Contains-append_cases}
use Rattle.ioc_journal_audit.specs.declared.counts.NumbersBegun.{NumbersBegun}
use Rattle.ioc_journal_audit.specs.Numbers.{has_begun, AreBegun}

same_number : (m n : ℕ) → nat_eq m n ≡ true → m ≡ n
same_number m n e = grind (arith, nat_tests)

other_number : (m n : ℕ) → nat_eq m n ≡ false → m ≡ n → ⊥
other_number m n e same = grind (arith, nat_tests)

at_first : (n : ℕ) → Contains (n ∷ []) n
at_first n = (0, omega arith, refl)

the_only : (n m : ℕ) → Contains (n ∷ []) m → n ≡ m
the_only n m (zero, within, is) = is
the_only n m (suc i, within, is) = absurd (omega (arith, within))

kept : (n m : ℕ) (numbers : List ℕ) → nat_eq n m ≡ false → Contains numbers m ⊎ Contains (n ∷ []) m → Contains numbers m
kept n m numbers other (inl has) = has
kept n m numbers other (inr has) = absurd (other_number n m other (the_only n m has))

one_more : (n m : ℕ) (numbers : List ℕ) (was now same : Bool) → nat_eq n m ≡ same → now ≡ cond same true was → Decides was (Contains numbers m) → Decides now (Contains (numbers ++ n ∷ []) m)
one_more n m numbers was now true same is decides =
    ((λ _. Contains-append_right numbers (n ∷ []) m (subst (λ (k : ℕ). Contains (n ∷ []) k) (same_number n m same) (at_first n))), (λ _. is))
one_more n m numbers was now false other is decides =
    ((λ yes. Contains-append_left numbers (n ∷ []) m (decides.0 (sym is ∙ yes))), (λ has. is ∙ decides.1 (kept n m numbers other (Contains-append_cases numbers (n ∷ []) m has))))

-- After a number is added, it is one of those that have begun, behind those before.
pub begun-more : (before after : NumbersBegun) (n : ℕ) → ((m : ℕ) → has_begun after m ≡ cond (nat_eq n m) true (has_begun before m))
    → (numbers : List ℕ) → AreBegun before numbers → AreBegun after (numbers ++ n ∷ [])
begun-more before after n updates numbers are m = one_more n m numbers (has_begun before m) (has_begun after m) (nat_eq n m) refl (updates m) (are m)

-- None is added.
pub begun-same : (o : Option ℕ) (before : NumbersBegun) → o ≡ None → (numbers : List ℕ) → AreBegun before numbers → AreBegun before (numbers ++ cons_option o [])
begun-same None before none numbers are = subst (λ (l : List ℕ). AreBegun before l) (sym (append-nil numbers)) are
begun-same (Some n) before none numbers are = cc

-- Nothing has begun.
pub none-begun : (begun : NumbersBegun) → ((m : ℕ) → has_begun begun m ≡ false) → AreBegun begun []
none-begun begun none m = ((λ yes. absurd (let h : true ≡ false = sym yes ∙ none m in cc)), (λ has. absurd (let within : has.0 < 0 = has.1 in omega (arith, within))))

-- A number is new exactly if it is none of those that have begun.
pub is-new : (o : Option ℕ) (begun : NumbersBegun) (numbers : List ℕ) → AreBegun begun numbers → IfSome o (λ n. has_begun begun n ≡ false) → IfSome o (λ n. Contains numbers n → ⊥)
is-new None begun numbers are new = tt
is-new (Some n) begun numbers are new = λ has. let h : true ≡ false = sym ((are n).1 has) ∙ new in cc

none_unless : {P : Type 0} (b : Bool) → Decides b P → (P → ⊥) → b ≡ false
none_unless true decides never = absurd (never (decides.0 refl))
none_unless false decides never = refl

pub new-is : (o : Option ℕ) (begun : NumbersBegun) (numbers : List ℕ) → AreBegun begun numbers → IfSome o (λ n. Contains numbers n → ⊥) → IfSome o (λ n. has_begun begun n ≡ false)
new-is None begun numbers are new = tt
new-is (Some n) begun numbers are new = none_unless (has_begun begun n) (are n) new
