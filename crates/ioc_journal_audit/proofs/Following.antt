-- One more entry behind those that are numbered.
use Rattle.std.proofs.Common.{◌≡◌, ◌==◌, ℕ, ◌+◌, suc, cond, List, [], ◌∷◌, ◌++◌, length, Option, Some, None, refl, sym, ap, subst, ◌∙◌, arith, append_assoc}
use Rattle.std.proofs.lemmas.List.{append-nil}
use Rattle.std.specs.List.{cons_option}
use Rattle.ioc_journal_file.specs.declared.line.Line.{Line}
use Rattle.ioc_journal_audit.specs.Numbering.{Start, made_by, number_begun, numbers_begun, IsNumbered, AreNumbered}

pub made_by-append : (desk : ℕ) (xs ys : List Line) → made_by desk (xs ++ ys) ≡ made_by desk xs + made_by desk ys
made_by-append desk [] ys = omega arith
made_by-append desk (x ∷ xs) ys = let h = made_by-append desk xs ys in omega (arith, h)

pub made_by-one : (desk : ℕ) (xs : List Line) (x : Line) → made_by desk (xs ++ x ∷ []) ≡ cond (x.mark.desk == desk) 1 0 + made_by desk xs
made_by-one desk xs x = let h = made_by-append desk xs (x ∷ []) in omega (arith, h)

option-append : (o : Option ℕ) (xs ys : List ℕ) → cons_option o (xs ++ ys) ≡ cons_option o xs ++ ys
option-append None xs ys = refl
option-append (Some n) xs ys = refl

pub begun-one : (xs : List Line) (x : Line) → numbers_begun (xs ++ x ∷ []) ≡ numbers_begun xs ++ cons_option (number_begun x.call) []
begun-one [] x = refl
begun-one (y ∷ xs) x = ap (λ l. cons_option (number_begun y.call) l) (begun-one xs x) ∙ option-append (number_begun y.call) (numbers_begun xs) (cons_option (number_begun x.call) [])

pub length-one : (xs : List Line) (x : Line) → length (xs ++ x ∷ []) ≡ suc (length xs)
length-one [] x = refl
length-one (y ∷ xs) x = ap suc (length-one xs x)

pub numbered-more : (start : Start) (before xs : List Line) (x : Line) → AreNumbered start before xs → IsNumbered start (before ++ xs) x → AreNumbered start before (xs ++ x ∷ [])
numbered-more start before [] x are is = (subst (λ (l : List Line). IsNumbered start l x) (append-nil before) is, tt)
numbered-more start before (y ∷ xs) x are is =
    (are.0, numbered-more start (before ++ y ∷ []) xs x are.1 (subst (λ (l : List Line). IsNumbered start l x) (sym (append_assoc before (y ∷ []) xs)) is))

pub numbered-next : (start : Start) (before xs more : List Line) (x : Line) → AreNumbered start before (xs ++ x ∷ more) → IsNumbered start (before ++ xs) x
numbered-next start before [] more x are = subst (λ (l : List Line). IsNumbered start l x) (sym (append-nil before)) are.0
numbered-next start before (y ∷ xs) more x are =
    subst (λ (l : List Line). IsNumbered start l x) (append_assoc before (y ∷ []) xs) (numbered-next start (before ++ y ∷ []) xs more x are.1)
