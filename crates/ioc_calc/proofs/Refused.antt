-- Which texts are refused.
use Rattle.std.proofs.Common.{◌≡◌, ℕ, ◌<◌, ◌≤◌, List, [], ◌++◌, length, ap, arith, ◌∙◌, sym, subst, false, IsTrue}
use Rattle.std.specs.Prelude.{Some, None}
use Rattle.ioc_calc.specs.declared.token.Token.{Token}
use Rattle.ioc_calc.specs.declared.token.LeftOut.{LeftOut as Word}
use Rattle.ioc_calc.specs.declared.compiling.CalcFaultKind.{CalcFaultKind}
use Rattle.ioc_calc.specs.declared.compiling.CalcFaultKind.TheVariants.{Bad, LeftOut}
use Rattle.ioc_calc.specs.State.{State}
use Rattle.ioc_calc.specs.Tree.{Statement, values_in}
use Rattle.ioc_calc.specs.Machine.{Code, can_run, all_steps, all_numbers}
use Rattle.ioc_calc.specs.Grammar.{AreStatements, Follows, IsExpression}
use Rattle.ioc_calc.specs.Statements.{statements}
use Rattle.ioc_calc.specs.Tokens.{tokens_of, left_out_in}
use Rattle.ioc_calc.specs.Compiles.{IsProgramOfTokens, Compiles, AreNoStatements, IsFault}
use Rattle.ioc_calc.proofs.Sound.{some_same}
use Rattle.ioc_calc.proofs.Complete.{state}
use Rattle.ioc_calc.proofs.SoundStatements.{statements_sound}
use Rattle.ioc_calc.proofs.CompleteStatements.{statements_complete, statements_run}

begun : (ts : List Token) (s : State) → s.rest ≡ ts → s.steps ≡ [] → s.numbers ≡ [] → s ≡ state ts [] []
begun ts s re se ne = ap (λ x. state x s.steps s.numbers) re ∙ ap (λ x. state ts x s.numbers) se ∙ ap (λ x. state ts [] x) ne

pub reads_all : (ts : List Token) (s : State) (ss : List Statement) → s.rest ≡ ts → s.steps ≡ [] → s.numbers ≡ [] → length ts ≤ 79
    → AreStatements ts ss → values_in ss ≡ 1 → statements 80 false s ≡ Some (state [] ([] ++ all_steps ss) ([] ++ all_numbers ss))
reads_all ts s ss re se ne h d v = ap (λ x. statements 80 false x) (begun ts s re se ne)
    ∙ statements_complete ts ss d 80 false [] [] (omega arith) v (omega arith) (omega arith)

-- tokens that the parser refuses
pub refused_none : (ts : List Token) (s : State) → s.rest ≡ ts → s.steps ≡ [] → s.numbers ≡ [] → length ts ≤ 79
    → statements 80 false s ≡ None → AreNoStatements ts
refused_none ts s re se ne h none = λ ss d v. let some = reads_all ts s ss re se ne h d v in cc

-- the steps of tokens that the parser reads can run
pub can_run_of : (ts : List Token) (s s' : State) → s.rest ≡ ts → s.steps ≡ [] → s.numbers ≡ [] → length ts ≤ 79
    → statements 80 false s ≡ Some s' → IsTrue (can_run s'.steps 0 40)
can_run_of ts s s' re se ne h some =
    let g = statements_sound 80 false s s' some in
    let reads = subst (λ x. AreStatements x g.statements) re g.reads in
    ap (λ x. can_run x 0 40) (g.steps ∙ ap (λ x. x ++ all_steps g.statements) se)
    ∙ statements_run ts g.statements reads 0 40 (omega arith) (omega arith) (omega (arith, g.values))

-- ---- texts

pub bad_tokens : (text : List ℕ) (ts : List Token) → tokens_of text ≡ Some ts → AreNoStatements ts → IsFault text Bad
bad_tokens text ts e none = λ us ss f.
    none ss (subst (λ x. AreStatements x ss) (some_same us ts (sym f.spelled ∙ e)) f.grammar) f.one_value

pub no_tokens : (text : List ℕ) → tokens_of text ≡ None → IsFault text Bad
no_tokens text e = λ us ss f. let some = f.spelled in cc

pub no_text : (text : List ℕ) → (0 < length text → ⊥) → IsFault text Bad
no_text text h = λ us ss f. h f.some

pub long_text : (text : List ℕ) → 79 < length text → IsFault text Bad
long_text text h = λ us ss f. let short = f.short in absurd (omega arith)

follows : (text : List ℕ) (ts : List Token) (code : Code) → 0 < length text → length text ≤ 79 → tokens_of text ≡ Some ts
    → (p : IsProgramOfTokens ts code) → Follows text ts p.statements
follows text ts code some short e p = record {
  some = some;
  short = short;
  spelled = e;
  grammar = p.grammar;
  one_value =
      p.program.one_value;
}

pub compiles : (text : List ℕ) (ts : List Token) (code : Code) → 0 < length text → length text ≤ 79 → tokens_of text ≡ Some ts
    → IsProgramOfTokens ts code → left_out_in ts ≡ None → Compiles text code
compiles text ts code some short e p none = record {
  statements = p.statements;
  expression = record { tokens = ts; follows = follows text ts code some short e p; complete = none };
  program = p.program;
}

pub leaves_out : (text : List ℕ) (ts : List Token) (code : Code) (word : Word) → 0 < length text → length text ≤ 79
    → tokens_of text ≡ Some ts → IsProgramOfTokens ts code → left_out_in ts ≡ Some word → IsFault text (LeftOut word)
leaves_out text ts code word some short e p found = record {
  tokens = ts;
  statements = p.statements;
  follows = follows text ts code some
      short e p;
  first = found;
}

-- a fault is no expression's
pub no_expression : (text : List ℕ) (kind : CalcFaultKind) → IsFault text kind → (ss : List Statement) → IsExpression text ss → ⊥
no_expression text Bad f ss e = f e.tokens ss e.follows
no_expression text (LeftOut word) f ss e =
    let same = some_same f.tokens e.tokens (sym f.follows.spelled ∙ e.follows.spelled) in
    let found = f.first in
    let none = e.complete in
    let both : left_out_in f.tokens ≡ left_out_in e.tokens = ap left_out_in same in
    cc
