-- The program of a text is what compiling gives, and its run is what the grammar means.
use Rattle.std.proofs.Common.{◌≡◌, ℕ, ◌<◌, ◌≤◌, Bool, true, false, cond, List, [], ◌∷◌, length, nat_lt, Option, Some, None, refl, sym, ap, ◌∙◌, arith, append-nil}
use Rattle.std.proofs.lemmas.Grind.{common_steps}
use Rattle.std.specs.Prelude.{Result, Ok, Err, IfOk, IfErr}
use Rattle.std.specs.Float.Ieee.{Float}
use Rattle.ioc_calc.specs.declared.token.Token.{Token}
use Rattle.ioc_calc.specs.declared.token.LeftOut.{LeftOut as Word}
use Rattle.ioc_calc.specs.declared.compiling.CalcFault.{CalcFault}
use Rattle.ioc_calc.specs.declared.compiling.CalcFaultKind.{CalcFaultKind}
use Rattle.ioc_calc.specs.declared.compiling.CalcFaultKind.TheVariants.{Bad, LeftOut}
use Rattle.ioc_calc.specs.declared.program.Program.{Program}
use Rattle.ioc_calc.specs.State.{State}
use Rattle.ioc_calc.specs.Tree.{Statement, value_of, arguments_after}
use Rattle.ioc_calc.specs.Tokens.{tokens_of, left_out_in}
use Rattle.ioc_calc.specs.Machine.{Code, Machine, ran, all_steps, all_numbers}
use Rattle.ioc_calc.specs.Stack.{top}
use Rattle.ioc_calc.specs.Statements.{statements}
use Rattle.ioc_calc.specs.Grammar.{IsExpression}
use Rattle.ioc_calc.specs.Program.{code_of}
use Rattle.ioc_calc.specs.Compiles.{Compiles, IsFault}
use Rattle.ioc_calc.specs.Programs.{program_with, program_read, program_of_tokens, program_of, fault_in, fault_of, run_with, value_by, arguments_by}
use Rattle.ioc_calc.proofs.Complete.{state}
use Rattle.ioc_calc.proofs.Compiled.{compiled}
use Rattle.ioc_calc.proofs.OneMeaning.{tokens_are_few}
use Rattle.ioc_calc.proofs.Refused.{bad_tokens, no_tokens, no_text, long_text, refused_none, compiles, leaves_out, no_expression, reads_all}
use Rattle.ioc_calc.proofs.Runs.{machine, runs_one}
use Rattle.ioc_calc.proofs.Sound.{some_same}

-- A text has one fault.
one_fault : (text : List ℕ) (one other : CalcFaultKind) → IsFault text one → IsFault text other → one ≡ other
one_fault text Bad Bad f g = refl
one_fault text Bad (LeftOut w) f g = absurd (f g.tokens g.statements g.follows)
one_fault text (LeftOut v) Bad f g = absurd (g f.tokens f.statements f.follows)
one_fault text (LeftOut v) (LeftOut w) f g =
    let same = some_same f.tokens g.tokens (sym f.follows.spelled ∙ g.follows.spelled) in
    ap LeftOut (some_same v w (sym f.first ∙ ap left_out_in same ∙ g.first))

-- ---- the text is as the program of it says

Said : List ℕ → Result Code CalcFaultKind → Type 0
Said text (Ok code) = Compiles text code
Said text (Err kind) = IsFault text kind

abbrev code_in : State → Code
code_in s = record { steps = s.steps; numbers = s.numbers }

said_with : (text : List ℕ) (ts : List Token) (s : State) → 0 < length text → length text ≤ 79 → tokens_of text ≡ Some ts
    → statements 80 false (state ts [] []) ≡ Some s → (found : Option Word) → left_out_in ts ≡ found → Said text (program_with found s)
unfolding Said
said_with text ts s some short e read found is =
    let p = compiled 80 ts (state ts [] []) s (code_in s) refl refl refl read (record { steps = refl; unused = []; numbers = sym (append-nil s.numbers) }) in
    elim found as (λ (o : Option Word). left_out_in ts ≡ o → Said text (program_with o s)) [
      | None ↦ λ none. compiles text ts (code_in s) some short e p none
      | Some word ↦ λ there. leaves_out text ts (code_in s) word some short e p there
    ] is

said_read : (text : List ℕ) (ts : List Token) → 0 < length text → length text ≤ 79 → tokens_of text ≡ Some ts → length ts ≤ 79
    → (read : Option State) → statements 80 false (state ts [] []) ≡ read → Said text (program_read ts read)
unfolding Said
said_read text ts some short e few None none = bad_tokens text ts e (refused_none ts (state ts [] []) refl refl refl few none)
said_read text ts some short e few (Some s) read = said_with text ts s some short e read (left_out_in ts) refl

said_tokens : (text : List ℕ) → 0 < length text → length text ≤ 79 → (found : Option (List Token)) → tokens_of text ≡ found
    → Said text (program_of_tokens found)
unfolding Said
said_tokens text some short None none = no_tokens text none
said_tokens text some short (Some ts) e =
    let few = tokens_are_few text 0 false ts e in
    said_read text ts some short e (omega (arith, few, short)) (statements 80 false (state ts [] [])) refl

said : (text : List ℕ) → Said text (program_of text)
unfolding program_of Said
said [] = no_text [] (λ h. absurd (omega arith))
said (b ∷ bs) =
    elim (nat_lt (length bs) 79) as (λ (short : Bool). nat_lt (length bs) 79 ≡ short → Said (b ∷ bs) (cond short (program_of_tokens (tokens_of (b ∷ bs))) (Err Bad))) [
      | true ↦ λ is. said_tokens (b ∷ bs) (omega arith) (grind (arith, common_steps)) (tokens_of (b ∷ bs)) refl
      | false ↦ λ is. long_text (b ∷ bs) (grind (arith, common_steps))
    ] refl

none_by : (text : List ℕ) (r : Result Code CalcFaultKind) (code : Code) → Said text r → Compiles text code → fault_in r ≡ None
unfolding Said
none_by text (Ok other) code s c = refl
none_by text (Err kind) code s c = absurd (no_expression text kind s c.statements c.expression)

fault_by : (text : List ℕ) (r : Result Code CalcFaultKind) (kind : CalcFaultKind) → Said text r → IsFault text kind → fault_in r ≡ Some kind
unfolding Said
fault_by text (Ok code) kind s f = absurd (no_expression text kind f s.statements s.expression)
fault_by text (Err other) kind s f = ap Some (one_fault text other kind s f)

pub accepted : (text : List ℕ) (result : Result Program CalcFault) → IfOk result (λ p. Compiles text (code_of p)) → IfOk result (λ p. fault_of text ≡ None)
accepted text (Ok p) c = none_by text (program_of text) (code_of p) (said text) c
accepted text (Err fault) c = tt

pub rejected : (text : List ℕ) (result : Result Program CalcFault) → IfErr result (λ fault. IsFault text fault.kind) → IfErr result (λ fault. fault_of text ≡ Some fault.kind)
rejected text (Ok p) f = tt
rejected text (Err fault) f = fault_by text (program_of text) fault.kind (said text) f

-- ---- the run of a text is what its statements mean

program_is : (text : List ℕ) (ss : List Statement) → IsExpression text ss → program_of text ≡ Ok (record { steps = all_steps ss; numbers = all_numbers ss })
unfolding program_of
program_is [] ss e = let some = e.follows.some in absurd (omega arith)
program_is (b ∷ bs) ss e =
    let short : nat_lt (length bs) 79 ≡ true = let at_most = e.follows.short in grind (arith, common_steps) in
    let few : length e.tokens ≤ 79 = let k = tokens_are_few (b ∷ bs) 0 false e.tokens e.follows.spelled in let at_most = e.follows.short in omega arith in
    rw (short, e.follows.spelled, reads_all e.tokens (state e.tokens [] []) ss refl refl refl few e.follows.grammar e.follows.one_value, e.complete) refl

pub run_means : (text : List ℕ) (ss : List Statement) → IsExpression text ss → (before : Float) (arguments : List Float)
    → (value_by text before arguments ≡ value_of ss before arguments) × (arguments_by text before arguments ≡ arguments_after ss before arguments)
unfolding value_by arguments_by
run_means text ss e before arguments =
    let ends = ap (λ (r : Result Code CalcFaultKind). run_with r before arguments) (program_is text ss e)
    ∙ ap (λ (n : List Float). ran before (all_steps ss) (machine arguments n [])) (sym (append-nil (all_numbers ss)))
    ∙ runs_one before ss arguments [] [] e.follows.one_value in
    (ap (λ (m : Machine). top m.stack) ends, ap (λ (m : Machine). m.arguments) ends)
