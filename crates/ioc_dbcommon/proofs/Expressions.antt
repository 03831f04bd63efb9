-- Texts that are expressions, and the empty one, which is none.
use Rattle.std.proofs.Common.{◌≡◌, ℕ, ◌<◌, List, [], ◌∷◌, Option, Some, None, length, take, refl, subst, ap, sym, ◌∙◌, arith}
use Rattle.std.proofs.lemmas.List.{take_all}
use Rattle.std.specs.Prelude.{codes}
use Rattle.std.specs.Float.Ieee.{Float}
use Rattle.ioc_calc.specs.declared.program.Program.{Program}
use Rattle.ioc_calc.specs.Machine.{Code}
use Rattle.ioc_calc.specs.Operations.{zero_float}
use Rattle.ioc_calc.specs.Program.{code_of}
use Rattle.ioc_calc.specs.Compiles.{Compiles}
use Rattle.ioc_calc.specs.Programs.{program_of, value_by, arguments_by}
use Rattle.ioc_dbcommon.specs.Calculation.{HasProgram, shown_text}

-- ---- What is kept

pub compiled_of : (text : List ℕ) (p : Option Program) (program : Program) → HasProgram text p → p ≡ Some program
    → Compiles text (code_of program)
compiled_of text p program has is = subst (HasProgram text) is has

pub unset_of : (text : List ℕ) (p : Option Program) → HasProgram text p → p ≡ None → text ≡ []
unset_of text p has is = subst (HasProgram text) is has

-- An expression fits.
pub cut_is : (text : List ℕ) (code : Code) → Compiles text code → take 79 text ≡ text
cut_is text code compiles = take_all 79 text compiles.expression.follows.short

-- ---- What is shown

shown_is : (text : List ℕ) → 0 < length text → shown_text text ≡ text
shown_is [] some = absurd (omega arith)
shown_is (b ∷ bs) some = refl

pub shown_if_set : (text : List ℕ) (code : Code) → Compiles text code → text ≡ shown_text text
shown_if_set text code compiles = sym (shown_is text compiles.expression.follows.some)

pub shown_unset : (text : List ℕ) → text ≡ [] → codes "0" ≡ shown_text text
shown_unset text is = sym (ap shown_text is)

-- ---- What is run

none_gives_0 : (before : Float) (arguments : List Float) → value_by [] before arguments ≡ zero_float
unfolding value_by program_of
none_gives_0 before arguments = refl

none_stores : (before : Float) (arguments : List Float) → arguments_by [] before arguments ≡ arguments
unfolding arguments_by program_of
none_stores before arguments = refl

pub unset_gives_0 : (text : List ℕ) (before : Float) (arguments : List Float) → text ≡ [] → zero_float ≡ value_by text before arguments
unset_gives_0 text before arguments is = sym (ap (λ t. value_by t before arguments) is ∙ none_gives_0 before arguments)

pub unset_stores : (text : List ℕ) (before : Float) (arguments : List Float) → text ≡ [] → arguments ≡ arguments_by text before arguments
unset_stores text before arguments is = sym (ap (λ t. arguments_by t before arguments) is ∙ none_stores before arguments)
