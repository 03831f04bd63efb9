-- Steps in the order of a loop.
use Rattle.std.proofs.Common.{◌≡◌, ℕ, suc, ◌-◌, ◌+◌, ◌≤◌, ◌<◌, Bool, true, false, List, Result, Ok, Err, refl, sym, ◌∙◌, arith}
use Rattle.ioc_values.specs.declared.error.DbFault.{DbFault}
use Rattle.ioc_values.specs.declared.error.LoadError.{LoadError}
use Rattle.ioc_values.specs.declared.error.LoadError.TheVariants as errors
use Rattle.ioc_dblex.specs.Lexing.{Lexeme}
use Rattle.ioc_dbparse.specs.Statements.{◌>>=◌, Fails, Gives, repeated}

module _ {S : Type 0} (step : S → List Lexeme → Result (Bool × S × List Lexeme) DbFault) (out : DbFault) (turns : ℕ) (total : Result (S × List Lexeme) DbFault) (i : ℕ) (s : S) (tokens : List Lexeme) where
  turn : i < turns → turns - i ≡ suc (turns - (i + 1))
  turn lt = omega arith

  pub goes_on : (more : Bool) (t : S) (after : List Lexeme) → more ≡ true → i < turns → step s tokens ≡ Ok (more, t, after) → repeated step out (turns - i) s tokens ≡ total → repeated step out (turns - (i + 1)) t after ≡ total
  unfolding repeated
  goes_on more t after m lt e so_far =
      let one : repeated step out (turns - i) s tokens ≡ repeated step out (turns - (i + 1)) t after = rw (turn lt, e, m) refl in
      sym one ∙ so_far

  pub is_done : (more : Bool) (t : S) (after : List Lexeme) → more ≡ false → i < turns → step s tokens ≡ Ok (more, t, after) → repeated step out (turns - i) s tokens ≡ total → total ≡ Ok (t, after)
  unfolding repeated
  is_done more t after m lt e so_far =
      let one : repeated step out (turns - i) s tokens ≡ Ok (t, after) = rw (turn lt, e, m) refl in
      sym so_far ∙ one

  pub fails : (e : LoadError) → i < turns → Fails e (step s tokens) → repeated step out (turns - i) s tokens ≡ total → Fails e total
  unfolding repeated
  fails (errors.BadDb f) lt h so_far = let one : repeated step out (turns - i) s tokens ≡ Err f = rw (turn lt, h) refl in sym so_far ∙ one
  fails errors.NoMemory lt h so_far = tt

  pub is_out : turns ≤ i → repeated step out (turns - i) s tokens ≡ total → total ≡ Err out
  unfolding repeated
  is_out le so_far =
      let k : turns - i ≡ 0 = omega arith in
      let one : repeated step out (turns - i) s tokens ≡ Err out = rw k refl in
      sym so_far ∙ one

-- The result of a step followed by a function of it.
pub gives_then : {X Y Z : Type 0} (view : X → Y) (k : Y → Z) (r : Result X LoadError) (wanted : Result Y DbFault) → Gives view r wanted → Gives (λ x. k (view x)) r (wanted >>= λ y. Ok (k y))
gives_then view k (Ok x) wanted h = rw h refl
gives_then view k (Err (errors.BadDb f)) wanted h = rw h refl
gives_then view k (Err errors.NoMemory) wanted h = tt
