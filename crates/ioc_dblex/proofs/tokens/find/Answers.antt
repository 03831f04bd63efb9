use Rattle.std.proofs.Common.{◌≡◌, ◌+◌, List, ℕ, sym, ap, ◌∙◌, arith, length, refl}
use Rattle.std.proofs.lemmas.Bool.{eqb-true}
use Rattle.ioc_dblex.specs.Tokens.{tokens_at, tokens_of}
use Rattle.ioc_dblex.specs.SeenLines.{texts}
use Rattle.ioc_dblex.proofs.Turns.{solid, without_gap, next_line}
use Rattle.ioc_dblex.proofs.tokens.find.Goals as goal

pub loop-first-init : goal.loop-first-init
loop-first-init c =
    let p = c.args.place.now in
    (without_gap p.line p.rest.now _ (tokens_of p.end (p.line + 1) (texts p.behind)) c.skip_gap-place.ensures, solid p.rest.now _ c.skip_gap-place.ensures, omega arith, refl)

pub loop-first-preserved : goal.loop-first-preserved
loop-first-preserved c =
    let nothing : length c.loop-first.place.rest.now ≡ 0 = eqb-true _ _ (sym c.is_empty.ensures ∙ c.loop-first-test.true) in (
      next_line c.loop-first.place.line c.loop-first.place.rest.now c.in-Some.first.now _ (texts c.in-Some.others) c.loop-first.place.end nothing c.skip_gap-place-in-loop-first.ensures
          ∙ ap (λ (ts : List (List ℕ)). tokens_at c.loop-first.place.line c.loop-first.place.rest.now ts c.loop-first.place.end) (sym c.in-Some.ensures.0) ∙ c.loop-first.invariant.0,
      solid c.in-Some.first.now _ c.skip_gap-place-in-loop-first.ensures,
      omega (arith, c.in-Some.ensures.1, c.loop-first.invariant.2),
      c.loop-first.invariant.3,
    )
