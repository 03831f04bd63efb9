use Rattle.std.proofs.Common.{rules, ◌≡◌, ◌∙◌, sym, ap, refl, inr, ℕ, ◌+◌, ◌∷◌, ◌++◌, [], length, Option, Some, None, List, arith}
use Rattle.ioc_dblex.specs.Macros.{Defined}
use Rattle.ioc_command_line.specs.Definitions.{definition_of, behind_piece, defined_by}
use Rattle.ioc_command_line.proofs.Cutting.{left_in, bytes_left, left_length, defines_first, defines_none, behind_shorter}
use Rattle.ioc_command_line.proofs.definitions.define.Goals as goal

pub returns-in_default-definition-clause-err : goal.returns-in_default-definition-clause-err
returns-in_default-definition-clause-err c =
    let none : None ≡ definition_of c.cut.result.0.now = search rules in
    let left : bytes_left c.loop-rest.rest ≡ Some c.in-Some.bytes.now = ap bytes_left c.in-Some.is in
    inr (
      sym c.loop-rest.invariant ∙ ap (λ (o : Option (List ℕ)). defined_by c.loop-rest.macros (left_in o)) left
          ∙ defines_none c.loop-rest.macros c.in-Some.bytes.now c.cut.result.0.now c.cut.ensures.front none,
      (_, refl),
    )

pub loop-rest-smaller : goal.loop-rest-smaller
loop-rest-smaller c =
    let left : bytes_left c.loop-rest.rest ≡ Some c.in-Some.bytes.now = ap bytes_left c.in-Some.is in
    let before : left_length (bytes_left c.loop-rest.rest) ≡ length c.in-Some.bytes.now + 1 = ap left_length left in
    let after : left_length (bytes_left c.cut.result.1) ≡ left_length (behind_piece c.in-Some.bytes.now) = ap left_length c.cut.ensures.back in
    omega (arith, before, after, behind_shorter c.in-Some.bytes.now)

pub loop-rest-preserved : goal.loop-rest-preserved
loop-rest-preserved c =
    let d : Defined = record { name = c.in-Some-definition.name.now; value = c.in-Some-definition.value.now } in
    let some : Some d ≡ definition_of c.cut.result.0.now = search rules in
    let more : c.define.new.self ≡ c.loop-rest.macros ++ d ∷ [] = search rules in
    let left : bytes_left c.loop-rest.rest ≡ Some c.in-Some.bytes.now = ap bytes_left c.in-Some.is in
    let first = defines_first c.loop-rest.macros c.in-Some.bytes.now c.cut.result.0.now (bytes_left c.cut.result.1) d c.cut.ensures.front c.cut.ensures.back some in
    ap (λ (ds : List Defined). defined_by ds (left_in (bytes_left c.cut.result.1))) more
    ∙ sym first ∙ sym (ap (λ (o : Option (List ℕ)). defined_by c.loop-rest.macros (left_in o)) left) ∙ c.loop-rest.invariant
