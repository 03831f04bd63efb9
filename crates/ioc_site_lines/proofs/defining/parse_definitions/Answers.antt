use Rattle.std.proofs.Common.{rules, ◌≡◌, ◌∙◌, sym, ap, ℕ, ◌+◌, ◌++◌, length, Option, Some, None, false, List, map, arith}
use Rattle.std.specs.Prelude.{option_map}
use Rattle.ioc_dblex.specs.Macros.{Defined}
use Rattle.ioc_site_lines.specs.Defining.{bare_front, bare_back, definition_in, onto, definitions_of, seen}
use Rattle.ioc_site_lines.proofs.Cutting.{bytes_left, left_length, defined_left, defined_cut, back_shorter}
use Rattle.ioc_site_lines.proofs.defining.parse_definitions.Goals as goal

pub loop-rest-smaller : goal.loop-rest-smaller
loop-rest-smaller c =
    let left : bytes_left c.loop-rest.rest ≡ Some c.in-Some.left.now = ap bytes_left c.in-Some.is in
    let before : left_length (bytes_left c.loop-rest.rest) ≡ length c.in-Some.left.now + 1 = ap left_length left in
    let after : left_length (bytes_left c.split_bare.result.1) ≡ left_length (bare_back 44 None false c.in-Some.left.now) = ap left_length c.split_bare.ensures.back in
    omega (arith, before, after, back_shorter None false c.in-Some.left.now)

pub loop-rest-preserved : goal.loop-rest-preserved
loop-rest-preserved c =
    let more : List Defined = defined_left (bytes_left c.split_bare.result.1) in
    let before : List Defined = map seen c.loop-rest.list.items in
    let left : bytes_left c.loop-rest.rest ≡ Some c.in-Some.left.now = ap bytes_left c.in-Some.is in
    let found : option_map seen c.in_ok-found.found ≡ definition_in c.split_bare.result.0.now = search rules in
    let added : map seen c.add_found.new.list.items ++ more ≡ before ++ onto (option_map seen c.in_ok-found.found) more = search rules in
    added
    ∙ ap (λ (d : Option Defined). before ++ onto d more) found
    ∙ ap (λ (p : List ℕ). before ++ onto (definition_in p) more) c.split_bare.ensures.front
    ∙ ap (λ (o : Option (List ℕ)). before ++ onto (definition_in (bare_front 44 None false c.in-Some.left.now)) (defined_left o)) c.split_bare.ensures.back
    ∙ sym (ap (λ (ds : List Defined). before ++ ds) (defined_cut c.in-Some.left.now))
    ∙ sym (ap (λ (o : Option (List ℕ)). before ++ defined_left o) left)
    ∙ c.loop-rest.invariant
