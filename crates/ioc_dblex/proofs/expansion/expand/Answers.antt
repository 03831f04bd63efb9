use Rattle.std.proofs.Common.{ℕ, List, Bor, option_map, sym, ap, ◌∙◌, arith, lt-ltb, le-ltb}
use Rattle.ioc_dblex.specs.Lines.{lines_of}
use Rattle.ioc_dblex.specs.Texts.{parts_of, most_bytes}
use Rattle.ioc_dblex.proofs.Expanding.{begins, whole, some_line, stops, passes, goes_on}
use Rattle.ioc_dblex.proofs.Plain.{plain_parts}
use Rattle.ioc_dblex.proofs.expansion.expand.Goals as goal

pub loop-rest-init : goal.loop-rest-init
unfolding most_bytes
loop-rest-init c =
    (begins c.args.macros.now c.new-lengths.result.items c.new-bytes.result.items (lines_of c.args.text.now) c.new-lengths.ensures.items, rw (c.new-lengths.ensures.items, c.new-bytes.ensures.items) (omega arith), rw c.new-lengths.ensures.items (omega arith), λ known. sym c.is_plain-plain.ensures ∙ known)

pub returns-in_default : goal.returns-in_default
returns-in_default c =
    stops c.loop-rest.rest.now _ _ (sym c.is_empty.ensures ∙ c.loop-rest-test.true) c.split_line.ensures.whole c.split_line.ensures.first c.args.macros.now (parts_of c.loop-rest.lengths.items c.loop-rest.bytes.items) c.loop-rest.room _ c.loop-rest.invariant.0 (sym c.in_ok-found.ensures ∙ ap (option_map (λ (t : Bor (List ℕ)). t.now)) c.in_default.is)

pub returns-then-room-line : goal.returns-then-room-line
returns-then-room-line c =
    let some = sym c.is_empty.ensures ∙ c.loop-rest-test.true in
    let parts = passes c.loop-rest.rest.now _ _ some c.split_line.ensures.whole c.split_line.ensures.first c.args.macros.now (parts_of c.loop-rest.lengths.items c.loop-rest.bytes.items) c.loop-rest.room _ c.loop-rest.invariant.0 _ (sym c.in_ok-found.ensures ∙ ap (option_map (λ (t : Bor (List ℕ)). t.now)) c.in-Some.is) (lt-ltb _ _ c.if-room-line.true) in
    rw (c.in_ok-add_text.ensures.parts, c.begun_within.ensures) parts

pub loop-rest-smaller : goal.loop-rest-smaller
loop-rest-smaller c =
    let some = sym c.is_empty.ensures ∙ c.loop-rest-test.true in
    omega (arith, whole c.loop-rest.rest.now _ _ some c.split_line.ensures.whole c.split_line.ensures.first, some_line c.loop-rest.rest.now _ _ some c.split_line.ensures.whole c.split_line.ensures.first)

pub loop-rest-preserved : goal.loop-rest-preserved
loop-rest-preserved c =
    let some = sym c.is_empty.ensures ∙ c.loop-rest-test.true in
    let one = some_line c.loop-rest.rest.now _ _ some c.split_line.ensures.whole c.split_line.ensures.first in
    let parts = goes_on c.loop-rest.rest.now _ _ some c.split_line.ensures.whole c.split_line.ensures.first c.args.macros.now (parts_of c.loop-rest.lengths.items c.loop-rest.bytes.items) c.loop-rest.room _ c.loop-rest.invariant.0 _ (sym c.in_ok-found.ensures ∙ ap (option_map (λ (t : Bor (List ℕ)). t.now)) c.in-Some.is) (le-ltb _ _ c.if-room-line.false) in
    (rw c.in_ok-add_text-2.ensures.parts parts, c.in_ok-add_text-2.ensures.fits, omega (arith, one, c.in_ok-add_text-2.ensures.count, c.loop-rest.invariant.2), λ known. (plain_parts c.loop-rest.rest.now c.split_line.result.0.now c.split_line.result.1.now c.split_line.ensures.whole (c.loop-rest.invariant.3 known)).1)

pub line_text-requires-clause-known : goal.line_text-requires-clause-known
line_text-requires-clause-known c = λ known. (plain_parts c.loop-rest.rest.now c.split_line.result.0.now c.split_line.result.1.now c.split_line.ensures.whole (c.loop-rest.invariant.3 known)).0
