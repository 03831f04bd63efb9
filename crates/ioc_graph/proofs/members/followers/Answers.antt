use Rattle.std.proofs.Common.{◌≡◌, ◌<◌, ℕ, ◌+◌, ◌-◌, length, replicate, set, get_or, refl, sym, ap, ◌∙◌, subst, arith}
use Rattle.std.specs.Prelude.{slice_index}
use Rattle.std.proofs.lemmas.Grind.{get_or_default_zero}
use Rattle.std.proofs.lemmas.List.{get_or-replicate, length-replicate}
use Rattle.ioc_graph.proofs.Following.{Built, nothing_built, build_own, build_behind}
use Rattle.ioc_graph.proofs.members.followers.Goals as goal

pub loop-place-init : goal.loop-place-init
loop-place-init c =
    let n = length c.args.numbers.now in
    let all : c.in_ok-next.next.items ≡ replicate n n = c.in_ok-next.ensures.items_if_clones_equal (λ y h. h) in
    nothing_built c.args.numbers.now c.in_ok-next.next.items n (rw all (length-replicate n n)) refl (λ j l. rw all (get_or-replicate n j n 0 l))

pub loop-place-preserved-then-first-place : goal.loop-place-preserved-then-first-place
loop-place-preserved-then-first-place c =
    let numbers = c.args.numbers.now in
    let next = c.loop-place.next.items in
    let place = c.loop-place.place in
    let i = place - 1 in
    let q = slice_index numbers i in
    let b = c.loop-place.invariant in
    let within : i < length numbers = omega (arith, b.within, c.loop-place-test.true) in
    let low : q < i = omega (arith, c.requires i within, c.if-first-place.true) in
    let value : c.index.result.now ≡ slice_index next q = c.index.ensures ∙ get_or_default_zero next q c.index.result.now (omega (arith, low, within, b.one_each)) in
    subst (λ (v : ℕ). Built numbers (set (set next i v) q i) i) (sym value) (build_behind numbers next i place (omega (arith, c.loop-place-test.true)) b q refl low)

pub loop-place-preserved : goal.loop-place-preserved
loop-place-preserved c =
    let place = c.loop-place.place in
    build_own c.args.numbers.now c.loop-place.next.items (place - 1) place (omega (arith, c.loop-place-test.true)) c.loop-place.invariant (omega (arith, c.if-first-place.false))
