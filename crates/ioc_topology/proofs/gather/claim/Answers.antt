use Rattle.std.proofs.Common.{◌≡◌, ◌<◌, ◌+◌, ◌∷◌, ◌++◌, [], ℕ, List, true, sym, ap, ◌∙◌, subst, slice_index, slice_set, length, take, arith}
use Rattle.std.proofs.lemmas.List.{take_more}
use Rattle.std.proofs.Math.Seq.{take-length}
use Rattle.ioc_topology.specs.Gathered.{IsClaimed}
use Rattle.ioc_topology.proofs.Claims.{claimed_none, claimed_more}
use Rattle.ioc_topology.proofs.gather.claim.Goals as goal

pub loop-place-init : goal.loop-place-init
loop-place-init g c = claimed_none c.args.marks.now

pub number_at-requires : goal.number_at-requires
number_at-requires g c = subst (λ n. c.loop-place.place < n) c.len-place-end.ensures c.loop-place-test.true

pub loop-place-preserved : goal.loop-place-preserved
loop-place-preserved g c =
    let numbers : List ℕ = g.S.Locked.numbers c.args.set.now in
    let within : c.loop-place.place < length numbers = subst (λ n. c.loop-place.place < n) c.len-place-end.ensures c.loop-place-test.true in
    let number : c.index-number.result ≡ slice_index numbers c.loop-place.place = c.index-number.ensures ∙ c.number_at.ensures in
    let taken : take (c.loop-place.place + 1) numbers ≡ take c.loop-place.place numbers ++ c.index-number.result ∷ [] = take_more numbers c.loop-place.place 0 within ∙ ap (λ (n : ℕ). take c.loop-place.place numbers ++ n ∷ []) (sym number) in
    subst (λ ns. IsClaimed c.args.marks.now (slice_set c.loop-place.marks c.index-number.result true) ns) (sym taken)
    (claimed_more c.args.marks.now c.loop-place.marks (take c.loop-place.place numbers) c.index-number.result c.loop-place.invariant c.if-number-marks.false c.if-marks-number.false)

pub returns : goal.returns
returns g c = λ _.
    let numbers : List ℕ = g.S.Locked.numbers c.args.set.now in
    let end : c.loop-place.place ≡ length numbers = omega (arith, c.loop-place-test.false, c.loop-place.auto.place-end, c.len-place-end.ensures) in
    subst (λ ns. IsClaimed c.args.marks.now c.loop-place.marks ns) (ap (λ k. take k numbers) end ∙ take-length numbers) c.loop-place.invariant
