use Rattle.std.proofs.Common.{◌≡◌, ◌<◌, ◌+◌, ℕ, Some, get_or, sym, ap, ◌∙◌, subst, arith}
use Rattle.std.specs.FinMap.{get, keys, len}
use Rattle.std.proofs.lemmas.Option.{get_or_from_slice_get}
use Rattle.ioc_journaled_set.proofs.Copied.{AreFirst, never_past, there_at, one_beyond, one_copied, all_copied}
use Rattle.ioc_journaled_set.proofs.Keys.{keys_count}
use Rattle.ioc_journaled_set.proofs.copying.copy_set.Goals as goal
use Rattle.ioc_journaled_set.proofs.copying.copy_set.Goals.{then-index-len+in_ok-copy+in-Some-1, then-index-len+in_ok-copy+in-None-1, else-index-len}

pub unreachable-requires : goal.unreachable-requires
unreachable-requires g c =
    let records = c.args.set.now.records in
    let within : c.loop-place.place < len records = omega arith in
    never_past records c.loop-place.place within (sym c.number_at.ensures ∙ c.in_default.is)

pub record-requires : goal.record-requires
record-requires g c =
    let records = c.args.set.now.records in
    let within : c.loop-place.place < len records = omega arith in
    there_at records c.loop-place.place within c.in-Some.number (sym c.number_at.ensures ∙ c.in-Some.is)

pub loop-place-preserved : goal.loop-place-preserved
loop-place-preserved g c =
    let records = c.args.set.now.records in
    let before = c.args.copies.now.items in
    let now = c.loop-place.copies.items in
    let place = c.loop-place.place in
    let first = c.loop-place.invariant in
    let index = c.index-index.result in
    let is : get_or (keys records) place 0 ≡ index = get_or_from_slice_get (keys records) place c.in-Some.number 0 (sym c.number_at.ensures ∙ c.in-Some.is) ∙ sym c.index-index.ensures in
    let same = λ (r s : g.row.K.Denot) (there : get records c.in-Some.number ≡ Some r) (copy : s ≡ r). ap (λ (n : ℕ). get records n) c.index-index.ensures ∙ there ∙ ap (λ (x : g.row.K.Denot). Some x) (sym copy) in
    elim c.if-index-len.branch [
      | then-index-len+in_ok-copy+in-Some-1 w ↦ subst (λ (v : _). AreFirst records before (place + 1) v.items) (sym w.copies-is)
          (one_copied records before place index now first is w.in_ok-copy.copy (same w.record.result.now w.in_ok-copy.copy w.record.ensures w.in_ok-copy.ensures) (omega arith))
      | then-index-len+in_ok-copy+in-None-1 w ↦ subst (λ (v : _). AreFirst records before (place + 1) v.items) (sym w.copies-is)
          (one_copied records before place index now first is w.in_ok-copy.copy (same w.record.result.now w.in_ok-copy.copy w.record.ensures w.in_ok-copy.ensures) (omega arith))
      | else-index-len w ↦ subst (λ (v : _). AreFirst records before (place + 1) v.items) (sym w.copies-is) (one_beyond records before place index now first is (omega arith))
    ]

pub returns-clause-copied : goal.returns-clause-copied
returns-clause-copied g c =
    let records = c.args.set.now.records in
    all_copied records c.args.copies.now.items c.loop-place.copies.items
    (subst (λ (n : ℕ). AreFirst records c.args.copies.now.items n c.loop-place.copies.items) (let count = keys_count records in omega (arith, count)) c.loop-place.invariant)
