use Rattle.std.proofs.Common.{List, length, sym, ap, subst, arith, rules}
use Rattle.std.specs.List.Sorted.{IsNonDecreasingBy}
use Rattle.std.proofs.lemmas.List.Sorted.{IsNonDecreasingBy-from_sort_by_key}
use Rattle.ioc_set_records.specs.declared.slots.Slot.{Slot}
use Rattle.ioc_set_records.proofs.Merged.{written_over}
use Rattle.ioc_set_records.proofs.joining.sort.Goals as goal

pub returns-clause-sorted : goal.returns-clause-sorted
returns-clause-sorted g c =
    let P : List (Slot g.row.K.Denot g.row.D.Denot) → Type 0 = λ z. IsNonDecreasingBy (λ s. s.number) z in
    let new = c.sort_unstable_by_key.new.self in
    let is = written_over new c.args.slots.now.items c.args.slots.now.len
    (let a = c.sort_unstable_by_key.ensures.len in let b = c.as_mut_slice-slots.ensures.len in omega arith)
    (let a = ap length c.as_mut_slice-slots.ensures.value in let b = c.as_mut_slice-slots.ensures.len in omega arith) in
    subst P (sym is) (IsNonDecreasingBy-from_sort_by_key (λ (s : Slot g.row.K.Denot g.row.D.Denot). s.number) new c.sort_unstable_by_key.ensures.sorted (λ a r q k. search rules))
