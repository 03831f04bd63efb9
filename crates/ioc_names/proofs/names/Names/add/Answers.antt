use Rattle.std.proofs.Common.{ℕ, ◌+◌, subst, sym, arith}
use Rattle.std.specs.Ordering.{nat_cmp}
use Rattle.std.specs.Cmp.Lexicographic.{slice_cmp}
use Rattle.std.specs.FinMap.{FinMap}
use Rattle.ioc_names.specs.Entries.{number_map}
use Rattle.ioc_names.specs.NameTable.{IsNameTable}
use Rattle.ioc_names.proofs.Tables.{IsNameTable-insert}
use Rattle.ioc_names.proofs.names.Names.add.Goals as goal

pub invariant_of-self-2 : goal.invariant_of-self-2
invariant_of-self-2 c =
    let count = c.self.inside.count in
    let P : FinMap (slice_cmp nat_cmp) ℕ → Type 0 = λ m. IsNameTable m (count + 1) in
    subst P (sym c.in_ok-enter.ensures.ok) (IsNameTable-insert (number_map c.self.inside.numbers.entries) count (count + 1) c.args.name _ c.enter.ensures.short (omega arith) (omega arith) c.self.invariant)
