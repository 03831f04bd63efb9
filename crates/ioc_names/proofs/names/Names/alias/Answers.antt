use Rattle.std.proofs.Common.{◌≡◌, ℕ, ◌<◌, ap, subst, sym, arith}
use Rattle.std.specs.Ordering.{nat_cmp}
use Rattle.std.specs.Cmp.Lexicographic.{slice_cmp}
use Rattle.std.specs.FinMap.{FinMap}
use Rattle.ioc_names.specs.Entries.{number_map}
use Rattle.ioc_names.specs.NameTable.{NameTable, IsNameTable}
use Rattle.ioc_names.proofs.Tables.{IsNameTable-insert}
use Rattle.ioc_names.proofs.names.Names.alias.Goals as goal

pub invariant_of-self-2 : goal.invariant_of-self-2
invariant_of-self-2 c =
    let count = c.self.inside.count in
    let same : count ≡ c.args.self.now.count = ap (λ (t : NameTable). t.count) c.self.view_is in
    let known : c.args.number < count = omega (arith, c.requires.known) in
    let P : FinMap (slice_cmp nat_cmp) ℕ → Type 0 = λ m. IsNameTable m count in
    subst P (sym c.in_ok-enter.ensures.ok) (IsNameTable-insert (number_map c.self.inside.numbers.entries) count count c.args.alias c.args.number c.enter.ensures.short known (omega arith) c.self.invariant)
