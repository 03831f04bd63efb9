use Rattle.std.proofs.Common.{ℕ, ◌+◌, subst, sym, ap, ◌∙◌, Option, arith}
use Rattle.std.specs.Ordering.{nat_cmp}
use Rattle.std.specs.Cmp.Lexicographic.{slice_cmp}
use Rattle.std.specs.FinMap.{FinMap}
use Rattle.ioc_names.specs.Entries.{number_map}
use Rattle.ioc_names.specs.Entering.{or_inserted}
use Rattle.ioc_names.specs.NameTable.{IsNameTable}
use Rattle.ioc_names.proofs.Tables.{IsNameTable-insert}
use Rattle.ioc_names.proofs.names.Names.find_or_add.Goals as goal

pub invariant_of-self-2 : goal.invariant_of-self-2
invariant_of-self-2 c =
    let count = c.self.inside.count in
    let before = number_map c.self.inside.numbers.entries in
    let P : FinMap (slice_cmp nat_cmp) ℕ → Type 0 = λ m. IsNameTable m (c.index.result + 1) in
    let inserted = c.in_ok-found.ensures.ok ∙ ap (λ (f : Option ℕ). or_inserted f before c.args.name c.new-next.result) c.in_default.is in
    subst P (sym inserted) (IsNameTable-insert before count (c.index.result + 1) c.args.name _ c.find_or_enter.ensures.short (omega arith) (omega arith) c.self.invariant)
