use Rattle.std.proofs.Common.{ℕ, List, subst, sym}
use Rattle.ioc_names.specs.Entries.{number_map}
use Rattle.ioc_names.specs.NameTable.{IsNameTable}
use Rattle.ioc_names.proofs.Tables.{IsNameTable-empty}
use Rattle.ioc_names.proofs.names.Names.new.Goals as goal

pub invariant_of-result : goal.invariant_of-result
invariant_of-result c =
    let P : List (List ℕ × ℕ) → Type 0 = λ es. IsNameTable (number_map es) 0 in
    subst P (sym c.new.ensures.empty) (IsNameTable-empty 0)
