-- The names of records: a finite map from names to numbers, and the number of records.
use Rattle.std.specs.Prelude.{◌≡◌, ℕ, ◌+◌, ◌<◌, Option, Some, None, List, length, refl}
use Rattle.std.specs.Ordering.{nat_cmp}
use Rattle.std.specs.Cmp.Lexicographic.{slice_cmp}
use Rattle.std.specs.FinMap.{FinMap, empty, get, insert, code}
use Rattle.std.specs.Coded.{Coded, code_by, coded×, coded_list, coded_ℕ}

-- The number of each name, and the number of records.
pub record NameTable : Type 0 where
  pub numbers : FinMap (slice_cmp nat_cmp) ℕ
  pub count : ℕ

-- A table is stored as the pair of its fields.
abbrev pub table_code : Coded NameTable
table_code =
    code_by (FinMap (slice_cmp nat_cmp) ℕ × ℕ) (coded× (code (coded_list coded_ℕ) coded_ℕ) coded_ℕ) (λ t. (t.numbers, t.count)) (λ p. record { numbers = p.0; count = p.1 }) (λ _. refl)

-- The number of the record that has this name or alias.
abbrev pub number_of : NameTable → List ℕ → Option ℕ
number_of t name = get t.numbers name

-- The table without records.
abbrev pub no_names : NameTable
no_names = record { numbers = empty; count = 0 }

-- The table with a new record of this name, which has the next number.
abbrev pub added : NameTable → List ℕ → NameTable
added t name = record { numbers = insert t.numbers name t.count; count = t.count + 1 }

-- The table with an alias for the record with this number.
abbrev pub aliased : NameTable → ℕ → List ℕ → NameTable
aliased t number name = record { numbers = insert t.numbers name number; count = t.count }

-- Holds if no name is longer than 60 bytes and every number belongs to a record.
pub record IsNameTable (numbers : FinMap (slice_cmp nat_cmp) ℕ) (count : ℕ) : Type 0 where
  pub short : (name : List ℕ) → 60 < length name → get numbers name ≡ None
  pub known : (name : List ℕ) (n : ℕ) → get numbers name ≡ Some n → n < count
