-- The records that names refer to, before and after a name is entered.
use Rattle.std.specs.Prelude.{◌≡◌, ◌≢◌, ℕ, Some, None, List}
use Rattle.ioc_names.specs.NameTable.{NameTable, number_of, no_names, added, aliased}

-- Holds if the name of a new record refers to the next number, and an alias to the number of its
-- record.
abbrev pub EnteredIsFound : NameTable → ℕ → List ℕ → Type 0
EnteredIsFound t number name = (number_of (added t name) name ≡ Some t.count) × (number_of (aliased t number name) name ≡ Some number)

-- Holds if every other name refers to the same record as before.
abbrev pub OthersStay : NameTable → ℕ → List ℕ → List ℕ → Type 0
OthersStay t number name other = other ≢ name → (number_of (added t name) other ≡ number_of t other) × (number_of (aliased t number name) other ≡ number_of t other)

-- Holds if the name refers to no record when there are no records.
abbrev pub NoneFound : List ℕ → Type 0
NoneFound name = number_of no_names name ≡ None
