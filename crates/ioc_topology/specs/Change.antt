-- The sets that a link change works on. Application Developer's Guide, "Database Locking, Scanning,
-- and Processing", lock sets.
use Rattle.std.specs.Prelude.{ℕ, ◌≡◌, ◌⊎◌, ◌≤◌, ◌<◌, List, [], Option, Some, Contains, IfSome, IfNone}
use Rattle.ioc_values.specs.declared.error.IocError.{IocError}
use Rattle.ioc_values.specs.declared.error.IocError.TheVariants.{NoRecord}

-- A call on a record is refused if the directory was made for fewer records.
abbrev pub IsRefused : ℕ → ℕ → IocError → Type 0
IsRefused count number error = (error ≡ NoRecord) × (count ≤ number)

-- A lookup of another record, if there is one, is refused if the directory was made for fewer
-- records.
abbrev pub OtherIsRefused : ℕ → Option ℕ → IocError → Type 0
OtherIsRefused count other error = (error ≡ NoRecord) × ((o : ℕ) × (other ≡ Some o) × (count ≤ o))

-- A link change is refused if the directory was made for fewer records than either number.
abbrev pub LinkIsRefused : ℕ → ℕ → Option ℕ → IocError → Type 0
LinkIsRefused count number other error = IsRefused count number error ⊎ OtherIsRefused count other error

-- Holds if the directory was made for a record, and for the other one, if there is one.
abbrev pub AreKnown : ℕ → ℕ → Option ℕ → Type 0
AreKnown count number other = (number < count) × IfSome other (λ o. o < count)

-- The sets that a link change works on: the first has the record. The other record, if there is
-- one, is in the first set too, or in the second. A set that isn't that of a named record has no
-- records.
pub record AreLent {S : Type 0} (numbers : S → List ℕ) (number : ℕ) (other : Option ℕ) (first second spare : S) : Type 0 where
  pub here : Contains (numbers first) number
  pub there : IfSome other (λ o. (Contains (numbers first) o × (numbers second ≡ [])) ⊎ Contains (numbers second) o)
  pub alone : IfNone other (numbers second ≡ [])
  pub none : numbers spare ≡ []

-- The invariant of each of the three sets.
pub record AreSound {S : Type 0} (sound : S → Type 0) (first second spare : S) : Type 0 where
  pub of_first : sound first
  pub of_second : sound second
  pub of_spare : sound spare
