-- The contents of a lock set, by the numbers of its records.
use Rattle.std.specs.Prelude.{◌≡◌, ℕ, Option, Some, None, IsSome, is_some, unwrap_or, refl}
use Rattle.std.specs.Ordering.{nat_cmp}
use Rattle.std.specs.FinMap.{FinMap, get, insert, empty}
use Rattle.std.specs.FinMap as map
use Rattle.std.specs.Coded.{Coded, code_by, coded×, coded_ℕ}
use Rattle.ioc_record.specs.RecordRules.{RecordRules}

abbrev pub Records : Type 0 → Type 0
Records R = FinMap nat_cmp R

abbrev pub Devices : Type 0 → Type 0
Devices D = FinMap nat_cmp D

-- The records, the devices of those that have one, and the base: the records before the first event
-- of the history.
pub record Contents (R D : Type 0) : Type 0 where
  pub records : Records R
  pub devices : Devices D
  pub base : Records R

abbrev pub contents_code : {R D : Type 0} → Coded R → Coded D → Coded (Contents R D)
contents_code {R} {D} r d =
    code_by (Records R × (Devices D × Records R)) (coded× (map.code coded_ℕ r) (coded× (map.code coded_ℕ d) (map.code coded_ℕ r)))
    (λ c. (c.records, (c.devices, c.base))) (λ p. record { records = p.0; devices = p.1.0; base = p.1.1 }) (λ _. refl)

-- No record and no device.
abbrev pub nothing : {R D : Type 0} → Contents R D
nothing = record { records = empty; devices = empty; base = empty }

-- The record with this number.
abbrev pub record_at : {R : Type 0} → RecordRules R → Records R → ℕ → R
record_at k m n = unwrap_or (get m n) k.missing

-- The devices with that of one more record, if it has one.
abbrev pub with_device : {D : Type 0} → Devices D → ℕ → Option D → Devices D
with_device ds n None = ds
with_device ds n (Some d) = insert ds n d

-- Each device belongs to a record of the set.
abbrev pub DevicesAreOwned : {R D : Type 0} → Contents R D → Type 0
DevicesAreOwned c = (q : ℕ) → IsSome (get c.devices q) → IsSome (get c.records q)

-- The base has the same record numbers as the set.
abbrev pub BaseHasTheSame : {R D : Type 0} → Contents R D → Type 0
BaseHasTheSame c = (q : ℕ) → is_some (get c.base q) ≡ is_some (get c.records q)

-- Holds of two records of the same type with the same links.
pub record AreLike {R : Type 0} (k : RecordRules R) (one other : R) : Type 0 where
  pub same_type : k.record_type one ≡ k.record_type other
  pub same_links : k.link one ≡ k.link other

-- Each record has the type and the links of its base.
abbrev pub RecordsAreLikeTheirBase : {R D : Type 0} → RecordRules R → Contents R D → Type 0
RecordsAreLikeTheirBase k c = (q : ℕ) → IsSome (get c.records q) → AreLike k (record_at k c.base q) (record_at k c.records q)
