-- A change of a record's place on the scan lists sends an item and numbers it; everything else
-- stays unchanged.
use Rattle.std.proofs.Common.{ℕ, ◌+◌, ◌-◌, ◌^◌, true, false, cond, List}
use Rattle.std.specs.Prelude.{nat_lt, nat_eq}
use Rattle.std.specs.Cmp.Lexicographic.{pointwise}
use Rattle.ioc_fields.specs.declared.field_no.FieldNo.{FieldNo}
use Rattle.ioc_dbcommon.specs.Steps.{change_numbered}
use Rattle.ioc_record.specs.RecordRules.{RecordRules}
use Rattle.ioc_store.specs.declared.outbox.OutboxItem.{OutboxItem}
use Rattle.ioc_store.specs.declared.outbox.OutboxItem.TheVariants.{Change}
use Rattle.ioc_store.specs.World.{World, at, common_at, changed, sent, lost}
use Rattle.ioc_store.specs.Scanning.{places_record, device_of, moved, rescanned, rewired}

-- A property of a world and of the world with record `n` moved holds after a put to any field.
pub rescanned-either : {R : Type 0} (k : RecordRules R) (P : World R → Type 0) (w : World R) (n : ℕ) (field : FieldNo) → P w → P (moved k w n) → P (rescanned k w n field)
unfolding rescanned
rescanned-either k P w n field here there = elim (places_record field) as (λ b. P (cond b (moved k w n) w)) [
  | true ↦ there
  | false ↦ here
]

pub rewired-either : {R : Type 0} (k : RecordRules R) (P : World R → Type 0) (before : List ℕ) (w : World R) (n : ℕ) → P w → P (moved k w n) → P (rewired k before w n)
unfolding rewired
rewired-either k P before w n here there = elim (pointwise nat_eq before (device_of k (at k w n))) as (λ b. P (cond b w (moved k w n))) [
  | true ↦ here
  | false ↦ there
]

-- A property holds after a move if it holds in both cases: the item is sent, or it is dropped.
pub moved-either : {R : Type 0} (k : RecordRules R) (P : World R → Type 0) (w : World R) (n : ℕ)
    → ((item : OutboxItem) → P (sent item (changed k w n change_numbered))) → P (lost w) → P (moved k w n)
unfolding moved
moved-either k P w n sends loses =
    let last = (common_at k w n).last_change in
    elim (nat_lt last (2 ^ 64 - 1)) as (λ b. P (cond b (sent (Change (record { target = n; number = last + 1; scanning = (common_at k w n).scanning; device = device_of k (at k w n) })) (changed k w n change_numbered)) (lost w))) [
      | true ↦ sends _
      | false ↦ loses
    ]
