-- A link change of a record of one of three held sets: its result, where the records are
-- afterwards, and how many were moved. Application Developer's Guide, "Database Locking, Scanning,
-- and Processing": a changed link parts lock sets or joins them. That the smaller part is moved is
-- this project's own.
use Rattle.std.specs.Prelude.{◌≡◌, ◌⊎◌, ◌≤◌, ◌<◌, ◌+◌, ℕ, min, length, Result, Ok, Err}
use Rattle.std.specs.FinMap.{len}
use Rattle.ioc_values.specs.declared.error.IocError.{IocError}
use Rattle.ioc_values.specs.declared.error.IocError.TheVariants.{PutDisabled}
use Rattle.ioc_fields.specs.declared.field_no.FieldNo.{FieldNo}
use Rattle.ioc_dbcommon.specs.declared.link_field.LinkField.{LinkField}
use Rattle.ioc_record.specs.RecordRules.{RecordRules}
use Rattle.ioc_store.specs.World.{World}
use Rattle.ioc_journal.specs.Account.{DeskView}
use Rattle.ioc_journaled_set.specs.Holding.{HeldView, numbers_of}
use Rattle.ioc_journaled_set.specs.Watching.{IsSameSet}
use Rattle.ioc_journaled_set.specs.LinkChanges.{Parts, Leads, Refuses}

-- The number of records of a set.
abbrev pub size_of : {R D : Type 0} → HeldView R D → ℕ
size_of v = length (numbers_of v)

module _ {R D : Type 0} where
  -- The larger part of a set keeps its place, and the smaller one is moved.
  pub record KeepsLarger (stay rest first spare : HeldView R D) (moved : ℕ) : Type 0 where
    pub places : ((size_of rest ≤ size_of stay) × (first ≡ stay) × (spare ≡ rest)) ⊎ ((size_of stay < size_of rest) × (first ≡ rest) × (spare ≡ stay))
    pub count : moved ≡ min (size_of stay) (size_of rest)

  -- A part of `part` records was joined with another set of `other` records, and `rest` was left.
  -- If the part is the largest of the three, the other set came to its place; otherwise the part
  -- went to the place of the other. The records moved are those of the smaller of part and rest,
  -- and those of the smaller of part and other.
  pub record KeepsLargest (part other : ℕ) (joined emptied rest first second spare : HeldView R D) (moved : ℕ) : Type 0 where
    pub places : ((other ≤ part) × (size_of rest ≤ part) × (first ≡ joined) × (second ≡ emptied) × (spare ≡ rest))
        ⊎ (((part < other) ⊎ (part < size_of rest)) × (first ≡ rest) × (second ≡ joined) × (spare ≡ emptied))
    pub count : moved ≡ min part other + min part (size_of rest)

module _ {R D : Type 0} (k : RecordRules R) (base : World R) (first second spare : HeldView R D) (desk : DeskView) (at_moment number : ℕ) (field : FieldNo) (link : LinkField)
    (reply : Result (Unit {0}) IocError) (moved : ℕ) (first_then second_then spare_then : HeldView R D) (desk_then : DeskView) (come_to : World R) where
  -- The first set was parted in two, or is still one part.
  pub record FellApart : Type 0 where
    pub stay : HeldView R D
    pub rest : HeldView R D
    pub parts : Parts k base first desk at_moment number field link stay rest desk_then come_to
    pub places : KeepsLarger stay rest first_then spare_then moved
    pub beside : IsSameSet second_then second
    pub done : reply ≡ Ok tt

  -- The record's part of the first set was joined with the second.
  pub record WasLed : Type 0 where
    pub joined : HeldView R D
    pub emptied : HeldView R D
    pub rest : HeldView R D
    pub leads : Leads k base first second desk at_moment number field link joined emptied rest desk_then come_to
    pub places : KeepsLargest (len leads.leads.stay.records) (size_of second) joined emptied rest first_then second_then spare_then moved
    pub done : reply ≡ Ok tt

  -- DISP forbids the change, and no set has changed.
  pub record WasRefused : Type 0 where
    pub refuses : Refuses k base first desk at_moment number field link first_then desk_then
    pub beside : IsSameSet second_then second
    pub none : IsSameSet spare_then spare
    pub unmoved : moved ≡ 0
    pub refused : reply ≡ Err PutDisabled

  -- The record's link was changed, or the change was refused.
  abbrev pub Relinks : Type 0
  Relinks = FellApart ⊎ (WasLed ⊎ WasRefused)
