-- Link changes of the engine. Application Developer's Guide, "Database Locking, Scanning, and
-- Processing": a changed link parts lock sets or joins them. The journal is this project's own.
use Rattle.std.specs.Prelude.{ℕ, ◌≡◌, ◌⊎◌, Option, Result, Contains}
use Rattle.ioc_values.specs.declared.error.IocError.{IocError}
use Rattle.ioc_values.specs.declared.error.IocError.TheVariants.{NoField, Stopped}
use Rattle.ioc_fields.specs.declared.field_no.FieldNo.{FieldNo}
use Rattle.ioc_dbcommon.specs.declared.link_field.LinkField.{LinkField}
use Rattle.ioc_dbcommon.specs.Links.{use_of, record_named}
use Rattle.ioc_record.specs.RecordRules.{RecordRules}
use Rattle.ioc_set_records.specs.Joined.{HasLink}
use Rattle.ioc_store.specs.World.{World}
use Rattle.ioc_journal.specs.Account.{DeskView}
use Rattle.ioc_journal.specs.Places.{IsNoPlace}
use Rattle.ioc_topology.specs.Change.{AreLent, AreSound, LinkIsRefused}
use Rattle.ioc_journaled_set.specs.Holding.{HeldView, numbers_of, IsSoundlyHeld}
use Rattle.ioc_journaled_set.specs.Changing.{Relinks}

-- The record that a link leads to, if there is one.
abbrev pub other_of : LinkField → Option ℕ
other_of link = record_named (use_of link)

module _ {R : Type 0} (D : Type 0) (k : RecordRules R) (base : World R) where
  -- A link change of a desk was done or refused on the sets of the record and of the record that
  -- the link leads to, which were sound before and are sound afterwards.
  pub record WasLinked (number : ℕ) (field : FieldNo) (link : LinkField) (desk : DeskView) (at_moment : ℕ) (reply : Result (Unit {0}) IocError) (moved : ℕ) (desk_then : DeskView) (come_to : World R) : Type 0 where
    pub first : HeldView R D
    pub second : HeldView R D
    pub spare : HeldView R D
    pub first_then : HeldView R D
    pub second_then : HeldView R D
    pub spare_then : HeldView R D
    pub lent : AreLent numbers_of number (other_of link) first second spare
    pub before : AreSound (IsSoundlyHeld k base) first second spare
    pub relinks : Relinks k base first second spare desk at_moment number field link reply moved first_then second_then spare_then desk_then come_to
    pub after : AreSound (IsSoundlyHeld k base) first_then second_then spare_then

  -- A sound set has the record, and the field is no link of it.
  pub record IsNoLink (number : ℕ) (field : FieldNo) : Type 0 where
    pub held : HeldView R D
    pub here : Contains (numbers_of held) number
    pub sound : IsSoundlyHeld k base held
    pub none : HasLink k held.set.records number field → ⊥

  -- The errors of a link change that isn't added to the journal: the engine was closed, the journal
  -- has no place left, allocation fails, there is no record with one of the numbers, or the field
  -- is no link.
  abbrev pub LinkWasRefused : ℕ → ℕ → FieldNo → LinkField → IocError → Type 0
  LinkWasRefused count number field link error =
      (error ≡ Stopped) ⊎ (IsNoPlace error ⊎ (LinkIsRefused count number (other_of link) error ⊎ ((error ≡ NoField) × IsNoLink number field)))
