-- Link changes of held lock sets. Application Developer's Guide, "Database Locking, Scanning, and
-- Processing": a changed link parts lock sets or joins them.
use Rattle.std.specs.Prelude.{◌≡◌, ℕ, List, [], ◌∷◌, IsSome, Contains, None}
use Rattle.std.specs.FinMap.{get}
use Rattle.ioc_fields.specs.declared.field_no.FieldNo.{FieldNo}
use Rattle.ioc_dbcommon.specs.declared.link_field.LinkField.{LinkField}
use Rattle.ioc_dbcommon.specs.Links.{use_of, named_by}
use Rattle.ioc_record.specs.RecordRules.{RecordRules}
use Rattle.ioc_store.specs.World.{World, Has}
use Rattle.ioc_journal.specs.declared.entry.Note.{Note}
use Rattle.ioc_journal.specs.Key.{Key}
use Rattle.ioc_journal.specs.Legal.{IsLegal, map_of}
use Rattle.ioc_journal.specs.Legal.{IsSound as IsSound-world}
use Rattle.ioc_journal.specs.Covering.{Holds, Cover}
use Rattle.ioc_journal.specs.LinkChange.{TakesLink, link_note}
use Rattle.ioc_journal.specs.Laws.{GoesOn}
use Rattle.ioc_set.specs.SetState.{SetState, now_of}
use Rattle.ioc_set.specs.Sound.{IsSound}
use Rattle.ioc_set.specs.Linking.{FallsApart, LeadsInto, MayBeOne, link_change_of}

module _ {R : Type 0} (D : Type 0) (k : RecordRules R) where
  -- If a link of a held set is changed to a record of the set, or to none, both resulting sets are
  -- held.
  abbrev pub SetsPart : Type 0
  SetsPart = (base : World R) (log : List Note) (before stay rest : SetState R D) (desk call moment s : ℕ) (field : FieldNo) (link : LinkField) (keys : List Key)
      → IsSound-world k base → IsLegal k base log → Holds k (map_of k base log) (now_of before) → Cover keys (now_of before)
      → TakesLink k (now_of before) s field → ((t : ℕ) → Contains (named_by (use_of link)) t → Has (now_of before) t)
      → FallsApart before (link_change_of k before moment s field link).records s stay rest → IsSound k stay → IsSound k rest
      → GoesOn k base log (link_note desk call moment s field link keys) (λ m. Holds k m (now_of stay) × Holds k m (now_of rest))

  -- Two held sets without a common record may be joined.
  abbrev pub SetsMayBeOne : Type 0
  SetsMayBeOne = (m : World R) (before other : SetState R D) → IsSound-world k m → IsSound k before → IsSound k other
      → Holds k m (now_of before) → Holds k m (now_of other) → ((q : ℕ) → IsSome (get before.records q) → get other.records q ≡ None)
      → MayBeOne before other

  -- If a link of a held set is changed to a record of another held set, the resulting sets are
  -- held.
  abbrev pub SetsLead : Type 0
  SetsLead = (base : World R) (log : List Note) (before other after other_then rest : SetState R D) (come_to : World R) (desk call moment s : ℕ) (field : FieldNo) (link : LinkField) (keys : List Key)
      → IsSound-world k base → IsLegal k base log → Holds k (map_of k base log) (now_of before) → Holds k (map_of k base log) (now_of other)
      → Cover keys (now_of before) → Cover keys (now_of other)
      → ((q : ℕ) → IsSome (get before.records q) → get other.records q ≡ None)
      → TakesLink k (now_of before) s field → (t : ℕ) × (named_by (use_of link) ≡ t ∷ []) × IsSome (get other.records t)
      → LeadsInto k before other moment s field link after other_then rest come_to → IsSound k rest
      → GoesOn k base log (link_note desk call moment s field link keys) (λ m. Holds k m (now_of after) × Holds k m (now_of rest))
