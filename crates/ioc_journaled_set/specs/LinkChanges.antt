-- Link changes of journaled sets, and their entries in the journal. Application Developer's Guide,
-- "Database Locking, Scanning, and Processing": a changed link parts lock sets or joins them. The
-- journal is this project's own.
use Rattle.std.specs.Prelude.{◌≡◌, ℕ, true, List, Ok, Err}
use Rattle.std.specs.FinMap.{keys}
use Rattle.ioc_values.specs.declared.error.IocError.TheVariants.{PutDisabled}
use Rattle.ioc_fields.specs.declared.field_no.FieldNo.{FieldNo}
use Rattle.ioc_dbcommon.specs.declared.link_field.LinkField.{LinkField}
use Rattle.ioc_record.specs.RecordRules.{RecordRules}
use Rattle.ioc_record.specs.Values.{stops_put}
use Rattle.ioc_store.specs.World.{World, Has, common_at}
use Rattle.ioc_events.specs.declared.event.Call.TheVariants as call
use Rattle.ioc_events.specs.declared.event.Entry.{Entry}
use Rattle.ioc_journal.specs.declared.entry.Note.{Note}
use Rattle.ioc_journal.specs.Key.{Key, record_keys}
use Rattle.ioc_journal.specs.Legal.{map_of}
use Rattle.ioc_journal.specs.Account.{DeskView, HasCalled}
use Rattle.ioc_set.specs.SetState.{SetState, now_of}
use Rattle.ioc_set.specs.Doing.{with_kept}
use Rattle.ioc_set.specs.Linking.{FallsApart, LeadsInto, link_change_of}
use Rattle.ioc_journaled_set.specs.Holding.{HeldView}
use Rattle.ioc_journaled_set.specs.Puts.{told_at}

-- The entry of a link change that is done.
abbrev pub link_change : (moment number : ℕ) → FieldNo → LinkField → Entry
link_change moment number field link = told_at moment (call.Link number field link (Ok tt))

-- The entry of a link change that DISP forbids.
abbrev pub link_refusal : (moment number : ℕ) → FieldNo → LinkField → Entry
link_refusal moment number field link = told_at moment (call.Link number field link (Err PutDisabled))

-- The keys of a set's records.
abbrev pub keys_of : {R D : Type 0} → SetState R D → List Key
keys_of h = record_keys (keys h.records)

-- Holds if there is a record with this number after some calls, and so after all, because calls add
-- and remove no record.
abbrev pub IsKnown : {R : Type 0} → RecordRules R → World R → ℕ → Type 0
IsKnown k base n = (seen : List Note) × Has (map_of k base seen) n

module _ {R D : Type 0} (k : RecordRules R) (base : World R) where
  -- A link change of a set is refused because DISP of its record forbids it. The set is unchanged,
  -- and the refusal is the last call of the legal list that desk and set have seen afterwards.
  pub record Refuses (held : HeldView R D) (desk : DeskView) (moment number : ℕ) (field : FieldNo) (link : LinkField) (held_then : HeldView R D) (desk_then : DeskView) : Type 0 where
    pub forbidden : stops_put (common_at k (now_of held.set) number) field ≡ true
    pub set : held_then.set ≡ held.set
    pub call : HasCalled k base desk (link_refusal moment number field link) desk_then
    pub seen : held_then.seen ≡ desk_then.seen

  -- A link of a set is changed to a record of the set, or to none, and the set parts in two. What
  -- was sent is left in the buffers, and the call is the last of the legal list that the desk and
  -- both sets have seen afterwards.
  pub record Parts (held : HeldView R D) (desk : DeskView) (moment number : ℕ) (field : FieldNo) (link : LinkField) (held_then rest : HeldView R D) (desk_then : DeskView) (come_to : World R) : Type 0 where
    pub falls : FallsApart held.set (link_change_of k held.set moment number field link).records number held_then.set rest.set
    pub sent : with_kept (link_change_of k held.set moment number field link).records held.set.live held.set.waiting come_to ≡ link_change_of k held.set moment number field link
    pub call : HasCalled k base desk (link_change moment number field link) desk_then
    pub seen : held_then.seen ≡ desk_then.seen
    pub seen_of_rest : rest.seen ≡ desk_then.seen

  -- A link of a set is changed to a record of another set, which joins it, and the records that
  -- only the old link connected part from it. What was sent is left in the buffers, and the call is
  -- the last of the legal list that the desk and both sets have seen afterwards.
  pub record Leads (held other : HeldView R D) (desk : DeskView) (moment number : ℕ) (field : FieldNo) (link : LinkField) (held_then other_then rest : HeldView R D) (desk_then : DeskView) (come_to : World R) : Type 0 where
    pub leads : LeadsInto k held.set other.set moment number field link held_then.set other_then.set rest.set come_to
    pub call : HasCalled k base desk (link_change moment number field link) desk_then
    pub seen : held_then.seen ≡ desk_then.seen
    pub seen_of_rest : rest.seen ≡ desk_then.seen
