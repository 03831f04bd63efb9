-- How the links of a set's records join them.
--
-- Application Developer's Guide, "Database Locking, Scanning, and Processing": records that links
-- join are in one lock set.
use Rattle.std.specs.Prelude.{ℕ, List, ◌≡◌, ◌⊎◌, Option, Some, None, IsSome, is_some, true, [], Contains}
use Rattle.std.specs.Option.{option_map}
use Rattle.std.specs.FinMap.{get, insert}
use Rattle.ioc_fields.specs.declared.field_no.FieldNo.{FieldNo}
use Rattle.ioc_graph.specs.Paths.{Connected}
use Rattle.ioc_dbcommon.specs.declared.link_field.LinkField.{LinkField}
use Rattle.ioc_dbcommon.specs.Links.{named_by, named_by_field, use_of}
use Rattle.ioc_record.specs.RecordRules.{RecordRules, targets}
use Rattle.ioc_set_records.specs.Contents.{Records, record_at}

-- The records that the standing links of each record name; none if there is no such record.
abbrev pub Links : Type 0
Links = ℕ → Option (List ℕ)

abbrev pub links_of : {R : Type 0} → RecordRules R → Records R → Links
links_of k m n = option_map (targets k) (get m n)

-- Holds if a standing link of `a` names `b`.
abbrev pub Names : Links → ℕ → ℕ → Type 0
Names f a b = (named : List ℕ) × (f a ≡ Some named) × Contains named b

-- Holds if a standing link of either names the other.
abbrev pub Joined : Links → ℕ → ℕ → Type 0
Joined f a b = Names f a b ⊎ Names f b a

-- Holds if no link leaves the records.
abbrev pub IsClosed : Links → Type 0
IsClosed f = (a b : ℕ) → Names f a b → IsSome (f b)

-- Holds if the records are one connected part.
abbrev pub IsOnePart : Links → Type 0
IsOnePart f = (a b : ℕ) → IsSome (f a) → IsSome (f b) → Connected (Joined f) a b

-- The records are one connected part or none, and no link leaves them.
pub record IsPart (f : Links) : Type 0 where
  pub one_part : IsOnePart f
  pub closed : IsClosed f

-- What `f` has at a number, exactly one of `g` and `h` has, as it is in `f`, and neither has
-- anything else.
abbrev pub AreShared : {X : Type 0} → (ℕ → Option X) → (ℕ → Option X) → (ℕ → Option X) → Type 0
AreShared f g h = (q : ℕ) → ((g q ≡ f q) × (h q ≡ None)) ⊎ ((g q ≡ None) × (h q ≡ f q))

-- Holds if there is a record with this number, and the field is one of its link fields.
abbrev pub HasLink : {R : Type 0} → RecordRules R → Records R → ℕ → FieldNo → Type 0
HasLink {R} k m n field = (r : R) × (get m n ≡ Some r) × (is_some (k.link r field) ≡ true)

-- Holds if there is a record with this number, the field is one of its link fields, and its link
-- leads nowhere.
abbrev pub HasFreeLink : {R : Type 0} → RecordRules R → Records R → ℕ → FieldNo → Type 0
HasFreeLink {R} k m n field = (r : R) × (get m n ≡ Some r) × (is_some (k.link r field) ≡ true) × (named_by_field (k.link r field) ≡ [])

-- Holds if the field is a link field of the record, and the link, like the equal one of the base,
-- leads nowhere or to one of these records.
abbrev pub MayLink : {R : Type 0} → RecordRules R → Records R → ℕ → FieldNo → (link base_link : LinkField) → Type 0
MayLink k m n field link base_link = HasLink k m n field × ((t : ℕ) → Contains (named_by (use_of link)) t → IsSome (get m t)) × (base_link ≡ link)

-- The records with one link of one of them set.
abbrev pub relinked : {R : Type 0} → RecordRules R → Records R → ℕ → FieldNo → LinkField → Records R
relinked k m n field link = insert m n (k.with_link (record_at k m n) field link)
