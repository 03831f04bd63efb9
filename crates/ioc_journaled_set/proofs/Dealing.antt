-- Keys that are divided among two sets, and what the sets know then.
use Rattle.std.proofs.Common.{◌≡◌, ℕ, false, true, List, ◌++◌, Option, None, refl, sym, ap, ◌∙◌, subst, inl, inr, ⊎_elim}
use Rattle.std.specs.Prelude.{IsSome, is_some}
use Rattle.std.specs.FinMap.{get, keys}
use Rattle.atomic_table.specs.Seated.{TableId}
use Rattle.ioc_fields.specs.declared.field_no.FieldNo.{FieldNo}
use Rattle.ioc_dbcommon.specs.declared.link_field.LinkField.{LinkField}
use Rattle.ioc_record.specs.RecordRules.{RecordRules}
use Rattle.ioc_set_records.specs.Joined.{AreShared}
use Rattle.ioc_store.specs.World.{World, at}
use Rattle.ioc_journal.specs.declared.entry.Note.{Note}
use Rattle.ioc_journal.specs.declared.cell.View.{View}
use Rattle.ioc_journal.specs.Key.{Key, Has}
use Rattle.ioc_journal.specs.KeyLaws.{has_either, record_kind}
use Rattle.ioc_journal.specs.Line.{Continues, holder}
use Rattle.ioc_journal.specs.Legal.{IsLegal, IsSound, map_of}
use Rattle.ioc_journal.specs.Covering.{Cover}
use Rattle.ioc_journal.specs.Laws.{GoesOn}
use Rattle.ioc_journal.specs.Counting.{BothMaySend, sent_counts}
use Rattle.ioc_journal.proofs.Dropping.{links-drop, link-sends_after}
use Rattle.ioc_journal.specs.LinkChange.{link_note}
use Rattle.ioc_journal.specs.Account.{IsHolder, AreRecords, BothMayFollow, AddedByBoth}
use Rattle.ioc_set.specs.SetState.{SetState, now_of}
use Rattle.ioc_journaled_set.specs.Holding.{IsOwner}
use Rattle.ioc_journaled_set.specs.LinkChanges.{keys_of, link_change}
use Rattle.ioc_journaled_set.proofs.Keys.{key_there, there_key, record_contains, contains_record}

pub none_some : {A : Type 0} (o : Option A) → o ≡ None → IsSome o → ⊥
none_some {A = A} o none some = let h : false ≡ true = sym (ap (λ (p : Option A). is_some p) none) ∙ some in cc

-- An entry of one of two maps that share a map is in the shared map, and not in the other.
module _ {X : Type 0} (f g h : ℕ → Option X) (shared : AreShared f g h) (q : ℕ) where
  pub of_first : IsSome (g q) → IsSome (f q)
  of_first some = elim (shared q) [
    | inl p ↦ subst (λ (o : Option X). IsSome o) p.0 some
    | inr p ↦ absurd (none_some (g q) p.0 some)
  ]

  pub of_other : IsSome (h q) → IsSome (f q)
  of_other some = elim (shared q) [
    | inl p ↦ absurd (none_some (h q) p.1 some)
    | inr p ↦ subst (λ (o : Option X). IsSome o) p.1 some
  ]

  pub not_both : IsSome (g q) → IsSome (h q) → ⊥
  not_both one other = elim (shared q) [
    | inl p ↦ none_some (h q) p.1 other
    | inr p ↦ none_some (g q) p.0 one
  ]

module _ {R D : Type 0} where
  own_record : (h : SetState R D) (key : Key) → Has key (keys_of h) → IsSome (get h.records key.1)
  own_record h key has = key_there h.records key.1 (record_contains key (keys h.records) has)

  as_record : (h : SetState R D) (key : Key) → Has key (keys_of h) → (0, key.1) ≡ key
  as_record h key has = ap (λ (x : ℕ). (x, key.1)) (sym (record_kind key (keys h.records) has))

  -- The keys of two sets are owned if the key of each of their records is.
  pub dealt_within : (stay rest : SetState R D) (owns : List Key) → ((q : ℕ) → IsSome (get stay.records q) → Has (0, q) owns) → ((q : ℕ) → IsSome (get rest.records q) → Has (0, q) owns)
      → (key : Key) → Has key (keys_of stay ++ keys_of rest) → Has key owns
  dealt_within stay rest owns one other key has =
      ⊎_elim
      (λ (x : Has key (keys_of stay)). subst (λ (p : Key). Has p owns) (as_record stay key x) (one key.1 (own_record stay key x)))
      (λ (y : Has key (keys_of rest)). subst (λ (p : Key). Has p owns) (as_record rest key y) (other key.1 (own_record rest key y)))
      (has_either key (keys_of stay) (keys_of rest) has)

  -- Sets without a common record have no common key.
  pub dealt_apart : (stay rest : SetState R D) → ((q : ℕ) → IsSome (get stay.records q) → IsSome (get rest.records q) → ⊥) → (key : Key) → Has key (keys_of stay) → Has key (keys_of rest) → ⊥
  dealt_apart stay rest apart key x y = apart key.1 (own_record stay key x) (own_record rest key y)

  -- A pass to which the keys of a set were assigned is the owner of its records.
  pub dealt_owner : (table id : TableId) (v : View) (seen : List Note) (h : SetState R D) → id ≡ table → v ≡ holder seen (keys_of h) → IsOwner table id v (now_of h)
  dealt_owner table id v seen h same is = record {
    same = same;
    holder = subst (λ (x : View). IsHolder x) (sym is) refl;
    records = subst (λ (x : View). AreRecords x.owns) (sym is) (λ key has. record_kind key (keys h.records) has);
    covers = subst (λ (x : View). Cover x.owns (now_of h)) (sym is) (λ n has. contains_record n (keys h.records) (there_key h.records n has));
  }

-- A link change that may follow what two passes have seen, and what is known after it.
module _ {R : Type 0} (k : RecordRules R) (base : World R) (moment s : ℕ) (field : FieldNo) (link : LinkField) (seen : List Note) (owned : List Key) (also_seen : List Note) (also_owned : List Key)
    (Known : World R → Type 0)
    (goes : (log : List Note) (desk call : ℕ) (own : List Key) → IsSound k base → Continues seen owned log → Continues also_seen also_owned log → IsLegal k base log
    → GoesOn k base log (link_note desk call moment s field link ((owned ++ also_owned) ++ own)) Known) where
  pub both_may_follow : BothMayFollow k base seen owned also_seen also_owned (link_change moment s field link)
  both_may_follow log desk call own sound go also legal = (goes log desk call own sound go also legal).legal

  -- It sends no once request, and drops what its record tells.
  pub both_may_send : (dropped : ℕ) → ((log : List Note) → Continues seen owned log → IsLegal k base log → dropped ≡ links-drop k (at k (map_of k base log) s) field link)
      → BothMaySend k base seen owned also_seen also_owned (link_change moment s field link) (sent_counts 0 dropped)
  both_may_send dropped drops log desk call own sound go also legal =
      ap (λ (n : ℕ). sent_counts 0 n) (drops log go legal)
      ∙ sym (link-sends_after k base log desk call moment s field link ((owned ++ also_owned) ++ own) (goes log desk call own sound go also legal).legal)

  pub known_then : (log longer : List Note) → AddedByBoth k base seen owned also_seen also_owned (link_change moment s field link) log longer → Known (map_of k base longer)
  known_then log longer added =
      subst (λ (l : List Note). Known (map_of k base l)) (sym added.ends) (goes log added.desk added.call added.own added.sound added.goes_on added.also_goes_on added.legal).known
