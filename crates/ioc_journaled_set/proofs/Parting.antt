-- What a set knows after a link change within it.
use Rattle.std.proofs.Common.{◌≡◌, ℕ, false, true, List, ◌++◌, Option, sym, ap, ◌∙◌, subst}
use Rattle.std.specs.Prelude.{Contains, IsSome, is_some, unwrap_or}
use Rattle.std.specs.FinMap.{get}
use Rattle.ioc_fields.specs.declared.field_no.FieldNo.{FieldNo}
use Rattle.ioc_dbcommon.specs.declared.link_field.LinkField.{LinkField}
use Rattle.ioc_dbcommon.specs.Links.{use_of, named_by}
use Rattle.ioc_record.specs.RecordRules.{RecordRules}
use Rattle.ioc_record.specs.Values.{stops_put}
use Rattle.ioc_set_records.specs.Joined.{HasLink}
use Rattle.ioc_store.specs.World.{World, Has, at, common_at, begun, begun_at, put, changed, lost}
use Rattle.ioc_store.specs.Scanning.{device_of, moved, rewired}
use Rattle.ioc_store.specs.ScanLaws.{rewired-either, moved-either}
use Rattle.ioc_store.specs.Worlds.{sent_by, has-put, has-put_back}
use Rattle.ioc_journal.specs.declared.entry.Note.{Note}
use Rattle.ioc_journal.specs.Key.{Key}
use Rattle.ioc_journal.specs.KeyLaws.{has_left}
use Rattle.ioc_journal.specs.Line.{Continues}
use Rattle.ioc_journal.specs.Legal.{IsLegal, IsSound, key_of, map_of}
use Rattle.ioc_journal.specs.Covering.{Holds, Cover}
use Rattle.ioc_journal.specs.Laws.{Lasts, GoesOn}
use Rattle.ioc_journal.specs.LinkChange.{TakesLink, link_note}
use Rattle.ioc_journaled_set.specs.LinkLaws.{SetsPart}
use Rattle.ioc_set.specs.SetState.{SetState, now_of}
use Rattle.ioc_set.specs.Sound.{IsSound as IsSound-set}
use Rattle.ioc_set.specs.Linking.{FallsApart, link_change_of}
use Rattle.ioc_journal.specs.Key.{Has as Has_key}
use Rattle.ioc_journal.proofs.Dropping.{links-drop, changed-drops}
use Rattle.ioc_set.specs.Doing.{with_kept}
use Rattle.ioc_journaled_set.specs.Holding.{KeepsDevices}
use Rattle.ioc_journaled_set.specs.LinkChanges.{keys_of}
use Rattle.ioc_journaled_set.proofs.Dealing.{of_first, of_other, not_both, dealt_within, dealt_apart}
use Rattle.ioc_journaled_set.proofs.Devices.{first_has, other_has}
use Rattle.ioc_journaled_set.proofs.Serving.{holds_on}

module _ {R : Type 0} (k : RecordRules R) where
  moved_back : (w : World R) (s q : ℕ) → Has w s → Has (moved k w s) q → Has w q
  unfolding changed lost
  moved_back w s q there =
      moved-either k (λ (x : World R). Has x q → Has w q) w s
      (λ item has. has-put_back k w s q _ there (subst (λ (x : World R). Has x q) (sym (sent_by item _)) has))
      (λ has. has)

  -- A change of a scan list adds no record.
  pub rewired_back : (device : List ℕ) (w : World R) (s q : ℕ) → Has w s → Has (rewired k device w s) q → Has w q
  rewired_back device w s q there = rewired-either k (λ (x : World R). Has x q → Has w q) device w s (λ has. has) (moved_back w s q there)

  pub begun_there : (w : World R) (moment n : ℕ) → Has w n → Has (begun_at moment w) n
  unfolding begun_at begun
  begun_there w moment n has = has

  pub begun_back : (w : World R) (moment n : ℕ) → Has (begun_at moment w) n → Has w n
  unfolding begun_at begun
  begun_back w moment n has = has

  -- A link field that may be put takes another link.
  pub takes_link : {D : Type 0} (h : SetState R D) (s : ℕ) (field : FieldNo) → HasLink k h.records s field → stops_put (common_at k (now_of h) s) field ≡ false → TakesLink k (now_of h) s field
  unfolding at
  takes_link h s field has allowed = record {
    there = ap (λ (o : Option R). is_some o) has.1;
    has_link = subst (λ (o : Option R). is_some (k.link (unwrap_or o k.missing) field) ≡ true) (sym has.1) has.2;
    allowed = allowed;
  }

-- The record of a held set is the one of all records, after whatever list.
module _ {R : Type 0} (k : RecordRules R) (lasts : Lasts k) (base v : World R) (seen : List Note) (owned : List Key) (covers : Cover owned v) (holds : Holds k (map_of k base seen) v) (s : ℕ) (there : Has v s) where
  known_record : (log : List Note) → Continues seen owned log → IsLegal k base log → at k (map_of k base log) s ≡ at k v s
  unfolding at
  known_record log go legal = ap (λ (o : Option R). unwrap_or o k.missing) ((holds_on k lasts base v seen owned covers holds log go legal).records s there)

  pub known_drops : (field : FieldNo) (link : LinkField) (dropped : ℕ) → dropped ≡ links-drop k (at k v s) field link
      → (log : List Note) → Continues seen owned log → IsLegal k base log → dropped ≡ links-drop k (at k (map_of k base log) s) field link
  known_drops field link dropped is log go legal = is ∙ ap (λ (r : R). links-drop k r field link) (sym (known_record log go legal))

module _ {R D : Type 0} (k : RecordRules R) (before stay rest : SetState R D) (moment s : ℕ) (field : FieldNo) (link : LinkField) (takes : TakesLink k (now_of before) s field)
    (falls : FallsApart before (link_change_of k before moment s field link).records s stay rest) where
  abbrev begins : World R
  begins = begun_at moment (now_of before)

  pub was_there : (q : ℕ) → Has (link_change_of k before moment s field link) q → Has (now_of before) q
  was_there q has =
      let there = begun_there k (now_of before) moment s takes.there in
      let with_link = k.with_link (at k begins s) field link in
      begun_back k (now_of before) moment q (has-put_back k begins s q with_link there
      (rewired_back k (device_of k (at k begins s)) (put begins s with_link) s q (has-put k begins s s with_link there) has))

  module _ (owned also : List Key) (covers : Cover owned (now_of before)) where
    owned_there : (q : ℕ) → Has (link_change_of k before moment s field link) q → Has_key (0, q) (owned ++ also)
    owned_there q has = has_left (key_of q) owned also (covers q (was_there q has))

    pub part_within : (key : Key) → Has_key key (keys_of stay ++ keys_of rest) → Has_key key (owned ++ also)
    part_within =
        let all = (link_change_of k before moment s field link).records in
        dealt_within stay rest (owned ++ also)
        (λ q some. owned_there q (of_first (get all) (get stay.records) (get rest.records) falls.shared q some))
        (λ q some. owned_there q (of_other (get all) (get stay.records) (get rest.records) falls.shared q some))

  -- The change drops what its record tells.
  pub part_drops : (come_to : World R) (dropped : ℕ) → dropped ≡ come_to.dropped
      → with_kept (link_change_of k before moment s field link).records before.live before.waiting come_to ≡ link_change_of k before moment s field link
      → dropped ≡ links-drop k (at k (now_of before) s) field link
  part_drops come_to dropped is left = is ∙ ap (λ (w : World R). w.dropped) left ∙ changed-drops k (now_of before) moment s field link

  -- Devices go with their records.
  module _ (had : ℕ → Option D → Type 0) (keeps : KeepsDevices had before) where
    pub stay_keeps : ((q : ℕ) → IsSome (get rest.devices q) → IsSome (get rest.records q)) → KeepsDevices had stay
    stay_keeps own q has =
        let all = (link_change_of k before moment s field link).records in
        subst (λ (o : Option D). had q o)
        (sym (first_has (get before.devices) (get stay.devices) (get rest.devices) falls.devices q (λ there. not_both (get all) (get stay.records) (get rest.records) falls.shared q has (own q there))))
        (keeps q (was_there q (of_first (get all) (get stay.records) (get rest.records) falls.shared q has)))

    pub rest_keeps : ((q : ℕ) → IsSome (get stay.devices q) → IsSome (get stay.records q)) → KeepsDevices had rest
    rest_keeps own q has =
        let all = (link_change_of k before moment s field link).records in
        subst (λ (o : Option D). had q o)
        (sym (other_has (get before.devices) (get stay.devices) (get rest.devices) falls.devices q (λ there. not_both (get all) (get stay.records) (get rest.records) falls.shared q (own q there) has)))
        (keeps q (was_there q (of_other (get all) (get stay.records) (get rest.records) falls.shared q has)))

  pub part_apart : (key : Key) → Has_key key (keys_of stay) → Has_key key (keys_of rest) → ⊥
  part_apart = dealt_apart stay rest (λ q. not_both (get (link_change_of k before moment s field link).records) (get stay.records) (get rest.records) falls.shared q)

  module _ (lasts : Lasts k) (set_parts : SetsPart D k) (within : (t : ℕ) → Contains (named_by (use_of link)) t → IsSome (get before.records t))
      (stay_sound : IsSound-set k stay) (rest_sound : IsSound-set k rest)
      (base : World R) (seen : List Note) (owned : List Key) (also_seen : List Note) (also : List Key) (covers : Cover owned (now_of before)) (holds : Holds k (map_of k base seen) (now_of before)) where
    pub part_goes_on : (log : List Note) (desk call : ℕ) (own : List Key) → IsSound k base → Continues seen owned log → Continues also_seen also log → IsLegal k base log
        → GoesOn k base log (link_note desk call moment s field link ((owned ++ also) ++ own)) (λ m. Holds k m (now_of stay) × Holds k m (now_of rest))
    part_goes_on log desk call own sound go also_go legal =
        set_parts base log before stay rest desk call moment s field link ((owned ++ also) ++ own) sound legal (holds_on k lasts base (now_of before) seen owned covers holds log go legal)
        (λ r has. has_left (key_of r) (owned ++ also) own (has_left (key_of r) owned also (covers r has))) takes within falls stay_sound rest_sound
