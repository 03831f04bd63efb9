-- What two sets know after a link change that leads from one into the other.
use Rattle.std.proofs.Common.{◌≡◌, ◌⊎◌, ℕ, List, [], ◌∷◌, ◌++◌, Option, None, sym, ap, ◌∙◌, subst, inl, inr, ⊎_elim}
use Rattle.std.specs.Prelude.{IsSome, unwrap_or}
use Rattle.std.specs.FinMap.{get, insert}
use Rattle.ioc_fields.specs.declared.field_no.FieldNo.{FieldNo}
use Rattle.ioc_dbcommon.specs.declared.link_field.LinkField.{LinkField}
use Rattle.ioc_dbcommon.specs.Links.{no_link, use_of, named_by}
use Rattle.ioc_record.specs.Laws.{IsLawful}
use Rattle.ioc_record.specs.RecordRules.{RecordRules}
use Rattle.ioc_journal.proofs.Dropping.{links-drop, rewires-drop, begun-rewired-drops}
use Rattle.ioc_set_records.specs.Contents.{Records, record_at}
use Rattle.ioc_set_records.specs.Joined.{relinked}
use Rattle.ioc_store.specs.World.{World, at, begun_at, put}
use Rattle.ioc_store.specs.Scanning.{device_of}
use Rattle.ioc_store.specs.Worlds.{at-put_same, has-put, has-put_back}
use Rattle.ioc_journal.specs.declared.entry.Note.{Note}
use Rattle.ioc_journal.specs.declared.cell.View.{View}
use Rattle.ioc_journal.specs.Key.{Key, Has as Has_key}
use Rattle.ioc_journal.specs.KeyLaws.{has_left, has_right}
use Rattle.ioc_journal.specs.Line.{Continues, holder}
use Rattle.ioc_journal.specs.Legal.{IsLegal, IsSound, key_of, map_of}
use Rattle.ioc_journal.specs.Covering.{Holds, Cover}
use Rattle.ioc_journal.specs.Laws.{Lasts, GoesOn, StaysSound}
use Rattle.ioc_journal.specs.LinkChange.{TakesLink, link_note}
use Rattle.ioc_journaled_set.specs.LinkLaws.{SetsLead, SetsMayBeOne}
use Rattle.ioc_journal.specs.Account.{AreKnown}
use Rattle.ioc_set.specs.SetState.{SetState, now_of}
use Rattle.ioc_set.specs.Resting.{resting}
use Rattle.ioc_set.specs.Sound.{IsSound as IsSound-set}
use Rattle.ioc_set.specs.Linking.{LeadsInto, MayBeOne}
use Rattle.ioc_journaled_set.specs.LinkChanges.{keys_of}
use Rattle.ioc_journaled_set.specs.Holding.{KeepsDevices}
use Rattle.ioc_journaled_set.proofs.Dealing.{none_some, of_first, of_other, not_both, dealt_within, dealt_apart}
use Rattle.ioc_journaled_set.proofs.Devices.{not_some, first_has, other_has}
use Rattle.ioc_journaled_set.proofs.Parting.{rewired_back, begun_there, begun_back}
use Rattle.ioc_journaled_set.proofs.Serving.{holds_on}

abbrev AreOwned : {R D : Type 0} → SetState R D → Type 0
AreOwned h = (q : ℕ) → IsSome (get h.devices q) → IsSome (get h.records q)

module _ {R : Type 0} (k : RecordRules R) (s q : ℕ) (rs : Records R) (r : R) (own : IsSome (get rs s)) where
  -- Setting a record that is there adds no record.
  set_back : IsSome (get (insert rs s r) q) → IsSome (get rs q)
  unfolding put
  set_back has = has-put_back k (resting rs [] []) s q r own has

  set_there : IsSome (get rs q) → IsSome (get (insert rs s r) q)
  unfolding put
  set_there has = has-put k (resting rs [] []) s q r has

module _ {R D : Type 0} (k : RecordRules R) (before other after other_then rest : SetState R D) (moment s : ℕ) (field : FieldNo) (link : LinkField) (come_to : World R) (takes : TakesLink k (now_of before) s field)
    (led : LeadsInto k before other moment s field link after other_then rest come_to) (apart : (q : ℕ) → IsSome (get before.records q) → get other.records q ≡ None) where
  abbrev freed : Records R
  freed = relinked k before.records s field no_link

  abbrev linked : Records R
  linked = relinked k led.stay.records s field link

  stayed : (q : ℕ) → IsSome (get led.stay.records q) → IsSome (get before.records q)
  stayed q has = set_back k s q before.records _ takes.there (of_first (get freed) (get led.stay.records) (get rest.records) led.falls.shared q has)

  fell : (q : ℕ) → IsSome (get rest.records q) → IsSome (get before.records q)
  fell q has = set_back k s q before.records _ takes.there (of_other (get freed) (get led.stay.records) (get rest.records) led.falls.shared q has)

  pub own_in_both : IsSome (get led.both.records s)
  own_in_both = elim (led.joins.shared s) [
    | inl p ↦ subst (λ (o : Option R). IsSome o) p.0 (set_there k s s led.stay.records _ led.falls.own led.falls.own)
    | inr p ↦ absurd (none_some (get linked s) p.0 (set_there k s s led.stay.records _ led.falls.own led.falls.own))
  ]

  joined : (q : ℕ) → IsSome (get led.both.records q) → IsSome (get led.stay.records q) ⊎ IsSome (get other.records q)
  joined q has = elim (led.joins.shared q) [
    | inl p ↦ inl (set_back k s q led.stay.records _ led.falls.own (subst (λ (o : Option R). IsSome o) (sym p.0) has))
    | inr p ↦ inr (subst (λ (o : Option R). IsSome o) (sym p.1) has)
  ]

  led_back : (q : ℕ) → IsSome (get after.records q) → IsSome (get led.stay.records q) ⊎ IsSome (get other.records q)
  led_back q has =
      joined q (begun_back k (now_of led.both) moment q
      (rewired_back k (device_of k (record_at k before.records s)) (begun_at moment (now_of led.both)) s q (begun_there k (now_of led.both) moment s own_in_both)
      (subst (λ (x : Records R). IsSome (get x q)) (ap (λ (w : World R). w.records) led.sent) has)))

  -- The record of the change has its new link in the joined set.
  stay_record : record_at k led.stay.records s ≡ k.with_link (record_at k before.records s) field no_link
  unfolding at put
  stay_record = elim (led.falls.shared s) [
    | inl p ↦ ap (λ (o : Option R). unwrap_or o k.missing) p.0 ∙ at-put_same k (now_of before) s (k.with_link (record_at k before.records s) field no_link)
    | inr p ↦ absurd (none_some (get led.stay.records s) p.0 led.falls.own)
  ]

  both_record : record_at k led.both.records s ≡ k.with_link (record_at k led.stay.records s) field link
  unfolding at put
  both_record = elim (led.joins.shared s) [
    | inl p ↦ ap (λ (o : Option R). unwrap_or o k.missing) (sym p.0) ∙ at-put_same k (now_of led.stay) s (k.with_link (record_at k led.stay.records s) field link)
    | inr p ↦ absurd (none_some (get linked s) p.0 (set_there k s s led.stay.records _ led.falls.own led.falls.own))
  ]

  -- The change drops what its record tells.
  pub lead_drops : IsLawful k → (dropped : ℕ) → dropped ≡ come_to.dropped → dropped ≡ links-drop k (at k (now_of before) s) field link
  unfolding at
  lead_drops lawful dropped is =
      let text = device_of k (record_at k before.records s) in
      is ∙ ap (λ (w : World R). w.dropped) led.sent ∙ begun-rewired-drops k text (now_of led.both) moment s
      ∙ ap (λ (r : R). rewires-drop k text r 0 [])
      (both_record ∙ ap (λ (r : R). k.with_link r field link) stay_record ∙ lawful.set_twice (record_at k before.records s) field no_link link)

  pub lead_within : (owned also : List Key) → Cover owned (now_of before) → Cover also (now_of other) → (key : Key) → Has_key key (keys_of after ++ keys_of rest) → Has_key key (owned ++ also)
  lead_within owned also covers also_covers =
      dealt_within after rest (owned ++ also)
      (λ q has. ⊎_elim (λ a. has_left (key_of q) owned also (covers q (stayed q a))) (λ b. has_right (key_of q) owned also (also_covers q b)) (led_back q has))
      (λ q has. has_left (key_of q) owned also (covers q (fell q has)))

  pub lead_apart : (key : Key) → Has_key key (keys_of after) → Has_key key (keys_of rest) → ⊥
  lead_apart =
      dealt_apart after rest
      (λ q one two. ⊎_elim (λ a. not_both (get freed) (get led.stay.records) (get rest.records) led.falls.shared q a two) (λ b. none_some (get other.records q) (apart q (fell q two)) b) (led_back q one))

  -- Devices go with their records.
  module _ (had : ℕ → Option D → Type 0) (keeps : KeepsDevices had before) (others_keep : KeepsDevices had other) (own : AreOwned before) (others_own : AreOwned other) (owned_then : AreOwned after) (rest_own : AreOwned rest) where
    left_behind : (q : ℕ) → IsSome (get rest.records q) → IsSome (get led.stay.devices q) → ⊥
    left_behind q at_rest has = elim (led.joins.devices q) [
      | inl p ↦
          let there = subst (λ (o : Option D). IsSome o) (p.0 ∙ sym (ap (λ (h : SetState R D). get h.devices q) led.then_empty)) has in
          not_both (get freed) (get led.stay.records) (get rest.records) led.falls.shared q (⊎_elim (λ a. a) (λ b. absurd (none_some (get other.records q) (apart q (fell q at_rest)) b)) (led_back q (owned_then q there))) at_rest
      | inr p ↦ none_some (get led.stay.devices q) p.0 has
    ]

    pub rest_keeps : KeepsDevices had rest
    rest_keeps q has =
        subst (λ (o : Option D). had q o) (sym (other_has (get before.devices) (get led.stay.devices) (get rest.devices) led.falls.devices q (left_behind q has))) (keeps q (fell q has))

    stay_has : (q : ℕ) → IsSome (get led.stay.records q) → get led.stay.devices q ≡ get before.devices q
    stay_has q has = first_has (get before.devices) (get led.stay.devices) (get rest.devices) led.falls.devices q
        (λ there. not_both (get freed) (get led.stay.records) (get rest.records) led.falls.shared q has (rest_own q there))

    -- A device of the part that stays is of a record that the other set doesn't have.
    none_of_stay : (q : ℕ) → IsSome (get other.records q) → IsSome (get led.stay.devices q) → ⊥
    none_of_stay q at_other has = elim (led.falls.devices q) [
      | inl p ↦ none_some (get other.records q) (apart q (own q (subst (λ (o : Option D). IsSome o) p.0 has))) at_other
      | inr p ↦ none_some (get led.stay.devices q) p.0 has
    ]

    both_have : (q : ℕ) → IsSome (get led.stay.records q) ⊎ IsSome (get other.records q) → had q (get led.both.devices q)
    both_have q where_it_is = elim where_it_is [
      | inl a ↦
          let none : IsSome (get other.devices q) → ⊥ = λ there. none_some (get other.records q) (apart q (stayed q a)) (others_own q there) in
          subst (λ (o : Option D). had q o) (sym (stay_has q a) ∙ first_has (get led.both.devices) (get led.stay.devices) (get other.devices) led.joins.devices q none) (keeps q (stayed q a))
      | inr b ↦
          subst (λ (o : Option D). had q o) (other_has (get led.both.devices) (get led.stay.devices) (get other.devices) led.joins.devices q (none_of_stay q b)) (others_keep q b)
    ]

    pub after_keeps : KeepsDevices had after
    after_keeps q has = subst (λ (h : SetState R D). had q (get h.devices q)) (sym led.then_empty) (both_have q (led_back q has))

  module _ (lasts : Lasts k) (sets_lead : SetsLead D k)
      (to : (t : ℕ) × (named_by (use_of link) ≡ t ∷ []) × IsSome (get other.records t)) (rest_sound : IsSound-set k rest)
      (base : World R) (seen : List Note) (owned : List Key) (also_seen : List Note) (also : List Key) (covers : Cover owned (now_of before)) (holds : Holds k (map_of k base seen) (now_of before))
      (also_covers : Cover also (now_of other)) (also_holds : Holds k (map_of k base also_seen) (now_of other)) where
    pub lead_goes_on : (log : List Note) (desk call : ℕ) (own : List Key) → IsSound k base → Continues seen owned log → Continues also_seen also log → IsLegal k base log
        → GoesOn k base log (link_note desk call moment s field link ((owned ++ also) ++ own)) (λ m. Holds k m (now_of after) × Holds k m (now_of rest))
    lead_goes_on log desk call own sound go also_go legal =
        sets_lead base log before other after other_then rest come_to desk call moment s field link ((owned ++ also) ++ own) sound legal
        (holds_on k lasts base (now_of before) seen owned covers holds log go legal) (holds_on k lasts base (now_of other) also_seen also also_covers also_holds log also_go legal)
        (λ r has. has_left (key_of r) (owned ++ also) own (has_left (key_of r) owned also (covers r has)))
        (λ r has. has_left (key_of r) (owned ++ also) own (has_right (key_of r) owned also (also_covers r has)))
        apart takes to led rest_sound

-- A set that is held after the list that its pass has seen is held after a longer list without its
-- keys, which the pass has seen then.
pub holds_known : {R : Type 0} (k : RecordRules R) → Lasts k → (base w : World R) (old view : View) (log : List Note) → Cover old.owns w → Holds k (map_of k base old.seen) w → Continues old.seen old.owns log → IsLegal k base log
    → view ≡ holder log old.owns → Holds k (map_of k base view.seen) w
holds_known k lasts base w old view log covers holds go legal is =
    subst (λ (x : View). Holds k (map_of k base x.seen) w) (sym is) (holds_on k lasts base w old.seen old.owns covers holds log go legal)

-- Sets without a common key have no common record.
pub sets_apart : {R D : Type 0} (one other : SetState R D) (owned also : List Key) → Cover owned (now_of one) → Cover also (now_of other) → ((key : Key) → Has_key key owned → Has_key key also → ⊥)
    → (q : ℕ) → IsSome (get one.records q) → get other.records q ≡ None
sets_apart one other owned also covers also_covers apart q has = not_some (get other.records q) (λ there. apart (key_of q) (covers q has) (also_covers q there))

-- Two held sets without a common key may be joined, because the world that both know is sound.
pub sets_may_be_one : {R D : Type 0} (k : RecordRules R) → Lasts k → StaysSound k → SetsMayBeOne D k → (base : World R) (one other : SetState R D) → IsSound-set k one → IsSound-set k other
    → (v also one_then other_then : View) (log : List Note) → AreKnown k base v also log one_then other_then
    → Cover v.owns (now_of one) → Holds k (map_of k base v.seen) (now_of one) → Cover also.owns (now_of other) → Holds k (map_of k base also.seen) (now_of other)
    → ((key : Key) → Has_key key v.owns → Has_key key also.owns → ⊥) → MayBeOne one other
sets_may_be_one k lasts stays may_be_one base one other one_sound other_sound v also one_then other_then log known covers holds also_covers also_holds apart =
    let world = (stays base log known.sound).0 known.legal in
    let here = holds_on k lasts base (now_of one) v.seen v.owns covers holds log known.goes_on known.legal in
    let there = holds_on k lasts base (now_of other) also.seen also.owns also_covers also_holds log known.also_goes_on known.legal in
    may_be_one (map_of k base log) one other world one_sound other_sound here there (sets_apart one other v.owns also.owns covers also_covers apart)
