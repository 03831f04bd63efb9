-- The result of the steps by which a link leads from one set into another.
use Rattle.std.proofs.Common.{◌≡◌, ◌≤◌, ℕ, nat_lt, Bool, true, false, cond, eqb, List, [], Option, Some, None, refl, sym, ap, subst, ◌∙◌, ⊎_elim, arith}
use Rattle.std.specs.Prelude.{IsSome, is_some, unwrap_or, Contains}
use Rattle.std.specs.FinMap.{get, insert}
use Rattle.std.proofs.lemmas.Grind.{common_steps}
use Rattle.ioc_fields.specs.declared.field_no.FieldNo.{FieldNo}
use Rattle.ioc_dbcommon.specs.declared.link_field.LinkField.{LinkField}
use Rattle.ioc_dbcommon.specs.Links.{no_link, use_of, named_by, named_by_field}
use Rattle.ioc_notify.specs.declared.live_numbers.Live.{Live}
use Rattle.ioc_notify.specs.Living.{is_live}
use Rattle.ioc_record.specs.RecordRules.{RecordRules}
use Rattle.ioc_events.specs.Holding.{IsHeld, holders, how_many}
use Rattle.ioc_record.specs.Laws.{IsLawful}
use Rattle.ioc_set_records.specs.Contents.{Records, record_at}
use Rattle.ioc_set_records.specs.Joined.{AreShared, HasLink, HasFreeLink, relinked}
use Rattle.ioc_store.specs.World.{World, at, begun_at}
use Rattle.ioc_store.specs.Scanning.{device_of, rewired}
use Rattle.ioc_set.specs.SetState.{SetState, NoneIsLive, now_of, folded}
use Rattle.ioc_set.specs.Doing.{with_kept}
use Rattle.ioc_set.specs.Linking.{with_empty_history, FallsApart, MayBeOne, BecomeOne, LeadsInto}
use Rattle.ioc_set.specs.Sound.{IsSound}
use Rattle.ioc_set.specs.Recounting.{AreLive}
use Rattle.ioc_set.proofs.Joining.{stay_may}
use Rattle.ioc_set.proofs.Linked.{stay_within}
use Rattle.ioc_events.proofs.Counting.{few-one}
use Rattle.ioc_set.proofs.Calm.{get-insert, none_in}
use Rattle.ioc_set.proofs.Entries.{none_some}

-- An empty link leads nowhere.
nowhere : named_by (use_of no_link) ≡ []
unfolding use_of
nowhere = refl

pub leads_nowhere : (link : LinkField) → link ≡ no_link → named_by (use_of link) ≡ []
leads_nowhere link is = ap (λ (l : LinkField). named_by (use_of l)) is ∙ nowhere

pub names_none : (link : LinkField) → link ≡ no_link → (t : ℕ) → Contains (named_by (use_of link)) t → ⊥
names_none link is t named = none_in t (subst (λ (l : List ℕ). Contains l t) (leads_nowhere link is) named)

module _ {R : Type 0} (k : RecordRules R) where
  some-before : (b : Bool) (x : R) (o : Option R) → (b ≡ true → IsSome o) → IsSome (cond b (Some x) o) → IsSome o
  some-before true x o here some = here refl
  some-before false x o here some = some

  -- Setting a link adds no record.
  set-before : (rs : Records R) (s q : ℕ) (x : R) → IsSome (get rs s) → IsSome (get (insert rs s x) q) → IsSome (get rs q)
  set-before rs s q x there some =
      some-before (eqb q s) x (get rs q)
      (λ is. let e : q ≡ s = grind (arith, common_steps) in subst (λ (n : ℕ). IsSome (get rs n)) (sym e) there)
      (subst (λ (o : Option R). IsSome o) (get-insert k rs s x q) some)

  set-here : (rs : Records R) (s : ℕ) (x : R) → get (insert rs s x) s ≡ Some x
  set-here rs s x = let e : eqb s s ≡ true = grind (arith, common_steps) in get-insert k rs s x s ∙ ap (λ (b : Bool). cond b (Some x) (get rs s)) e

  -- What one of two sets has is in all, as it is there.
  one-is : (all one other : Records R) → AreShared (get all) (get one) (get other) → (q : ℕ) → IsSome (get one q) → get one q ≡ get all q
  one-is all one other shared q there = ⊎_elim (λ p. p.0) (λ p. absurd (none_some (get one q) p.0 there)) (shared q)

  module _ (rs stay rest : Records R) (s : ℕ) (field : FieldNo) (link : LinkField) (shared : AreShared (get (relinked k rs s field link)) (get stay) (get rest)) where
    pub stays-apart : (others : Records R) → IsSome (get rs s) → ((q : ℕ) → IsSome (get rs q) → get others q ≡ None) → (q : ℕ) → IsSome (get stay q) → get others q ≡ None
    stays-apart others there apart q some =
        apart q (set-before rs s q (k.with_link (record_at k rs s) field link) there (subst (λ (o : Option R). IsSome o) (one-is (relinked k rs s field link) stay rest shared q some) some))

    -- The link leads nowhere then.
    pub is-free : IsLawful k → HasLink k rs s field → IsSome (get stay s) → link ≡ no_link → HasFreeLink k stay s field
    is-free lawful has own is =
        let r = record_at k rs s in
        let known : r ≡ has.0 = ap (λ (o : Option R). unwrap_or o k.missing) has.1 in
        let has_link : is_some (k.link r field) ≡ true = ap (λ (x : R). is_some (k.link x field)) known ∙ has.2 in
        let set = lawful.set_here r field link has_link in (
          k.with_link r field link,
          one-is (relinked k rs s field link) stay rest shared s own ∙ set-here rs s (k.with_link r field link),
          ap (λ (o : Option LinkField). is_some o) set,
          ap (λ (o : Option LinkField). named_by_field o) set ∙ leads_nowhere link is,
        )

  -- The set that had the record before two became one has it afterwards.
  pub both-have : (both stay others : Records R) (s : ℕ) (field : FieldNo) (link : LinkField) → AreShared (get both) (get (relinked k stay s field link)) (get others) → IsSome (get both s)
  both-have both stay others s field link shared =
      let here = set-here stay s (k.with_link (record_at k stay s) field link) in
      let some : IsSome (get (relinked k stay s field link) s) = ap (λ (o : Option R). is_some o) here in
      subst (λ (o : Option R). IsSome o) (one-is both (relinked k stay s field link) others shared s some) some

module _ {R D : Type 0} (k : RecordRules R) (h other begun stay both rest after other_then : SetState R D) (moment s : ℕ) (field : FieldNo) (none link : LinkField) (is_begun : begun ≡ folded h) (is_none : none ≡ no_link) where
  apart : FallsApart begun (relinked k begun.records s field none) s stay rest → FallsApart h (relinked k h.records s field no_link) s stay rest
  apart falls =
      let now = subst (λ (x : SetState R D). FallsApart x (relinked k x.records s field none) s stay rest) is_begun falls in
      let free = subst (λ (l : LinkField). FallsApart (folded h) (relinked k h.records s field l) s stay rest) is_none now in
      record { shared = free.shared; devices = free.devices; own = free.own; waiting = free.waiting; rest_waiting = free.rest_waiting; none_live = free.none_live; stays = free.stays; leaves = free.leaves; few = free.few; together = free.together }

  device_before : (before : List ℕ) → before ≡ device_of k (at k (now_of begun) s) → before ≡ device_of k (record_at k h.records s)
  unfolding at
  device_before before is = is ∙ ap (λ (x : SetState R D). device_of k (record_at k x.records s)) is_begun

  pub leads : FallsApart begun (relinked k begun.records s field none) s stay rest → BecomeOne stay other (relinked k stay.records s field link) both other_then → IsSound k both
      → (before : List ℕ) → before ≡ device_of k (at k (now_of begun) s) → (come_to : World R) → with_kept after.records both.live both.waiting come_to ≡ rewired k before (begun_at moment (now_of both)) s
      → after ≡ with_empty_history after.records both.devices both.live both.waiting both.tally → LeadsInto k h other moment s field link after other_then rest come_to
  leads falls joins sound before is_before come_to left held = record {
    stay = stay;
    both = both;
    falls = apart falls;
    joins = joins;
    sound = sound;
    sent = left ∙ ap (λ (d : List ℕ). rewired k d (begun_at moment (now_of both)) s) (device_before before is_before);
    then_empty = held;
  }

  -- If the set may become one with the other, so may what stays of it.
  module _ (falls : FallsApart begun (relinked k begun.records s field none) s stay rest) where
    pub none_stays : NoneIsLive begun → NoneIsLive stay
    none_stays dead = (falls.none_live dead).0

    few_live : (x : SetState R D) → IsSound k x → (n : ℕ) → how_many (λ (l : Live). l.number) n x.live ≤ 1
    unfolding holders
    few_live x sound n = subst (λ (a : ℕ). a ≤ 1) (sym (sound.counted.counted.live n)) (few-one (nat_lt 0 (holders k (now_of x) n)))

    pub still_may : IsLawful k → IsSome (get h.records s) → MayBeOne h other → AreLive k h.records h.waiting h.live → ((n : ℕ) → is_live n stay.live ≡ true → IsHeld k (now_of stay) n)
        → IsSound k stay → IsSound k other → MayBeOne stay other
    still_may lawful there may live holder sound other_sound =
        let now = apart falls in
        stay_may k h other stay may (stay_within k lawful s field no_link h.records stay.records rest.records there now.shared) now.waiting live holder
        (few_live stay sound) (few_live other other_sound) sound.counted.counted.waits_once
