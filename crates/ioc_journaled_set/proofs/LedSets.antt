-- A link change that leads from one held set into another.
use Rattle.std.proofs.Common.{◌≡◌, ◌≢◌, ℕ, zero, suc, Bool, cond, nat_eq, List, [], ◌∷◌, ◌++◌, Option, None, false, true, refl, sym, ap, subst, ◌∙◌, ⊎_elim, inl, inr, arith, append-nil}
use Rattle.std.specs.Prelude.{IsSome, is_some, Contains}
use Rattle.std.specs.FinMap.{get}
use Rattle.std.proofs.lemmas.Bool.{ne_eqb}
use Rattle.std.proofs.lemmas.List.Elements.{Contains-append_cases, filter-append}
use Rattle.ioc_fields.specs.declared.field_no.FieldNo.{FieldNo}
use Rattle.ioc_dbcommon.specs.declared.link_field.LinkField.{LinkField}
use Rattle.ioc_dbcommon.specs.Links.{no_link}
use Rattle.ioc_notify.specs.declared.waiting_lists.Waiting.{Waiting}
use Rattle.ioc_notify.specs.Waits.{at_record}
use Rattle.ioc_record.specs.RecordRules.{RecordRules}
use Rattle.ioc_set_records.specs.Contents.{record_at}
use Rattle.ioc_set_records.specs.Joined.{relinked}
use Rattle.ioc_store.specs.World.{World, Has, IsClosed, at, begun, begun_at, put}
use Rattle.ioc_store.specs.Worlds.{has-put}
use Rattle.ioc_store.specs.Scanning.{device_of, rewired}
use Rattle.ioc_journal.specs.Legal.{map_of}
use Rattle.ioc_journal.specs.Covering.{AreHalves, Holds, WaitsWithin}
use Rattle.ioc_journal.specs.LinkChange.{link_note}
use Rattle.ioc_journal.specs.Laws.{LinkMoves, HeldAlike}
use Rattle.ioc_set.specs.SetState.{SetState, now_of}
use Rattle.ioc_set.specs.Doing.{with_kept}
use Rattle.ioc_set.specs.Linking.{FallsApart, BecomeOne}
use Rattle.ioc_journaled_set.specs.LinkLaws.{SetsLead}
use Rattle.ioc_events.proofs.Rewired.{rewired-leaves}

none_some : {A : Type 0} (o : Option A) → o ≡ None → IsSome o → ⊥
none_some {A = A} o none some = let h : false ≡ true = sym (ap (λ (p : Option A). is_some p) none) ∙ some in cc

lone : (x y : ℕ) → Contains (x ∷ []) y → x ≡ y
lone x y (zero, lt, is) = is
lone x y (suc i, lt, is) = absurd (omega (arith, lt))

-- The waiting list of a record is empty if no entry waits for the record.
none-waits : (n : ℕ) (xs : List Waiting) → ((x : Waiting) → Contains xs x → x.target ≢ n) → at_record n xs ≡ []
none-waits n [] apart = refl
none-waits n (x ∷ xs) apart =
    let here : nat_eq x.target n ≡ false = ne_eqb x.target n (apart x (0, omega arith, refl)) in
    ap (λ (b : Bool). cond b (x ∷ at_record n xs) (at_record n xs)) here ∙ none-waits n xs (λ y c. apart y (suc c.0, (let l = c.1 in omega (arith, l)), c.2))

module _ {R D : Type 0} (k : RecordRules R) where
  -- The records with the link changed, as a world.
  free-halves : (h stay rest : SetState R D) (s : ℕ) (field : FieldNo) (link : LinkField) → FallsApart h (relinked k h.records s field link) s stay rest
      → AreHalves (put (now_of h) s (k.with_link (at k (now_of h) s) field link)) (now_of stay) (now_of rest)
  unfolding put at
  free-halves h stay rest s field link falls = record {
    records = falls.shared;
    first = record { waiting = λ n has. falls.waiting.same n has; within = falls.waiting.own };
    second = record { waiting = λ n has. falls.rest_waiting.same n has; within = falls.rest_waiting.own };
  }

  -- The waiting requests of each of two sets that are joined wait for records of that set.
  module _ (stay other both other_then : SetState R D) (moment s : ℕ) (field : FieldNo) (link : LinkField) (joins : BecomeOne stay other (relinked k stay.records s field link) both other_then)
      (own : (x : Waiting) → Contains stay.waiting x → IsSome (get stay.records x.target)) (others_own : (x : Waiting) → Contains other.waiting x → IsSome (get other.records x.target)) where
    abbrev linked : World R
    linked = put (now_of stay) s (k.with_link (at k (now_of stay) s) field link)

    linked-there : (q : ℕ) → IsSome (get stay.records q) → Has linked q
    linked-there q there = has-put k (now_of stay) s q (k.with_link (at k (now_of stay) s) field link) there

    never-both : (q : ℕ) → Has linked q → IsSome (get other.records q) → ⊥
    unfolding put at
    never-both q here there = ⊎_elim
        (λ p. none_some (get other.records q) p.1 there)
        (λ p. none_some (get (relinked k stay.records s field link) q) p.0 here)
        (joins.shared q)

    both-first : (q : ℕ) → Has linked q → Has (now_of both) q
    unfolding put at
    both-first q here = ⊎_elim
        (λ p. subst (λ (o : Option R). IsSome o) p.0 here)
        (λ p. absurd (none_some (get (relinked k stay.records s field link) q) p.0 here))
        (joins.shared q)

    pub both-second : (q : ℕ) → IsSome (get other.records q) → Has (now_of both) q
    both-second q there = ⊎_elim
        (λ p. absurd (none_some (get other.records q) p.1 there))
        (λ p. subst (λ (o : Option R). IsSome o) p.1 there)
        (joins.shared q)

    both-lists : (n : ℕ) → at_record n both.waiting ≡ at_record n stay.waiting ++ at_record n other.waiting
    both-lists n = ap (at_record n) joins.waiting ∙ filter-append (λ (w : Waiting). nat_eq w.target n) stay.waiting other.waiting

    first-list : (n : ℕ) → Has linked n → at_record n stay.waiting ≡ at_record n both.waiting
    first-list n here =
        let none = none-waits n other.waiting (λ x c is. never-both n here (subst (λ (q : ℕ). IsSome (get other.records q)) is (others_own x c))) in
        sym (both-lists n ∙ ap (λ (l : List Waiting). at_record n stay.waiting ++ l) none ∙ append-nil (at_record n stay.waiting))

    second-list : (n : ℕ) → IsSome (get other.records n) → at_record n other.waiting ≡ at_record n both.waiting
    second-list n there =
        let none = none-waits n stay.waiting (λ x c is. never-both n (subst (λ (q : ℕ). Has linked q) is (linked-there x.target (own x c))) there) in
        sym (both-lists n ∙ ap (λ (l : List Waiting). l ++ at_record n other.waiting) none)

    pub both-halves : AreHalves (begun_at moment (now_of both)) linked (now_of other)
    unfolding put at begun_at begun
    both-halves = record {
      records = joins.shared;
      first = record { waiting = λ n has. first-list n has; within = λ x c. linked-there x.target (own x c) };
      second = record { waiting = λ n has. second-list n has; within = others_own };
    }

    pub begun-within : WaitsWithin (begun_at moment (now_of both))
    unfolding begun_at begun
    begun-within x c = ⊎_elim
        (λ d. both-first x.target (linked-there x.target (own x d)))
        (λ d. both-second x.target (others_own x d))
        (Contains-append_cases stay.waiting other.waiting x (subst (λ (l : List Waiting). Contains l x) joins.waiting c))

  begun-closed : (both : SetState R D) (moment : ℕ) → IsClosed k (now_of both) → IsClosed k (begun_at moment (now_of both))
  unfolding at begun_at begun
  begun-closed both moment closed = record { closed = closed.closed }

  other-there : (stay other both other_then : SetState R D) (moment s : ℕ) (field : FieldNo) (link : LinkField) → BecomeOne stay other (relinked k stay.records s field link) both other_then
      → (q : ℕ) → IsSome (get other.records q) → Has (begun_at moment (now_of both)) q
  unfolding begun_at begun
  other-there stay other both other_then moment s field link joins q there = elim (joins.shared q) [
    | inl p ↦ absurd (none_some (get other.records q) p.1 there)
    | inr p ↦ subst (λ (o : Option R). IsSome o) p.1 there
  ]

  -- The set is held once the change of the scan list is sent.
  sent-held : HeldAlike k → (m : World R) (before both after : SetState R D) (moment s : ℕ) (come_to : World R) → after.waiting ≡ both.waiting
      → with_kept after.records both.live both.waiting come_to ≡ rewired k (device_of k (record_at k before.records s)) (begun_at moment (now_of both)) s
      → Holds k m (rewired k (device_of k (at k (now_of before) s)) (begun_at moment (now_of both)) s) → Holds k m (now_of after)
  unfolding at begun_at begun
  sent-held alike m before both after moment s come_to same sent holds =
      alike m (rewired k (device_of k (record_at k before.records s)) (begun_at moment (now_of both)) s) (now_of after) holds
      (ap (λ (w : World R). w.records) sent)
      (same ∙ sym (rewired-leaves k (device_of k (record_at k before.records s)) (begun_at moment (now_of both)) s).waiting)

pub sets-lead : {R : Type 0} (D : Type 0) (k : RecordRules R) → LinkMoves k → HeldAlike k → SetsLead D k
sets-lead {R} D k moves alike base log before other after other_then rest come_to desk call moment s field link keys sound legal holds other_holds covers other_covers apart takes to led rest_sound =
    let same : after.waiting ≡ led.both.waiting = ap (λ (x : SetState R D). x.waiting) led.then_empty in
    let more = moves base (now_of before) (now_of other) (now_of led.stay) (now_of rest) (begun_at moment (now_of led.both)) log desk call moment s field no_link link keys sound legal holds other_holds covers other_covers
    (λ q has there. none_some (get other.records q) (apart q has) there) takes
    (λ t named. other-there k led.stay other led.both other_then moment s field link led.joins t
    (subst (λ (n : ℕ). IsSome (get other.records n)) (lone to.0 t (subst (λ (l : List ℕ). Contains l t) to.1 named)) to.2))
    (free-halves k before led.stay rest s field no_link led.falls) led.falls.own rest_sound.settled.closed
    (both-halves k led.stay other led.both other_then moment s field link led.joins led.falls.waiting.own other_holds.within)
    (begun-within k led.stay other led.both other_then moment s field link led.joins led.falls.waiting.own other_holds.within) (begun-closed k led.both moment led.sound.settled.closed) in
    record {
      legal = more.legal;
      known = (sent-held k alike (map_of k base (log ++ link_note desk call moment s field link keys ∷ [])) before led.both after moment s come_to same led.sent more.known.0, more.known.1);
    }
