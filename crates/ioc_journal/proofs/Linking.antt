-- A link change of held records is the same link change of all.
use Rattle.std.proofs.Common.{◌≡◌, ◌⊎◌, ℕ, Bool, true, false, cond, eqb, List, [], ◌∷◌, ◌++◌, Option, Some, None as Nothing_, Ok, refl, sym, ap, subst, ◌∙◌, inl, inr, ⊎_elim, arith}
use Rattle.std.specs.Prelude.{is_some, unwrap_or, Contains}
use Rattle.std.specs.FinMap.{get}
use Rattle.std.proofs.lemmas.List.Elements.{Contains-append_cases, Contains-append_right}
use Rattle.ioc_fields.specs.declared.field_no.FieldNo.{FieldNo}
use Rattle.ioc_ledger.specs.Requests.{None}
use Rattle.ioc_notify.specs.declared.waiting_lists.Waiting.{Waiting}
use Rattle.ioc_notify.specs.Waits.{at_record}
use Rattle.ioc_dbcommon.specs.declared.link_field.LinkField.{LinkField}
use Rattle.ioc_dbcommon.specs.Links.{use_of, named_by}
use Rattle.ioc_record.specs.RecordRules.{RecordRules, targets}
use Rattle.ioc_record.specs.Values.{stops_put}
use Rattle.ioc_record.specs.Laws.{IsLawful}
use Rattle.ioc_store.specs.World.{World, Has, at, put, begun, begun_at}
use Rattle.ioc_store.specs.Given.{listed, answers_of}
use Rattle.ioc_store.specs.Weights.{weight_of}
use Rattle.ioc_store.specs.Worlds.{at-put_same, has-put}
use Rattle.ioc_store.specs.Scanning.{with_link_changed}
use Rattle.ioc_events.specs.declared.event.Call.TheVariants as calling
use Rattle.ioc_events.specs.Holding.{one_if_has}
use Rattle.ioc_events.specs.Calls.{Called}
use Rattle.ioc_events.specs.Step.{all_there, link_refusal}
use Rattle.ioc_events.specs.StepRules.{takes_link}
use Rattle.ioc_journal.specs.declared.entry.Note.{Note}
use Rattle.ioc_journal.specs.Key.{Key}
use Rattle.ioc_journal.specs.Legal.{done, map_of}
use Rattle.ioc_journal.specs.Covering.{Holds, Cover, IsDone, IsOf, AreHalves, WaitsWithin}
use Rattle.ioc_journal.specs.LinkChange.{TakesLink, link_note}
use Rattle.ioc_journal.specs.Laws.{LinkParts, LinkJoins}
use Rattle.ioc_journal.proofs.Basics.{one-there}
use Rattle.ioc_journal.specs.EventLaws.{EventLaws}
use Rattle.ioc_journal.proofs.Doing.{one-more}
use Rattle.ioc_journal.proofs.Sharing.{falls, gathers, either, from-one}
use Rattle.ioc_journal.proofs.Rewiring.{set-at, changed-record, changed-point, get-put, set-same, put-there, changed-get, changed-waiting, changed-calls, put-waiting, set-here, set-again, set-twice}
use Rattle.ioc_journal.proofs.Summing.{point, of-number, holders-alike}

-- `all_there` is true if each of the records is there.
all-there : {R : Type 0} (w : World R) (ns : List ℕ) → ((n : ℕ) → Contains ns n → Has w n) → all_there w ns ≡ true
all-there w [] each = refl
all-there w (n ∷ ns) each = rw (each n (0, omega arith, refl)) (all-there w ns (λ m c. each m (Contains-append_right (n ∷ []) ns m c)))

module _ {R : Type 0} (k : RecordRules R) where
  -- A held part is held as any world with the same records and waiting lists.
  pub held-alike : (m w x : World R) → ((q : ℕ) → get x.records q ≡ get w.records q) → x.waiting ≡ w.waiting → Holds k m w → Holds k m x
  unfolding at
  held-alike m w x same waits holds = record {
    records = λ q there. holds.records q (before q there) ∙ sym (same q);
    waiting = λ q there. holds.waiting q (before q there) ∙ ap (at_record q) (sym waits);
    within = λ y c. after y.target (holds.within y (subst (λ (l : List Waiting). Contains l y) waits c));
    shut = record { closed = λ q target c. after target (holds.shut.closed q target (subst (λ (o : Option R). Contains (targets k (unwrap_or o k.missing)) target) (same q) c)) };
    apart = λ a q out there named. holds.apart a q (λ has. out (after a has)) (before q there) named;
  }
    where
      before : (q : ℕ) → Has x q → Has w q
      before q there = ap (λ (o : Option R). is_some o) (sym (same q)) ∙ there

      after : (q : ℕ) → Has w q → Has x q
      after q there = ap (λ (o : Option R). is_some o) (same q) ∙ there

module _ {R : Type 0} (k : RecordRules R) (lawful : IsLawful k) (laws : EventLaws k) where
  module _ (a : World R) (desk call moment s : ℕ) (field : FieldNo) (link : LinkField) (keys : List Key) (takes : TakesLink k a s field)
      (within : (t : ℕ) → Contains (named_by (use_of link)) t → Has a t) where
    abbrev note : Note
    note = link_note desk call moment s field link keys

    taken : link_refusal k (begun_at moment a) s field link ≡ Nothing_
    unfolding at begun begun_at link_refusal
    taken = rw (takes.there, all-there a (named_by (use_of link)) within, takes.has_link, takes.allowed) refl

    changes : done k a note ≡ record { world = with_link_changed k (begun_at moment a) s field link; call = calling.Link s field link (Ok tt); requests = None }
    unfolding done
    changes = laws.alone (listed []) (begun_at moment a) (with_link_changed k (begun_at moment a) s field link) (calling.Link s field link (Ok tt)) None (takes_link taken)

    is-done : IsDone k a note (done k a note).world
    unfolding begun begun_at
    is-done = record {
      world = refl;
      reply = ap (λ (d : Called R). d.call) changes;
      used = ap (λ (d : Called R). answers_of d.world.calls) changes ∙ ap answers_of (changed-calls k (begun_at moment a) s field link);
    }

    pub done-get : (q : ℕ) → get (done k a note).world.records q ≡ set-at s (changed-record k field link (at k a s)) (get a.records) q
    unfolding at begun begun_at
    done-get q = ap (λ (d : Called R). get d.world.records q) changes ∙ changed-get k (begun_at moment a) s field link q

    pub done-waiting : (done k a note).world.waiting ≡ a.waiting
    unfolding begun begun_at
    done-waiting = ap (λ (d : Called R). d.world.waiting) changes ∙ changed-waiting k (begun_at moment a) s field link

    named-within : (r : ℕ) → Contains (s ∷ named_by (use_of link)) r → Has a r
    named-within r c = elim (Contains-append_cases (s ∷ []) (named_by (use_of link)) r c) [
      | inl here ↦ let e : s ≡ r = one-there s r here in subst (λ (q : ℕ). Has a q) e takes.there
      | inr later ↦ within r later
    ]

    -- At each record the count of a put with notification is unchanged.
    points-stay : (number q : ℕ) → point k number (done k a note).world q ≡ point k number a q
    points-stay number q =
        let records = ap (weight_of (one_if_has k number)) (done-get q) ∙ changed-point k lawful number a s field link takes.there q in
        let waits = ap (λ (xs : List Waiting). of-number number (at_record q xs)) done-waiting in
        omega (arith, records, waits)

    is-of : (m : World R) → Cover keys a → IsOf k m a note
    is-of m covers = record {
      named = named-within;
      cancels = tt;
      asks = tt;
      covers = covers;
      live = λ out number. holders-alike k number a (done k a note).world (λ q. sym (points-stay number q));
    }

  pub link-parts : LinkParts k
  link-parts base v stay rest log desk call moment s field link keys sound legal holds covers takes within halves closed other_closed =
      let n = link_note desk call moment s field link keys in
      let w = (done k v n).world in
      let changed = with_link_changed k v s field link in
      let more = one-more k lawful laws base v w log n sound legal holds (is-of v desk call moment s field link keys takes within (map_of k base log) covers) (is-done v desk call moment s field link keys takes within) in
      let m = map_of k base (log ++ n ∷ []) in
      let held = held-alike k m w changed
      (λ q. changed-get k v s field link q ∙ sym (done-get v desk call moment s field link keys takes within q))
      (changed-waiting k v s field link ∙ sym (done-waiting v desk call moment s field link keys takes within)) more.known in
      record { legal = more.legal; known = falls k m changed stay rest held halves closed other_closed }

  -- A link change from `v` to `o`; `all` is `v` with its link changed, and `o`.
  module _ (m v o all : World R) (s : ℕ) (field : FieldNo) (link : LinkField) (holds : Holds k m v) (takes : TakesLink k v s field)
      (halves : AreHalves all (with_link_changed k v s field link) o) (within-all : WaitsWithin all) where
    abbrev linked : R
    linked = changed-record k field link (at k v s)

    -- The records of `v` and `o` before the change.
    abbrev both : World R
    both = put all s (at k v s)

    -- The entries of one number, which is the number of the record or not.
    shared-one : (b : Bool) (was now : R) (c whole two one other : Option R) → c ≡ cond b (Some now) one → two ≡ cond b (Some was) whole → one ≡ cond b (Some was) one
        → ((c ≡ whole) × (other ≡ Nothing_)) ⊎ ((c ≡ Nothing_) × (other ≡ whole)) → ((one ≡ two) × (other ≡ Nothing_)) ⊎ ((one ≡ Nothing_) × (other ≡ two))
    shared-one true was now c whole two one other is_c is_two is_one (inl p) = inl (is_one ∙ sym is_two, p.1)
    shared-one true was now c whole two one other is_c is_two is_one (inr p) = cc
    shared-one false was now c whole two one other is_c is_two is_one (inl p) = inl (sym is_c ∙ p.0 ∙ sym is_two, p.1)
    shared-one false was now c whole two one other is_c is_two is_one (inr p) = inr (sym is_c ∙ p.0, p.1 ∙ sym is_two)

    changed-there : (q : ℕ) → Has v q → Has (with_link_changed k v s field link) q
    changed-there q there = ap (λ (x : Option R). is_some x) (changed-get k v s field link q) ∙ set-there (eqb q s) (get v.records q) there
      where
        set-there : (b : Bool) (x : Option R) → is_some x ≡ true → is_some (cond b (Some linked) x) ≡ true
        set-there true x there = refl
        set-there false x there = there

    both-halves : AreHalves both v o
    both-halves = record {
      records = λ q. shared-one (eqb q s) (at k v s) linked (get (with_link_changed k v s field link).records q) (get all.records q) (get both.records q) (get v.records q) (get o.records q)
          (changed-get k v s field link q) (get-put k all s (at k v s) q) (set-same k v s takes.there q) (halves.records q);
      first = record { waiting = first-waits; within = holds.within };
      second = record { waiting = second-waits; within = halves.second.within };
    }
      where
        first-waits : (q : ℕ) → Has v q → at_record q v.waiting ≡ at_record q both.waiting
        first-waits q there = ap (at_record q) (sym (changed-waiting k v s field link)) ∙ halves.first.waiting q (changed-there q there) ∙ ap (at_record q) (sym (put-waiting k all s (at k v s)))

        second-waits : (q : ℕ) → Has o q → at_record q o.waiting ≡ at_record q both.waiting
        second-waits q there = halves.second.waiting q there ∙ ap (at_record q) (sym (put-waiting k all s (at k v s)))

    both-there : (q : ℕ) → Has all q → Has both q
    both-there q there = has-put k all s q (at k v s) there

    both-within : WaitsWithin both
    both-within x c = both-there x.target (within-all x (subst (λ (l : List Waiting). Contains l x) (put-waiting k all s (at k v s)) c))

    both-takes : TakesLink k both s field
    both-takes =
        let same : at k v s ≡ at k both s = sym (at-put_same k all s (at k v s)) in
        record {
          there = put-there k all s (at k v s);
          has_link = subst (λ (r : R). is_some (k.link r field) ≡ true) same takes.has_link;
          allowed = subst (λ (r : R). stops_put (k.common r) field ≡ false) same takes.allowed;
        }

    both-cover : (keys : List Key) → Cover keys v → Cover keys o → Cover keys both
    both-cover keys covers other_covers q there = ⊎_elim (λ here. covers q here) (λ here. other_covers q here) (either both v o both-halves q there)

    -- The record in `all` is the one with its link changed.
    all-here : get all.records s ≡ Some linked
    all-here =
        (from-one all (with_link_changed k v s field link) o halves s (changed-there s takes.there)).0
        ∙ changed-get k v s field link s ∙ set-here k s linked (get v.records)

    all-get : (q : ℕ) → get all.records q ≡ set-at s (changed-record k field link (at k both s)) (get both.records) q
    all-get q =
        set-again k s linked (get all.records) all-here q
        ∙ sym (set-twice k s linked (at k v s) (get all.records) q)
        ∙ sym (ap (λ (x : Option R). cond (eqb q s) (Some linked) x) (get-put k all s (at k v s) q))
        ∙ ap (λ (r : R). set-at s (changed-record k field link r) (get both.records) q) (sym (at-put_same k all s (at k v s)))

  pub link-joins : LinkJoins k
  link-joins base v o all log desk call moment s field link keys sound legal holds other_holds covers other_covers takes to halves within =
      let m = map_of k base log in
      let two = put all s (at k v s) in
      let n = link_note desk call moment s field link keys in
      let w = (done k two n).world in
      let takes_too = both-takes m v o all s field link holds takes halves within in
      let to_there : (t : ℕ) → Contains (named_by (use_of link)) t → Has two t = λ t c. both-there m v o all s field link holds takes halves within t (to t c) in
      let together = gathers k lawful m two v o holds other_holds (both-halves m v o all s field link holds takes halves within) (both-within m v o all s field link holds takes halves within) in
      let more = one-more k lawful laws base two w log n sound legal together
      (is-of two desk call moment s field link keys takes_too to_there m (both-cover m v o all s field link holds takes halves within keys covers other_covers))
      (is-done two desk call moment s field link keys takes_too to_there) in
      record {
        legal = more.legal;
        known = held-alike k (map_of k base (log ++ n ∷ [])) w all
            (λ q. all-get m v o all s field link holds takes halves within q ∙ sym (done-get two desk call moment s field link keys takes_too to_there q))
            (sym (put-waiting k all s (at k v s)) ∙ sym (done-waiting two desk call moment s field link keys takes_too to_there)) more.known;
      }
