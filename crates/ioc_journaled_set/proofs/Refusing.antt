-- What a set knows after a link change that DISP forbids.
use Rattle.std.proofs.Common.{◌≡◌, ℕ, Bool, true, false, zero, suc, List, [], ◌∷◌, ◌++◌, Option, refl, sym, ap, ◌∙◌, subst, arith, Some}
use Rattle.std.specs.Prelude.{◌&&◌, Contains, IsSome, is_some, unwrap_or}
use Rattle.std.specs.FinMap.{contains_key}
use Rattle.ioc_values.specs.declared.error.IocError.{IocError}
use Rattle.ioc_values.specs.declared.error.IocError.TheVariants.{PutDisabled}
use Rattle.ioc_ledger.specs.Requests.{None}
use Rattle.ioc_fields.specs.declared.field_no.FieldNo.{FieldNo}
use Rattle.ioc_dbcommon.specs.declared.link_field.LinkField.{LinkField}
use Rattle.ioc_dbcommon.specs.Links.{use_of, named_by}
use Rattle.ioc_record.specs.RecordRules.{RecordRules}
use Rattle.ioc_record.specs.Values.{stops_put}
use Rattle.ioc_set_records.specs.Joined.{HasLink}
use Rattle.ioc_store.specs.World.{World, Has, at, common_at, begun, begun_at}
use Rattle.ioc_store.specs.Given.{answers_of, listed}
use Rattle.ioc_events.specs.declared.event.Entry.{Entry}
use Rattle.ioc_events.specs.Step.{all_there, link_refusal as why_kept}
use Rattle.ioc_events.specs.Calls.{Called, called, linked}
use Rattle.ioc_journal.specs.declared.entry.Note.{Note}
use Rattle.ioc_journal.specs.Key.{Key}
use Rattle.ioc_journal.specs.Line.{Continues, noted}
use Rattle.ioc_journal.specs.Legal.{AreLiveAlike, IsLegal, IsSound, IsUntouched, Fits, done, map_of}
use Rattle.ioc_journal.specs.Covering.{Holds, Cover}
use Rattle.ioc_journal.specs.Laws.{Lasts, GoesOn, StaysSound}
use Rattle.ioc_journal.specs.Account.{journalled, MayFollow, Added}
use Rattle.ioc_journal.specs.Counting.{sent_in, nothing_sent}
use Rattle.ioc_journal.specs.CountLaws.{LinksCountNothing}
use Rattle.ioc_journaled_set.specs.Sent.{MayCountNothing}
use Rattle.ioc_set.specs.SetState.{SetState, now_of}
use Rattle.ioc_journaled_set.specs.LinkChanges.{IsKnown, link_refusal}
use Rattle.ioc_journaled_set.proofs.Serving.{holds_on}

both : (a b : Bool) → a ≡ true → b ≡ true → (a && b) ≡ true
both true b is_a is_b = is_b
both false b is_a is_b = cc

module _ {R : Type 0} (k : RecordRules R) where
  legal_join : (xs ys : List Note) (m : World R) → IsLegal k m xs → IsLegal k (map_of k m xs) ys → IsLegal k m (xs ++ ys)
  legal_join [] ys m first then = then
  legal_join (x ∷ xs) ys m first then = (first.0, legal_join xs ys (done k m x).world first.1 then)

  map_join : (xs ys : List Note) (m : World R) → map_of k m (xs ++ ys) ≡ map_of k (map_of k m xs) ys
  map_join [] ys m = refl
  map_join (x ∷ xs) ys m = map_join xs ys (done k m x).world

  all_known : (w : World R) (ns : List ℕ) → ((t : ℕ) → Contains ns t → Has w t) → all_there w ns ≡ true
  all_known w [] has = refl
  all_known w (n ∷ ns) has =
      both (contains_key w.records n) (all_there w ns) (has n (zero, omega arith, refl))
      (all_known w ns (λ t c. has t (suc c.0, (let lt = c.1 in omega (arith, lt)), c.2)))

  -- A link change that DISP forbids is refused if all its records are there.
  refusal : (w : World R) (s : ℕ) (field : FieldNo) (link : LinkField) → Has w s → all_there w (named_by (use_of link)) ≡ true → is_some (k.link (at k w s) field) ≡ true
      → stops_put (common_at k w s) field ≡ true → why_kept k w s field link ≡ Some PutDisabled
  unfolding why_kept
  refusal w s field link there all has stops = rw (there, all, has, stops) refl

-- A link field of a held set: its record is there, and the field is a link.
module _ {R D : Type 0} (k : RecordRules R) (h : SetState R D) (s : ℕ) (field : FieldNo) (has : HasLink k h.records s field) where
  pub link_there : Has (now_of h) s
  link_there = ap (λ (o : Option R). is_some o) has.1

  pub link_has : is_some (k.link (at k (now_of h) s) field) ≡ true
  unfolding at
  link_has = subst (λ (o : Option R). is_some (k.link (unwrap_or o k.missing) field) ≡ true) (sym has.1) has.2

module _ {R : Type 0} (k : RecordRules R) (lasts : Lasts k) (stays : StaysSound k) (base v : World R) (moment s : ℕ) (field : FieldNo) (link : LinkField) (there : Has v s)
    (has_link : is_some (k.link (at k v s) field) ≡ true) (stops : stops_put (common_at k v s) field ≡ true) (known : (t : ℕ) → Contains (named_by (use_of link)) t → IsKnown k base t)
    (seen : List Note) (owned : List Key) (covers : Cover owned v) (holds : Holds k (map_of k base seen) v) where
  -- The call leaves a world with its new moment.
  abbrev kept_so : World R → Called R
  kept_so m = record { world = begun_at moment m; call = (link_refusal moment s field link).call; requests = None }

  -- The change is refused in the world of all records, which is unchanged.
  refused_of_all : (log : List Note) (desk call : ℕ) (keys : List Key) → IsSound k base → Holds k (map_of k base log) v
      → done k (map_of k base log) (noted (journalled desk call (link_refusal moment s field link)) keys) ≡ kept_so (map_of k base log)
  unfolding done called at begun begun_at
  refused_of_all log desk call keys sound h =
      let m = map_of k base log in
      let same = h.records s there in
      ap (λ (o : Option IocError). linked k (listed []) (begun_at moment m) s field link o) (refusal k (begun_at moment m) s field link
      (subst (λ (o : Option R). IsSome o) (sym same) there)
      (all_known k (begun_at moment m) (named_by (use_of link)) (λ t c. let is = known t c in (stays base log sound).1.has t ((stays base is.0 sound).1.only t is.1)))
      (subst (λ (o : Option R). is_some (k.link (unwrap_or o k.missing) field) ≡ true) (sym same) has_link)
      (subst (λ (o : Option R). stops_put (k.common (unwrap_or o k.missing)) field ≡ true) (sym same) stops))

  untouched : (m : World R) (r : ℕ) → IsUntouched k r m (begun_at moment m)
  unfolding at begun begun_at
  untouched m r = record { same = refl; waiting = refl; named = λ a c. c }

  still_holds : (m : World R) → Holds k m v → Holds k (begun_at moment m) v
  unfolding at begun begun_at
  still_holds m h = record { records = h.records; waiting = h.waiting; within = h.within; shut = h.shut; apart = h.apart }

  refusal_fits : (m : World R) (n : Note) → n.entry.entry ≡ link_refusal moment s field link → done k m n ≡ kept_so m → Fits k m n
  unfolding begun begun_at
  refusal_fits m n is comes = record {
    reply = ap (λ (e : Entry). e.call) is ∙ sym (ap (λ (d : Called R). d.call) comes);
    used = ap (λ (d : Called R). answers_of d.world.calls) comes ∙ sym (ap (λ (e : Entry). e.answers) is);
    untouched = λ r out. subst (λ (d : Called R). IsUntouched k r m d.world) (sym comes) (untouched m r);
    live = λ out. subst (λ (d : Called R). AreLiveAlike m d.world) (sym comes) (λ number. refl);
  }

  refusal_goes_on : (log : List Note) (desk call : ℕ) (own : List Key) → IsSound k base → Continues seen owned log → IsLegal k base log
      → GoesOn k base log (noted (journalled desk call (link_refusal moment s field link)) (owned ++ own)) (λ m. Holds k m v)
  refusal_goes_on log desk call own sound go legal =
      let n = noted (journalled desk call (link_refusal moment s field link)) (owned ++ own) in
      let m = map_of k base log in
      let h = holds_on k lasts base v seen owned covers holds log go legal in
      let comes = refused_of_all log desk call (owned ++ own) sound h in
      record {
        legal = legal_join k log (n ∷ []) base legal (refusal_fits m n refl comes, tt);
        known = subst (λ (w : World R). Holds k w v) (sym (map_join k log (n ∷ []) base ∙ ap (λ (d : Called R). d.world) comes)) (still_holds m h);
      }

  -- The refusal may follow any legal list.
  pub refusal_may_follow : (entry : Entry) → link_refusal moment s field link ≡ entry → MayFollow k base seen owned entry
  refusal_may_follow entry is = subst (λ (x : Entry). MayFollow k base seen owned x) is (λ log desk call own sound go legal. (refusal_goes_on log desk call own sound go legal).legal)

  begun_sends : (m : World R) → sent_in (begun_at moment m) ≡ nothing_sent
  unfolding begun begun_at
  begun_sends m = refl

  -- The refusal counts nothing.
  pub refusal_counts_nothing : LinksCountNothing k → (entry : Entry) → link_refusal moment s field link ≡ entry → MayCountNothing k base seen owned entry
  refusal_counts_nothing law entry is = subst (λ (x : Entry). MayCountNothing k base seen owned x) is (λ log desk call own sound go legal.
      let n = noted (journalled desk call (link_refusal moment s field link)) (owned ++ own) in
      let m = map_of k base log in
      record {
        tally = (law m n refl).0;
        sent = ap (λ (d : Called R). sent_in d.world) (refused_of_all log desk call (owned ++ own) sound (holds_on k lasts base v seen owned covers holds log go legal)) ∙ begun_sends m;
      })

  -- A held set stays held after the refusal.
  pub held_after_refusal : (entry : Entry) → link_refusal moment s field link ≡ entry → (log longer : List Note) → Added k base seen owned entry log longer → Holds k (map_of k base longer) v
  held_after_refusal entry is log longer added =
      let a = subst (λ (x : Entry). Added k base seen owned x log longer) (sym is) added in
      subst (λ (l : List Note). Holds k (map_of k base l) v) (sym a.ends) (refusal_goes_on log a.desk a.call a.own a.sound a.goes_on a.legal).known
