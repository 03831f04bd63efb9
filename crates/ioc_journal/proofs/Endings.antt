-- When a put with notification has ended in the world of all records.
use Rattle.std.proofs.Common.{◌≡◌, ℕ, true, false, cond, eqb, List, [], ◌∷◌, Option, Some, refl, sym, ap, subst, ◌∙◌, inl, inr, ⊎_elim, arith}
use Rattle.std.specs.Prelude.{◌↔◌, ◌||◌, is_some, unwrap_or, Contains}
use Rattle.std.specs.FinMap.{get, contains_key}
use Rattle.ioc_notify.specs.declared.live_numbers.Live.{Live}
use Rattle.ioc_notify.specs.declared.waiting_lists.Waiting.{Waiting}
use Rattle.ioc_notify.specs.Living.{holders_of, is_live}
use Rattle.ioc_notify.specs.Waits.{at_record}
use Rattle.ioc_record.specs.RecordRules.{RecordRules}
use Rattle.ioc_record.specs.Laws.{IsLawful}
use Rattle.ioc_store.specs.World.{World, Has, at, begun, begun_at}
use Rattle.ioc_store.specs.Given.{listed}
use Rattle.ioc_events.specs.declared.event.Call.{Call}
use Rattle.ioc_events.specs.Holding.{IsCounted, IsHeld, by_a_record, in_a_waiting_list, Begins, Cancels, EndsExactly}
use Rattle.ioc_events.specs.Calls.{called}
use Rattle.ioc_journal.specs.declared.entry.Note.{Note}
use Rattle.ioc_journal.specs.Legal.{entry_of, done, map_of, IsSound}
use Rattle.ioc_journal.specs.Covering.{Holds, IsOf}
use Rattle.ioc_journal.specs.Laws.{EndsOver, EndsLast, NobodyHas}
use Rattle.ioc_journal.specs.EventLaws.{EventLaws}
use Rattle.ioc_journal.proofs.Basics.{not_both, waits-too}
use Rattle.ioc_journal.proofs.Doing.{begun-counted, counted-on, sound-on, agree, same-outside, waiting-outside, done-held}
use Rattle.ioc_journal.proofs.Lists.{map-join, legal-right}
use Rattle.ioc_journal.proofs.Placing.{has-live}

module _ {R : Type 0} (k : RecordRules R) where
  -- A put with notification that a record is part of has a record in every world with the same
  -- records and waiting lists.
  has-alike : {w : World R} {n : ℕ} → IsHeld k w n → (v : World R) → v.records ≡ w.records → v.waiting ≡ w.waiting → IsHeld k v n
  unfolding at
  has-alike (by_a_record {w} {n} s there has) v records waits =
      by_a_record s (subst (λ rs. is_some (get rs s) ≡ true) (sym records) there) (subst (λ rs. (k.common (unwrap_or (get rs s) k.missing)).notification ≡ Some n) (sym records) has)
  has-alike (in_a_waiting_list x c) v records waits = in_a_waiting_list x (subst (λ (xs : List Waiting). Contains xs x) (sym waits) c)

  has-begun : (moment : ℕ) (w : World R) (n : ℕ) → IsHeld k (begun_at moment w) n → IsHeld k w n
  unfolding begun begun_at
  has-begun moment w n held = has-alike held w refl refl

  begun-has : (moment : ℕ) (w : World R) (n : ℕ) → IsHeld k w n → IsHeld k (begun_at moment w) n
  unfolding begun begun_at
  begun-has moment w n held = has-alike held (begun_at moment w) refl refl

  -- A record that two worlds share is the same in both.
  at-same : (m v : World R) (s : ℕ) → get m.records s ≡ get v.records s → at k m s ≡ at k v s
  unfolding at
  at-same m v s same = ap (λ (o : Option R). unwrap_or o k.missing) same

  -- A put with notification that has a record in a held part has one in the world of all.
  has-in-all : {v : World R} {n : ℕ} → IsHeld k v n → (m : World R) → Holds k m v → IsHeld k m n
  has-in-all (by_a_record {w} {n} s there has) m holds =
      by_a_record s (ap (λ (o : Option R). is_some o) (holds.records s there) ∙ there) (ap (λ (r : R). (k.common r).notification) (at-same m w s (holds.records s there)) ∙ has)
  has-in-all (in_a_waiting_list {w} x c) m holds = in_a_waiting_list x (waits-too w.waiting m.waiting x (sym (holds.waiting x.target (holds.within x c))) c)

  -- A put with notification has a record in `v` if it has one in the world of all, and none in a
  -- world that is equal to that outside `v`.
  has-inside : {m : World R} {n : ℕ} → IsHeld k m n → (v after : World R) → Holds k m v
      → ((s : ℕ) → (Has v s → ⊥) → get after.records s ≡ get m.records s) → ((s : ℕ) → (Has v s → ⊥) → at_record s after.waiting ≡ at_record s m.waiting)
      → (IsHeld k after n → ⊥) → IsHeld k v n
  has-inside (by_a_record {w} {n} s there has) v after holds records waits gone =
      elim (contains_key v.records s) as (λ b. contains_key v.records s ≡ b → IsHeld k v n) [
        | true ↦ λ in_v. by_a_record s in_v (ap (λ (r : R). (k.common r).notification) (sym (at-same w v s (holds.records s in_v))) ∙ has)
        | false ↦ λ isnt.
            let out : Has v s → ⊥ = λ in_v. not_both in_v isnt in
            absurd (gone (by_a_record s (ap (λ (o : Option R). is_some o) (records s out) ∙ there) (ap (λ (r : R). (k.common r).notification) (at-same after w s (records s out)) ∙ has)))
      ] refl
  has-inside (in_a_waiting_list {w} x c) v after holds records waits gone =
      elim (contains_key v.records x.target) as (λ b. contains_key v.records x.target ≡ b → IsHeld k v x.number) [
        | true ↦ λ in_v. in_a_waiting_list x (waits-too w.waiting v.waiting x (holds.waiting x.target in_v) c)
        | false ↦ λ isnt.
            let out : Has v x.target → ⊥ = λ in_v. not_both in_v isnt in
            absurd (gone (in_a_waiting_list x (waits-too w.waiting after.waiting x (sym (waits x.target out)) c)))
      ] refl

module _ {R : Type 0} (k : RecordRules R) (lawful : IsLawful k) (laws : EventLaws k) where
  done-ends : (m : World R) (n : Note) → IsCounted k m → EndsExactly k (begun_at (entry_of n).moment m) (done k m n).call (done k m n).world
  unfolding begun begun_at done
  done-ends m n counted =
      let answers = listed (entry_of n).answers in
      let w = begun_at (entry_of n).moment m in
      let event = (entry_of n).call in
      let d = called k answers w event in
      laws.ends answers w d.world d.call d.requests (laws.allowed answers w event) (begun-counted k (entry_of n).moment m counted) refl

  module _ (m v : World R) (n : Note) (sound : IsSound k m) (holds : Holds k m v) (of : IsOf k m v n) (counted : IsCounted k v) (number : ℕ) where
    abbrev moment : ℕ
    moment = (entry_of n).moment

    same-reply : (done k v n).call ≡ (done k m n).call
    same-reply = (agree k lawful laws m v n sound holds of).call

    held-after : Holds k (done k m n).world (done k v n).world
    held-after = done-held k lawful laws m v n sound holds of

    ends-in-all : Contains (done k v n).world.ended number → (IsHeld k (done k m n).world number → ⊥) → Contains (done k m n).world.ended number
    ends-in-all over nobody =
        let one = ((done-ends v n counted).ended number).0 over in
        ((done-ends m n sound.counted).ended number).1 (
          ⊎_elim (λ held. inl (begun-has k moment m number (has-in-all k (has-begun k moment v number held) m holds))) (λ is. inr (subst (λ (made : Call). Begins made number) same-reply is)) one.0,
          nobody,
          (λ is. one.2 (subst (λ (made : Call). Cancels made number) (sym same-reply) is)),
        )

    ends-in-part : Contains (done k m n).world.ended number → Contains (done k v n).world.ended number × (IsHeld k (done k m n).world number → ⊥)
    ends-in-part over =
        let all = ((done-ends m n sound.counted).ended number).0 over in (
          ((done-ends v n counted).ended number).1 (
            ⊎_elim
                (λ held. inl (begun-has k moment v number (has-inside k (has-begun k moment m number held) v (done k m n).world holds
                (λ s out. same-outside k lawful laws m v n sound holds of s out) (λ s out. waiting-outside k lawful laws m v n sound holds of s out) all.1)))
                (λ is. inr (subst (λ (made : Call). Begins made number) (sym same-reply) is)) all.0,
            (λ held. all.1 (has-in-all k held (done k m n).world held-after)),
            (λ is. all.2 (subst (λ (made : Call). Cancels made number) same-reply is)),
          ),
          all.1,
        )

  pub ends-over : EndsOver k
  ends-over base v w log n sound legal holds of is counted number =
      let m = map_of k base log in
      let known = sound-on k laws log base sound legal in
      subst (λ (x : World R). Contains x.ended number ↔ (Contains w.ended number × (IsHeld k x number → ⊥))) (sym (map-join k log (n ∷ []) base))
      (subst (λ (x : World R). Contains (done k m n).world.ended number ↔ (Contains x.ended number × (IsHeld k (done k m n).world number → ⊥))) is.world
      ((λ over. ends-in-part m v n known holds of counted number over), (λ both. ends-in-all m v n known holds of counted number both.0 both.1)))

  -- The last call of a legal list ends what nothing has any more.
  pub ends-last : EndsLast k
  ends-last base log n sound legal =
      let m = map_of k base log in
      let moment = (entry_of n).moment in
      let e = done-ends m n (counted-on k lawful laws log base sound.counted) in
      subst (λ (x : World R). EndsExactly k m (entry_of n).call x) (sym (map-join k log (n ∷ []) base))
      (subst (λ (made : Call). EndsExactly k m made (done k m n).world) (sym (legal-right k log (n ∷ []) base legal).0.reply) (record {
        ended = λ number. (
          (λ over. (let one = (e.ended number).0 over in (⊎_elim (λ held. inl (has-begun k moment m number held)) (λ is. inr is) one.0, one.1, one.2))),
          (λ one. (e.ended number).1 (⊎_elim (λ held. inl (begun-has k moment m number held)) (λ is. inr is) one.0, one.1, one.2)),
        );
        once = e.once;
      }))

  -- No record is part of a put with notification that isn't live.

  none-counted : (n : ℕ) (ls : List Live) → is_live n ls ≡ false → holders_of n ls ≡ 0
  none-counted n [] isnt = refl
  none-counted n (l ∷ ls) isnt = elim (eqb l.number n) as (λ b. (b || is_live n ls) ≡ false → cond b l.holders (holders_of n ls) ≡ 0) [
    | true ↦ λ is. absurd (not_both refl is)
    | false ↦ λ rest. none-counted n ls rest
  ] isnt

  pub nobody-has : NobodyHas k
  nobody-has w counted n = (
    (λ nobody. elim (is_live n w.live) as (λ b. is_live n w.live ≡ b → holders_of n w.live ≡ 0) [
      | true ↦ λ is. absurd (nobody ((laws.live w n counted).0 is))
      | false ↦ λ isnt. none-counted n w.live isnt
    ] refl),
    (λ none held. not_held ((laws.live w n counted).1 held) none),
  )
    where
      not_held : is_live n w.live ≡ true → holders_of n w.live ≡ 0 → ⊥
      not_held is none =
          let count = counted.counted.counted n in
          let some = has-live k w counted n is in
          absurd (omega arith)
