-- Two sets become one: the puts with notification of both.
use Rattle.std.proofs.Common.{◌≡◌, ◌≢◌, ◌⊎◌, ℕ, zero, suc, ◌+◌, ◌≤◌, Bool, true, false, cond, eqb, nat_eq, List, ◌++◌, Option, Some, refl, sym, subst, ◌∙◌, ⊎_elim, inl, inr, arith}
use Rattle.std.specs.Prelude.{◌↔◌, IsSome, IsTrue, unwrap_or, Contains}
use Rattle.std.specs.FinMap.{get}
use Rattle.std.proofs.lemmas.Bool.{eq-eqb}
use Rattle.std.proofs.lemmas.List.Elements.{Contains-append_cases}
use Rattle.ioc_fields.specs.declared.field_no.FieldNo.{FieldNo}
use Rattle.ioc_dbcommon.specs.declared.link_field.LinkField.{LinkField}
use Rattle.ioc_notify.specs.declared.live_numbers.Live.{Live}
use Rattle.ioc_notify.specs.declared.waiting_lists.Waiting.{Waiting}
use Rattle.ioc_notify.specs.Living.{is_live}
use Rattle.ioc_record.specs.RecordRules.{RecordRules}
use Rattle.ioc_record.specs.Laws.{IsLawful}
use Rattle.ioc_set_records.specs.Contents.{Records, record_at}
use Rattle.ioc_set_records.specs.Joined.{AreShared, relinked}
use Rattle.ioc_store.specs.World.{at}
use Rattle.ioc_events.specs.Holding.{IsHeld, by_a_record, in_a_waiting_list, HoldersCounted, how_many}
use Rattle.ioc_set.specs.SetState.{SetState, now_of}
use Rattle.ioc_set.specs.Resting.{resting}
use Rattle.ioc_set.specs.Linking.{AreHeld, MayBeOne}
use Rattle.ioc_set.specs.Recounting.{together, AreLive, WaitsGoAlong}
use Rattle.ioc_set.proofs.Calm.{get-insert}
use Rattle.ioc_set.proofs.Entries.{none_some}
use Rattle.ioc_events.proofs.Counting.{lives, how_many-append}
use Rattle.ioc_set.proofs.Counted.{live-some, some-live}
use Rattle.ioc_set.proofs.Fewer.{fewer}
use Rattle.ioc_events.proofs.Ended.{counted-there, there-counted}
use Rattle.ioc_set.proofs.Gathered.{passes-there, there-passes, together-count, dead}
use Rattle.ioc_set.proofs.HeldRecords.{AreSame, Within, within_relinked, same_itself}

-- Lemmas about those that are live on one of two sets.

pub together-first : (n : ℕ) (one other : List Live) → is_live n one ≡ true → is_live n (together one other) ≡ true
together-first n one other is = some-live n (together one other) (omega (arith, together-count n one other true is, live-some n one is))

second-case : (n : ℕ) (one other : List Live) → is_live n other ≡ true → (b : Bool) → is_live n one ≡ b → is_live n (together one other) ≡ true
second-case n one other is true here = together-first n one other here
second-case n one other is false here = some-live n (together one other) (omega (arith, together-count n one other false here, live-some n other is))

pub together-second : (n : ℕ) (one other : List Live) → is_live n other ≡ true → is_live n (together one other) ≡ true
together-second n one other is = second-case n one other is (is_live n one) refl

-- Lemmas about how often one is there.

once-case : (n : ℕ) (ws xs : List Waiting) → ((x y : Waiting) → Contains ws x → Contains xs y → x.number ≢ y.number)
    → (a : ℕ) → how_many (λ (x : Waiting). x.number) n ws ≡ a → (b : ℕ) → how_many (λ (x : Waiting). x.number) n xs ≡ b → a ≤ 1 → b ≤ 1 → a + b ≤ 1
once-case n ws xs apart zero is b other_is one other_one = omega (arith, other_one)
once-case n ws xs apart (suc a) is zero other_is one other_one = omega (arith, one)
once-case n ws xs apart (suc a) is (suc b) other_is one other_one =
    let x = counted-there (λ (x : Waiting). x.number) n ws (omega (arith, is)) in
    let y = counted-there (λ (x : Waiting). x.number) n xs (omega (arith, other_is)) in
    absurd (apart x.0 y.0 x.1 y.1 (x.2 ∙ sym y.2))

pub joined_once : (ws xs : List Waiting) → ((x y : Waiting) → Contains ws x → Contains xs y → x.number ≢ y.number) → ((n : ℕ) → how_many (λ (x : Waiting). x.number) n ws ≤ 1)
    → ((n : ℕ) → how_many (λ (x : Waiting). x.number) n xs ≤ 1) → (n : ℕ) → how_many (λ (x : Waiting). x.number) n (ws ++ xs) ≤ 1
joined_once ws xs apart one other n =
    let f : Waiting → ℕ = λ x. x.number in
    omega (arith, how_many-append f n ws xs, once-case n ws xs apart (how_many f n ws) refl (how_many f n xs) refl (one n) (other n))

module _ {R : Type 0} (k : RecordRules R) where
  -- Lemmas about the records of two sets that have become one.

  module _ (lawful : IsLawful k) (rs others both : Records R) (s : ℕ) (field : FieldNo) (link : LinkField) (there : IsSome (get rs s)) (shared : AreShared (get both) (get (relinked k rs s field link)) (get others)) where
    abbrev linked : Records R
    linked = relinked k rs s field link

    set-there : (b : Bool) (x : R) (o : Option R) → IsSome o → IsSome (cond b (Some x) o)
    set-there true x o is = refl
    set-there false x o is = is

    linked-there : (q : ℕ) → IsSome (get rs q) → IsSome (get linked q)
    linked-there q is = subst (λ (o : Option R). IsSome o) (sym (get-insert k rs s (k.with_link (record_at k rs s) field link) q)) (set-there (eqb q s) (k.with_link (record_at k rs s) field link) (get rs q) is)

    from-first : (q : ℕ) → get linked q ≡ get both q → IsSome (get linked q) → AreSame k (record_at k rs q) (record_at k both q)
    from-first q is here = subst (λ (o : Option R). AreSame k (record_at k rs q) (unwrap_or o k.missing)) is ((within_relinked k lawful rs s field link there).same q here)

    from-second : (q : ℕ) → get others q ≡ get both q → AreSame k (record_at k others q) (record_at k both q)
    from-second q is = subst (λ (o : Option R). AreSame k (record_at k others q) (unwrap_or o k.missing)) is (same_itself k (record_at k others q))

    joined_from : (q : ℕ) → IsSome (get both q)
        → (IsSome (get rs q) × AreSame k (record_at k rs q) (record_at k both q)) ⊎ (IsSome (get others q) × AreSame k (record_at k others q) (record_at k both q))
    joined_from q is = ⊎_elim
        (λ p. let here : IsSome (get linked q) = subst (λ (o : Option R). IsSome o) (sym p.0) is in inl ((within_relinked k lawful rs s field link there).there q here, from-first q p.0 here))
        (λ p. inr (subst (λ (o : Option R). IsSome o) (sym p.1) is, from-second q p.1))
        (shared q)

    first_same : (q : ℕ) → IsSome (get rs q) → AreSame k (record_at k rs q) (record_at k both q)
    first_same q is = ⊎_elim
        (λ p. from-first q p.0 (linked-there q is))
        (λ p. absurd (none_some (get linked q) p.0 (linked-there q is)))
        (shared q)

    second_same : (q : ℕ) → IsSome (get others q) → AreSame k (record_at k others q) (record_at k both q)
    second_same q is = ⊎_elim (λ p. absurd (none_some (get others q) p.1 is)) (λ p. from-second q p.1) (shared q)

    pub joined_live : (ws xs : List Waiting) (ls ms : List Live) → AreLive k rs ws ls → AreLive k others xs ms → AreLive k both (ws ++ xs) (together ls ms)
    joined_live ws xs ls ms one other = record {
      has = λ q n here is. ⊎_elim
          (λ p. together-first n ls ms (one.has q n p.0 (sym p.1.notification ∙ is)))
          (λ p. together-second n ls ms (other.has q n p.0 (sym p.1.notification ∙ is)))
          (joined_from q here);
      waits = λ x c. ⊎_elim
          (λ d. together-first x.number ls ms (one.waits x d))
          (λ d. together-second x.number ls ms (other.waits x d))
          (Contains-append_cases ws xs x c);
    }

    quiet-same : (r t : R) → AreSame k r t → IsTrue (k.common r).active ↔ IsSome (k.common r).pending → IsTrue (k.common t).active ↔ IsSome (k.common t).pending
    quiet-same r t same quiet =
        subst (λ (b : Bool). IsTrue b ↔ IsSome (k.common t).pending) (sym same.active) (subst (λ (o : Option ℕ). IsTrue (k.common r).active ↔ IsSome o) (sym same.pending) quiet)

    pending-same : (r t : R) → AreSame k r t → IsSome (k.common r).pending → IsSome (k.common t).pending
    pending-same r t same is = subst (λ (o : Option ℕ). IsSome o) (sym same.pending) is

    noted-same : (r t : R) → AreSame k r t → IsSome (k.common t).notification → IsSome (k.common r).notification
    noted-same r t same is = subst (λ (o : Option ℕ). IsSome o) same.notification is

    pub joined_held : (ls ms live : List Live) (ws xs waiting : List Waiting) → AreHeld k rs ls ws → AreHeld k others ms xs → ((x : Waiting) → Contains ws x → IsSome (get rs x.target)) → ((x : Waiting) → Contains xs x → IsSome (get others x.target))
        → waiting ≡ ws ++ xs → HoldersCounted k (resting both live waiting) → AreHeld k both live waiting
    unfolding at
    joined_held ls ms live ws xs waiting one other own others_own is counted = record {
      quiet = λ q here. ⊎_elim
          (λ p. quiet-same (record_at k rs q) (record_at k both q) p.1 (one.quiet q p.0))
          (λ p. quiet-same (record_at k others q) (record_at k both q) p.1 (other.quiet q p.0))
          (joined_from q here);
      holders_await = record {
        records = λ q here noted. ⊎_elim
            (λ p. pending-same (record_at k rs q) (record_at k both q) p.1 (one.holders_await.records q p.0 (noted-same (record_at k rs q) (record_at k both q) p.1 noted)))
            (λ p. pending-same (record_at k others q) (record_at k both q) p.1 (other.holders_await.records q p.0 (noted-same (record_at k others q) (record_at k both q) p.1 noted)))
            (joined_from q here);
        waiting = λ x c here. ⊎_elim
            (λ d. pending-same (record_at k rs x.target) (record_at k both x.target) (first_same x.target (own x d)) (one.holders_await.waiting x d (own x d)))
            (λ d. pending-same (record_at k others x.target) (record_at k both x.target) (second_same x.target (others_own x d)) (other.holders_await.waiting x d (others_own x d)))
            (Contains-append_cases ws xs x (subst (λ (l : List Waiting). Contains l x) is c));
      };
      counted = counted;
    }

-- If a set may become one with another, so may what stays of it.

fewer-case : (n : ℕ) (stay before other : List Live) → (is_live n stay ≡ true → is_live n before ≡ true) → lives n stay ≤ 1 → lives n other ≤ 1 → (b c : Bool) → is_live n stay ≡ b → is_live n before ≡ c → lives n (together stay other) ≤ lives n (together before other)
fewer-case n stay before other only once other_once true c is is_before =
    let here = only is in omega (arith, together-count n stay other true is, together-count n before other true here, live-some n before here, once)
fewer-case n stay before other only once other_once false true is is_before =
    omega (arith, together-count n stay other false is, together-count n before other true is_before, live-some n before is_before, dead n stay is, other_once)
fewer-case n stay before other only once other_once false false is is_before =
    omega (arith, together-count n stay other false is, together-count n before other false is_before, dead n stay is)

module _ {R D : Type 0} (k : RecordRules R) (before other stay : SetState R D) (may : MayBeOne before other) (within : Within k before.records stay.records) (along : WaitsGoAlong before.waiting stay.records stay.waiting)
    (live : AreLive k before.records before.waiting before.live) (holder : (n : ℕ) → is_live n stay.live ≡ true → IsHeld k (now_of stay) n)
    (once : (n : ℕ) → lives n stay.live ≤ 1) (other_once : (n : ℕ) → lives n other.live ≤ 1) (waits_once : (n : ℕ) → how_many (λ (x : Waiting). x.number) n stay.waiting ≤ 1) where
  waited : (x : Waiting) → Contains stay.waiting x → Contains before.waiting x
  waited x c =
      let p : Waiting → Bool = λ w. nat_eq w.target x.target in
      let listed = there-passes p stay.waiting x c (eq-eqb x.target x.target refl) in
      (passes-there p before.waiting x (subst (λ (l : List Waiting). Contains l x) (along.same x.target (along.own x c)) listed)).0

  held-before : (n : ℕ) → IsHeld k (now_of stay) n → is_live n before.live ≡ true
  unfolding at
  held-before n (by_a_record s there is) = live.has s n (within.there s there) (sym (within.same s there).notification ∙ is)
  held-before n (in_a_waiting_list x c) = live.waits x (waited x c)

  waits-case : (n a : ℕ) → how_many (λ (x : Waiting). x.number) n stay.waiting ≡ a → a ≤ 1 → a ≤ how_many (λ (x : Waiting). x.number) n before.waiting
  waits-case n zero is one = omega arith
  waits-case n (suc a) is one =
      let x = counted-there (λ (x : Waiting). x.number) n stay.waiting (omega (arith, is)) in
      let counted : 1 ≤ how_many (λ (x : Waiting). x.number) n before.waiting = subst (λ (q : ℕ). 1 ≤ how_many (λ (x : Waiting). x.number) q before.waiting) x.2 (there-counted (λ (x : Waiting). x.number) before.waiting x.0 (waited x.0 x.1)) in
      omega (arith, counted, one)

  pub stay_may : MayBeOne stay other
  stay_may =
      let live_few = fewer (λ (l : Live). l.number) (λ (l : Live). l.number) (together stay.live other.live) (together before.live other.live)
      (λ n. fewer-case n stay.live before.live other.live (λ is. held-before n (holder n is)) (once n) (other_once n) (is_live n stay.live) (is_live n before.live) refl refl) in
      let waits_few = fewer (λ (x : Waiting). x.number) (λ (x : Waiting). x.number) stay.waiting before.waiting (λ n. waits-case n (how_many (λ (x : Waiting). x.number) n stay.waiting) refl (waits_once n)) in
      record {
        own = along.own;
        others_own = may.others_own;
        apart = λ x y c d. may.apart x y (waited x c) d;
        live_fits = omega (arith, live_few, may.live_fits);
        waiting_fits = omega (arith, waits_few, may.waiting_fits);
      }
