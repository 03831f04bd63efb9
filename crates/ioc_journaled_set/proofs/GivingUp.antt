-- Sets that are separated from their passes and put together again.
use Rattle.std.proofs.lemmas.Bool.{eq-eqb, ne_eqb}
use Rattle.std.proofs.lemmas.List.Sums.{sum_by-cons}
use Rattle.ioc_notify.specs.declared.live_numbers.Live.{Live}
use Rattle.ioc_notify.specs.Counts.{holders_in, has_by}
use Rattle.std.proofs.Common.{◌≡◌, ◌≢◌, Bool, cond, ℕ, zero, suc, ◌<◌, List, [], ◌∷◌, ◌++◌, length, get_or, Option, Some, None, Result, Ok, Err, refl, sym, ap, subst, ◌∙◌, below_more, arith, length-append}
use Rattle.std.specs.Prelude.{IfOk, IfNone, OnErr}
use Rattle.std.specs.Option.{IfSome}
use Rattle.atomic_table.specs.Seated.{TableId}
use Rattle.crossbeam_utils.specs.Seq.{cell_view}
use Rattle.ioc_record.specs.RecordRules.{RecordRules}
use Rattle.std.specs.FinMap.{contains_key, len}
use Rattle.ioc_store.specs.World.{World}
use Rattle.ioc_store.specs.Freeing.{has-cancelled, len-cancelled}
use Rattle.ioc_ledger.specs.Shared.{ShareView}
use Rattle.ioc_journaled_set.proofs.Shares.{counted_alike}
use Rattle.ioc_journal.specs.declared.entry.Note.{Note}
use Rattle.ioc_journal.specs.declared.cell.View.{View}
use Rattle.ioc_journal.specs.Key.{Key}
use Rattle.ioc_journal.specs.Account.{DeskView, AreRecords, AreNoDesks, Pass}
use Rattle.ioc_journaled_set.specs.GiveUpLaws.{GivesUp}
use Rattle.ioc_journaled_set.specs.Sets.{GaveUp, EachGivesUp, EachIsHeldBy, IsHeldBy}
use Rattle.ioc_journal.specs.Legal.{map_of}
use Rattle.ioc_journal.specs.Covering.{Holds}
use Rattle.ioc_set.specs.SetState.{SetState, now_of}
use Rattle.ioc_journaled_set.specs.Holding.{HeldView, IsCounted, IsLent, IsOwner, KeepsDevices, held_view, seen_by}
use Rattle.ioc_journaled_set.specs.GivingUp.{EachIsLent, EachIsCounted, sets_of, HeldGaveUp, AreSameSets}
use Rattle.ioc_journaled_set.proofs.Dealing.{dealt_owner}

front : {X : Type 0} (xs ys : List X) (i : ℕ) (d : X) → i < length xs → get_or (xs ++ ys) i d ≡ get_or xs i d
front [] ys i d lt = absurd (omega (arith, lt))
front (x ∷ xs) ys zero d lt = refl
front (x ∷ xs) ys (suc i) d lt = front xs ys i d (omega (arith, lt))

last : {X : Type 0} (xs : List X) (y d : X) → get_or (xs ++ y ∷ []) (length xs) d ≡ y
last [] y d = refl
last (x ∷ xs) y d = last xs y d

pub sets_push : {R D : Type 0} (xs : List (HeldView R D)) (y : HeldView R D) → sets_of (xs ++ y ∷ []) ≡ sets_of xs ++ y.set ∷ []
sets_push [] y = refl
sets_push (x ∷ xs) y = ap (λ (l : List _). x.set ∷ l) (sets_push xs y)

same_pass : {p q : Pass} → Some p ≡ Some q → p ≡ q
same_pass is = cc

pub set_at : {R D : Type 0} (xs : List (HeldView R D)) (i : ℕ) (d : HeldView R D) (e : SetState R D) → i < length xs → get_or (sets_of xs) i e ≡ (get_or xs i d).set
set_at [] i d e lt = absurd (omega (arith, lt))
set_at (x ∷ xs) zero d e lt = refl
set_at (x ∷ xs) (suc i) d e lt = set_at xs i d e (omega (arith, lt))

pub sets_long : {R D : Type 0} (xs : List (HeldView R D)) → length (sets_of xs) ≡ length xs
sets_long [] = refl
sets_long (x ∷ xs) = ap suc (sets_long xs)

-- Sets as they were are the same sets.
pub own_sets : {R D : Type 0} (xs : List (HeldView R D)) → AreSameSets (sets_of xs) xs
own_sets xs i d e lt = sym (set_at xs i e d (let many = sets_long xs in omega (arith, lt, many)))

-- What is true whatever the result is.
pub on_err_always : {A E X : Type 0} (r : Result A E) → X → OnErr r X
on_err_always (Ok a) x = tt
on_err_always (Err e) x = x

module _ {R D : Type 0} (k : RecordRules R) (base : World R) (had : ℕ → Option D → Type 0) (table : TableId) where
  pub lent_more : (sets : List (SetState R D)) (passes : List (Option Pass)) (h : SetState R D) (s : Option Pass) → length passes ≡ length sets → EachIsLent k base had table sets passes → IsLent k base had table h s
      → EachIsLent k base had table (sets ++ h ∷ []) (passes ++ s ∷ [])
  lent_more sets passes h s same each one i d e lt =
      let P : ℕ → Type 0 = λ j. (d : SetState R D) (e : Option Pass) → IsLent k base had table (get_or (sets ++ h ∷ []) j d) (get_or (passes ++ s ∷ []) j e) in
      let all = length-append sets (h ∷ []) in
      below_more P (length sets)
      (λ j below d e. subst (λ (x : Option Pass). IsLent k base had table (get_or (sets ++ h ∷ []) j d) x) (sym (front passes (s ∷ []) j e (omega (arith, below, same))))
      (subst (λ (x : SetState R D). IsLent k base had table x (get_or passes j e)) (sym (front sets (h ∷ []) j d below)) (each j d e below)))
      (λ d e. subst (λ (x : Option Pass). IsLent k base had table (get_or (sets ++ h ∷ []) (length sets) d) x) (sym (ap (λ (n : ℕ). get_or (passes ++ s ∷ []) n e) (sym same) ∙ last passes s e))
      (subst (λ (x : SetState R D). IsLent k base had table x s) (sym (last sets h d)) one)) i (omega (arith, lt, all)) d e

  pub has_devices : (h h' : SetState R D) (slot : Option Pass) → IsLent k base had table h slot → h' ≡ h → KeepsDevices had h'
  has_devices h h' slot lent same = subst (λ (x : SetState R D). KeepsDevices had x) (sym same) lent.devices

  pub owns_at : (h h' : SetState R D) (slot : Option Pass) (own : Pass) → IsLent k base had table h slot → slot ≡ Some own → h' ≡ h
      → IsOwner table own.table_id (cell_view {V = View} own) (now_of h') × Holds k (map_of k base (cell_view {V = View} own).seen) (now_of h')
  owns_at h h' slot own lent is same =
      subst (λ (p : Pass). IsOwner table p.table_id (cell_view {V = View} p) (now_of h') × Holds k (map_of k base (cell_view {V = View} p).seen) (now_of h')) (same_pass (sym lent.there ∙ is))
      (subst (λ (x : SetState R D). IsOwner table lent.pass.table_id (cell_view {V = View} lent.pass) (now_of x) × Holds k (map_of k base (cell_view {V = View} lent.pass).seen) (now_of x)) (sym same) (lent.owner, lent.holds))

  pub never_empty : (h : SetState R D) (slot : Option Pass) → IsLent k base had table h slot → slot ≡ None → ⊥
  never_empty h slot lent none = let e : Some lent.pass ≡ None = sym lent.there ∙ none in cc

  -- After a call on all of them.

  as_same : (sets sets_then : List (SetState R D)) (passes passes_then : List (Option Pass)) → (sets_then ≡ sets) × (passes_then ≡ passes) → EachIsLent k base had table sets passes → EachIsLent k base had table sets_then passes_then
  as_same sets sets_then passes passes_then same lent = subst (λ (l : List (SetState R D)). EachIsLent k base had table l passes_then) (sym same.0) (subst (λ (l : List (Option Pass)). EachIsLent k base had table sets l) (sym same.1) lent)

  pub lent_of : {most : ℕ} (moment number : ℕ) (desk desk_then : DeskView) (sets sets_then : List (SetState R D)) (passes passes_then : List (Option Pass)) (kept kept_then : View)
      → GaveUp k base table most moment number desk sets kept desk_then sets_then passes_then kept_then → length sets_then ≡ length sets → EachIsLent k base had table sets passes → EachIsLent k base had table sets_then passes_then
  lent_of moment number desk desk_then sets sets_then passes passes_then kept kept_then gu sets_are each i d e lt =
      let dealt = gu.dealt i d e lt in
      let within : i < length sets = omega (arith, lt, sets_are) in
      let gives = gu.gives_up i d within in
      record {
        pass = dealt.pass;
        there = dealt.there;
        owner = dealt_owner table dealt.pass.table_id (cell_view {V = View} dealt.pass) desk_then.seen (get_or sets_then i d) dealt.same dealt.holds;
        holds = subst (λ (l : List Note). Holds k (map_of k base l) (now_of (get_or sets_then i d))) (sym (ap (λ (v : View). v.seen) dealt.holds)) (gu.holds i d lt);
        devices = λ n has. subst (λ (f : ℕ → Option D). had n (f n)) (sym gives.devices)
            ((each i d e within).devices n (sym (has-cancelled k number (now_of (get_or sets i d)) n) ∙ (sym (ap (λ rs. contains_key rs n) gives.records) ∙ has)));
      }

  pub lent_then : {A E : Type 0} (most : ℕ) (Q S T : Type 0) (given : Result (Option A) E) (moment number : ℕ) (desk desk_then : DeskView) (sets sets_then : List (SetState R D)) (passes passes_then : List (Option Pass)) (kept kept_then : View)
      → IfOk given (λ o. IfSome o (λ _. GaveUp k base table most moment number desk sets kept desk_then sets_then passes_then kept_then)) → IfOk given (λ o. IfNone o ((sets_then ≡ sets) × (passes_then ≡ passes) × Q × S × T)) → OnErr given ((sets_then ≡ sets) × (passes_then ≡ passes) × Q × S)
      → length sets_then ≡ length sets → EachIsLent k base had table sets passes → EachIsLent k base had table sets_then passes_then
  lent_then most Q S T (Ok (Some r)) moment number desk desk_then sets sets_then passes passes_then kept kept_then gave missing refused sets_are lent = lent_of moment number desk desk_then sets sets_then passes passes_then kept kept_then gave sets_are lent
  lent_then most Q S T (Ok None) moment number desk desk_then sets sets_then passes passes_then kept kept_then gave missing refused sets_are lent = as_same sets sets_then passes passes_then (missing.0, missing.1) lent
  lent_then most Q S T (Err e) moment number desk desk_then sets sets_then passes passes_then kept kept_then gave missing refused sets_are lent = as_same sets sets_then passes passes_then (refused.0, refused.1) lent

  abbrev AreBack : (held_then : List (HeldView R D)) (sets : List (SetState R D)) (passes : List (Option Pass)) → Type 0
  AreBack held_then sets passes = (i : ℕ) (d : HeldView R D) (e : SetState R D) (f : Option Pass) → i < length held_then → get_or held_then i d ≡ held_view (get_or sets i e) (seen_by (get_or passes i f))

  gave_back : {most : ℕ} (moment number : ℕ) (desk desk_then : DeskView) (sets : List (SetState R D)) (held_then : List (HeldView R D)) (sets_then : List (SetState R D)) (passes_then : List (Option Pass)) (kept kept_then : View)
      → GaveUp k base table most moment number desk sets kept desk_then sets_then passes_then kept_then → AreBack held_then sets_then passes_then → length held_then ≡ length sets → length sets_then ≡ length sets
      → HeldGaveUp k base most moment number desk sets kept desk_then held_then kept_then
  gave_back {most} moment number desk desk_then sets held_then sets_then passes_then kept kept_then gu back long sets_are = record {
    gives_up = λ i d e lt.
        let then : i < length held_then = omega (arith, lt, long) in
        subst (λ (v : HeldView R D). GivesUp k most moment number (get_or sets i d) v.set) (sym (back i e d None then)) (gu.gives_up i d lt);
    call = gu.call;
    seen = λ i d lt.
        let within : i < length sets_then = omega (arith, lt, long, sets_are) in
        let dealt = gu.dealt i d.set None within in
        ap (λ (v : HeldView R D). v.seen) (back i d d.set None lt) ∙ ap (λ (s : Option Pass). seen_by s) dealt.there ∙ ap (λ (v : View). v.seen) dealt.holds;
    keeps = gu.keeps;
    nobody = gu.nobody;
    others = gu.others;
    none_ended = gu.none_ended;
    none_began = gu.none_began;
  }

  same_back : (sets : List (SetState R D)) (held_then : List (HeldView R D)) (sets_then : List (SetState R D)) (passes_then : List (Option Pass)) → sets_then ≡ sets → AreBack held_then sets_then passes_then → length held_then ≡ length sets → AreSameSets sets held_then
  same_back sets held_then sets_then passes_then same back long i d e lt =
      let then : i < length held_then = omega (arith, lt, long) in
      ap (λ (v : HeldView R D). v.set) (back i e d None then) ∙ ap (λ (l : List (SetState R D)). get_or l i d) same

  module _ {A E : Type 0} (most moment number : ℕ) (desk desk_then : DeskView) (sets : List (SetState R D)) (held_then : List (HeldView R D)) (sets_then : List (SetState R D)) (passes_then : List (Option Pass)) (kept kept_then : View)
      (back : AreBack held_then sets_then passes_then) (long : length held_then ≡ length sets) (sets_are : length sets_then ≡ length sets) where
    pub gave_all : (given : Result (Option A) E) → IfOk given (λ o. IfSome o (λ _. GaveUp k base table most moment number desk sets kept desk_then sets_then passes_then kept_then))
        → IfOk given (λ o. IfSome o (λ _. HeldGaveUp k base most moment number desk sets kept desk_then held_then kept_then))
    gave_all (Ok (Some r)) gu = gave_back moment number desk desk_then sets held_then sets_then passes_then kept kept_then gu back long sets_are
    gave_all (Ok None) gu = gu
    gave_all (Err e) gu = gu

  pub missing_all : {A E : Type 0} (Q S T : Type 0) (given : Result (Option A) E) (sets : List (SetState R D)) (held_then : List (HeldView R D)) (sets_then : List (SetState R D)) (passes passes_then : List (Option Pass))
      → AreBack held_then sets_then passes_then → length held_then ≡ length sets
      → IfOk given (λ o. IfNone o ((sets_then ≡ sets) × (passes_then ≡ passes) × Q × S × T)) → IfOk given (λ o. IfNone o (AreSameSets sets held_then × Q × S × T))
  missing_all Q S T (Ok (Some r)) sets held_then sets_then passes passes_then back long h = h
  missing_all Q S T (Ok None) sets held_then sets_then passes passes_then back long h = (same_back sets held_then sets_then passes_then h.0 back long, h.2, h.3, h.4)
  missing_all Q S T (Err e) sets held_then sets_then passes passes_then back long h = h

  pub refused_all : {A E : Type 0} (Q S : Type 0) (given : Result (Option A) E) (sets : List (SetState R D)) (held_then : List (HeldView R D)) (sets_then : List (SetState R D)) (passes passes_then : List (Option Pass))
      → AreBack held_then sets_then passes_then → length held_then ≡ length sets
      → OnErr given ((sets_then ≡ sets) × (passes_then ≡ passes) × Q × S) → OnErr given (AreSameSets sets held_then × Q × S)
  refused_all Q S (Ok o) sets held_then sets_then passes passes_then back long h = h
  refused_all Q S (Err e) sets held_then sets_then passes passes_then back long h = (same_back sets held_then sets_then passes_then h.0 back long, h.2, h.3)

no_desks : (owns : List Key) → AreRecords owns → AreNoDesks owns
no_desks owns records key has desk = let record_key = records key has in absurd (omega (arith, record_key, desk))

module _ {R D : Type 0} (k : RecordRules R) (base : World R) (had : ℕ → Option D → Type 0) (table : TableId) where
  pub held_by : (sets : List (SetState R D)) (passes : List (Option Pass)) → EachIsLent k base had table sets passes → EachIsHeldBy k base table sets passes
  held_by sets passes each i d e lt =
      let one = each i d e lt in
      subst (λ (s : Option Pass). IsHeldBy k base table (get_or sets i d) s) (sym one.there)
      (record { pass = record { same = one.owner.same; holder = one.owner.holder; no_desks = no_desks (cell_view {V = View} one.pass).owns one.owner.records }; covers = one.owner.covers; holds = one.holds })

-- A table with one line.

pub line_has : (n h : ℕ) → holders_in n (record { number = n; holders = h } ∷ []) ≡ h
line_has n h =
    let l : Live = record { number = n; holders = h } in
    let all = sum_by-cons (has_by n) l [] in
    let here : has_by n l ≡ h = ap (λ (b : Bool). cond b h 0) (eq-eqb n n refl) in
    omega (arith, all, here)

pub line_other : (n other h : ℕ) → other ≢ n → holders_in other (record { number = n; holders = h } ∷ []) ≡ 0
line_other n other h apart =
    let l : Live = record { number = n; holders = h } in
    let all = sum_by-cons (has_by other) l [] in
    let here : has_by other l ≡ 0 = ap (λ (b : Bool). cond b h 0) (ne_eqb n other (λ e. apart (sym e))) in
    omega (arith, all, here)

-- The shares beside sets.

module _ {R D : Type 0} where
  pub counted_more : (sets : List (SetState R D)) (shares : List (Option ShareView)) (h : SetState R D) (s : Option ShareView) → length shares ≡ length sets → EachIsCounted sets shares → IsCounted s h → EachIsCounted (sets ++ h ∷ []) (shares ++ s ∷ [])
  counted_more sets shares h s same each one i d e lt =
      let P : ℕ → Type 0 = λ j. (d : SetState R D) (e : Option ShareView) → IsCounted (get_or (shares ++ s ∷ []) j e) (get_or (sets ++ h ∷ []) j d) in
      let all = length-append sets (h ∷ []) in
      below_more P (length sets)
      (λ j below d e. subst (λ (x : Option ShareView). IsCounted x (get_or (sets ++ h ∷ []) j d)) (sym (front shares (s ∷ []) j e (omega (arith, below, same))))
      (subst (λ (x : SetState R D). IsCounted (get_or shares j e) x) (sym (front sets (h ∷ []) j d below)) (each j d e below)))
      (λ d e. subst (λ (x : Option ShareView). IsCounted x (get_or (sets ++ h ∷ []) (length sets) d)) (sym (ap (λ (n : ℕ). get_or (shares ++ s ∷ []) n e) (sym same) ∙ last shares s e))
      (subst (λ (x : SetState R D). IsCounted s x) (sym (last sets h d)) one)) i (omega (arith, lt, all)) d e

  module _ (k : RecordRules R) (moment number : ℕ) (sets sets_then : List (SetState R D)) (shares : List (Option ShareView)) (long : length sets_then ≡ length sets) (each : EachIsCounted sets shares) where
    -- A cancel leaves the counts and the number of records of each set.
    pub counted_given_up : {most : ℕ} → EachGivesUp k most moment number sets sets_then → EachIsCounted sets_then shares
    counted_given_up gives i d e lt =
        let within : i < length sets = omega (arith, lt, long) in
        let up = gives i d within in
        counted_alike (get_or shares i e) (get_or sets i d) (get_or sets_then i d) (ap (λ rs. len rs) up.records ∙ len-cancelled k number (now_of (get_or sets i d))) up.tally (each i d e within)

    as_counted : sets_then ≡ sets → EachIsCounted sets_then shares
    as_counted same = subst (λ (l : List (SetState R D)). EachIsCounted l shares) (sym same) each

    -- After a call on all of them.
    pub still_counted : {A E : Type 0} (most : ℕ) (base : World R) (table : TableId) (Q S T : Type 0) (given : Result (Option A) E) (desk desk_then : DeskView) (passes passes_then : List (Option Pass)) (kept kept_then : View)
        → IfOk given (λ o. IfSome o (λ _. GaveUp k base table most moment number desk sets kept desk_then sets_then passes_then kept_then)) → IfOk given (λ o. IfNone o ((sets_then ≡ sets) × (passes_then ≡ passes) × Q × S × T))
        → OnErr given ((sets_then ≡ sets) × (passes_then ≡ passes) × Q × S) → EachIsCounted sets_then shares
    still_counted most base table Q S T (Ok (Some r)) desk desk_then passes passes_then kept kept_then gave missing refused = counted_given_up gave.gives_up
    still_counted most base table Q S T (Ok None) desk desk_then passes passes_then kept kept_then gave missing refused = as_counted missing.0
    still_counted most base table Q S T (Err e) desk desk_then passes passes_then kept kept_then gave missing refused = as_counted refused.0
