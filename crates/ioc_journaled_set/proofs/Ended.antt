-- Those that have ended on a set and are live nowhere are those that have ended among all records.
use Rattle.std.proofs.Common.{◌≡◌, ◌↔◌, ℕ, zero, suc, ◌<◌, Bool, true, false, List, [], ◌∷◌, ◌++◌, refl, sym, ap, ◌∙◌, subst, arith}
use Rattle.std.specs.Prelude.{Contains, IsTrue, not}
use Rattle.std.specs.List.{filter}
use Rattle.ioc_notify.specs.declared.live_numbers.Live.{Live}
use Rattle.ioc_notify.specs.Living.{holders_of, is_live}
use Rattle.ioc_notify.specs.Counts.{IsTable, holders_in, lines_of}
use Rattle.ioc_record.specs.RecordRules.{RecordRules}
use Rattle.ioc_store.specs.World.{World}
use Rattle.ioc_events.specs.Holding.{IsCounted, EndsExactly}
use Rattle.ioc_journal.specs.declared.entry.Note.{Note}
use Rattle.ioc_journal.specs.Legal.{entry_of, map_of, IsLegal, IsSound}
use Rattle.ioc_journal.specs.Laws.{EndsLast}
use Rattle.ioc_set.proofs.Gathered.{passes-there, there-passes}
use Rattle.ioc_journaled_set.specs.Puts.{AreCounted, HaveEnded}
use Rattle.ioc_journaled_set.proofs.Serving.{nothing_there}
use Rattle.ioc_journaled_set.proofs.Telling.{live_in, same_live}

zero_if : (b : Bool) (a : ℕ) → (0 < a → b ≡ true) → not b ≡ true → a ≡ 0
zero_if true a some is = absurd (let no : false ≡ true = is in cc)
zero_if false zero some is = refl
zero_if false (suc a) some is = absurd (let no : false ≡ true = some (omega arith) in cc)

not_if : (b : Bool) (a : ℕ) → (b ≡ true → 0 < a) → a ≡ 0 → not b ≡ true
not_if true a some none = absurd (let some = some refl in omega (arith, some, none))
not_if false a some none = refl

module _ {R : Type 0} (k : RecordRules R) (base : World R) where
  -- What has ended by the last call of a legal list.
  pub ends_so : EndsLast k → (log longer : List Note) (n : Note) → longer ≡ log ++ n ∷ [] → IsSound k base → IsLegal k base longer
      → EndsExactly k (map_of k base log) (entry_of n).call (map_of k base longer)
  ends_so law log longer n is sound legal =
      subst (λ (l : List Note). EndsExactly k (map_of k base log) (entry_of n).call (map_of k base l)) (sym is) (law base log n sound (subst (λ (l : List Note). IsLegal k base l) is legal))

  both_ways : {A B C : Type 0} → A ↔ B → B ↔ C → A ↔ C
  both_ways x y = ((λ a. y.0 (x.0 a)), (λ c. x.1 (y.1 c)))

  -- The table with the counts of all records tells which of those that ended on the set have ended.
  pub have_ended : (before : List Note) (last : Note) (lines_tell : (ls : List Live) (n : ℕ) → IsTrue (is_live n ls) ↔ (0 < lines_of n ls)) (held : (ls : List Live) (m : ℕ) → IsTable ls → IsTrue (is_live m ls) ↔ (0 < holders_in m ls))
      → (on_set numbers : List ℕ) (seen : List Note) (lines : List Live) → IsTable lines → AreCounted k base lines seen → IsCounted k (map_of k base seen)
      → ((n : ℕ) → Contains (map_of k base seen).ended n ↔ (Contains on_set n × (holders_of n (map_of k base seen).live ≡ 0)))
      → numbers ≡ filter (λ n. not (is_live n lines)) on_set → seen ≡ before ++ last ∷ [] → EndsExactly k (map_of k base before) (entry_of last).call (map_of k base seen)
      → HaveEnded k base on_set seen numbers
  have_ended before last lines_tell held on_set numbers seen lines table counts counted ends is is_last exactly =
      let w = map_of k base seen in
      let same : (n : ℕ) → is_live n lines ≡ is_live n w.live = λ n. same_live k lines_tell lines w n table held counted (counts n) in
      let test : ℕ → Bool = λ n. not (is_live n w.live) in
      let order : numbers ≡ filter test on_set = is ∙ (λ i. filter (λ n. not (same n i)) on_set) in
      let live = λ (n : ℕ). live_in k lines_tell w n counted in
      let of_all : (n : ℕ) → Contains numbers n ↔ Contains w.ended n = λ n. (
        λ has. (let both = passes-there test on_set n (subst (λ (l : List ℕ). Contains l n) order has) in (ends n).1 (both.0, zero_if (is_live n w.live) (holders_of n w.live) (live n).1 both.1)),
        λ over. (let both = (ends n).0 over in subst (λ (l : List ℕ). Contains l n) (sym order) (there-passes test on_set n both.0 (not_if (is_live n w.live) (holders_of n w.live) (live n).0 both.1))),
      ) in
      record {
        before = before;
        last = last;
        ends = is_last;
        exactly = λ n. both_ways (of_all n) (exactly.ended n);
        of_all = of_all;
        in_order = order;
      }

  -- Nothing has ended.
  pub none_have_ended : (before : List Note) (last : Note) (on_set numbers : List ℕ) (seen : List Note) → on_set ≡ [] → numbers ≡ [] → ((n : ℕ) → Contains (map_of k base seen).ended n → ⊥)
      → seen ≡ before ++ last ∷ [] → EndsExactly k (map_of k base before) (entry_of last).call (map_of k base seen) → HaveEnded k base on_set seen numbers
  none_have_ended before last on_set numbers seen none_here none nowhere is_last exactly =
      let of_all : (n : ℕ) → Contains numbers n ↔ Contains (map_of k base seen).ended n = λ n. (
        λ has. absurd (nothing_there n (subst (λ (l : List ℕ). Contains l n) none has)),
        λ over. absurd (nowhere n over),
      ) in
      record {
        before = before;
        last = last;
        ends = is_last;
        exactly = λ n. both_ways (of_all n) (exactly.ended n);
        of_all = of_all;
        in_order = none ∙ sym (ap (λ (l : List ℕ). filter (λ n. not (is_live n (map_of k base seen).live)) l) none_here);
      }
