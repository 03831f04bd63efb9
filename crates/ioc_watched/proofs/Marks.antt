-- What the marks of watched records after an event mean for what was told of them.
use Rattle.std.proofs.Common.{◌≡◌, ℕ, zero, suc, ◌<◌, ◌+◌, Bool, true, false, List, [], ◌∷◌, ◌++◌, take, length, map, get_or, sym, ap, ◌∙◌, subst, refl, ⊎_elim, arith}
use Rattle.std.proofs.lemmas.List.{length-append, length-take-le, take_more, map-append, append_assoc}
use Rattle.std.specs.Prelude.{All, Contains, IsTrue}
use Rattle.std.specs.List.{filter}
use Rattle.std.proofs.Math.ListN.{length-map, get_or-map}
use Rattle.std.proofs.lemmas.List.Elements.{All-append, All-filter, All-map, Contains-append_cases, Contains-append_left, Contains-push, filter_passes}
use Rattle.ioc_events.proofs.RecordLists.{there-passes}
use Rattle.std.specs.FinMap.{contains_key}
use Rattle.ioc_record.specs.RecordRules.{RecordRules}
use Rattle.ioc_set_records.specs.Contents.{Records, record_at}
use Rattle.ioc_store.specs.World.{World}
use Rattle.ioc_journal.specs.declared.entry.Note.{Note}
use Rattle.ioc_journal.specs.Legal.{map_of}
use Rattle.ioc_watched.specs.Watched.{WatchedRecord, AreFresh, IsWatched, StayWatched, marked, told_up_to}
use Rattle.ioc_watched.specs.Marking.{AreMarkedOn}

-- Lists whose items have the same values by a function.
maps_alike : {X Y : Type 0} (f : X → Y) (xs ys : List X) → length xs ≡ length ys → ((i : ℕ) (d e : X) → i < length ys → f (get_or xs i d) ≡ f (get_or ys i e)) → map f xs ≡ map f ys
maps_alike f [] [] long each = refl
maps_alike f [] (y ∷ ys) long each = absurd (omega arith)
maps_alike f (x ∷ xs) [] long each = absurd (omega arith)
maps_alike f (x ∷ xs) (y ∷ ys) long each =
    let first = each zero x y (omega arith) in
    let rest = maps_alike f xs ys (omega arith) (λ j d e below. each (suc j) d e (omega arith)) in
    λ i. first i ∷ rest i

module _ {R : Type 0} (k : RecordRules R) (before now : Records R) (ws then : List WatchedRecord) (are : AreMarkedOn k before now ws then) where
  pub stay_watched : StayWatched ws then
  stay_watched = maps_alike told_up_to then ws are.count (λ i d e below. (are.each i e d below).same)

  pub fresh_then : (base : World R) → All (λ (w : WatchedRecord). IsTrue (contains_key now w.number)) ws → AreFresh k base before ws → AreFresh k base now then
  fresh_then base here fresh i d below =
      let within : i < length ws = let count = are.count in omega arith in
      let one = are.each i d d within in
      let was = fresh i d within in
      record {
        here = subst (λ (p : ℕ × List Note). IsTrue (contains_key now p.0)) (sym one.same) (here i d within);
        fresh = λ unmarked.
            let kept = one.kept unmarked in
            subst (λ (p : ℕ × List Note). record_at k (map_of k base p.1).records p.0 ≡ record_at k now p.0) (sym one.same) (was.fresh kept.0 ∙ kept.1);
      }

-- A watched record of a set is watched on once all are marked and those of the set are kept.
pub marked_on : {R : Type 0} (rs : Records R) (ws : List WatchedRecord) (n : ℕ) → IsWatched n ws → IsTrue (contains_key rs n) → IsWatched n (filter (λ (w : WatchedRecord). contains_key rs w.number) (map marked ws))
marked_on rs ws n watched has =
    let w = watched.0 in
    let at = watched.1 in
    let there : Contains (map marked ws) (marked w) = (at.0, (let same = length-map ws marked in let below = at.1 in omega arith), get_or-map marked ws at.0 w ∙ ap marked at.2) in
    (marked w, there-passes (λ (v : WatchedRecord). contains_key rs v.number) (map marked ws) (marked w) there (ap (contains_key rs) watched.2 ∙ has), watched.2)

pub marked_fresh : {R : Type 0} (k : RecordRules R) (base : World R) (rs : Records R) (ws : List WatchedRecord) → AreFresh k base rs (filter (λ (w : WatchedRecord). contains_key rs w.number) (map marked ws))
marked_fresh k base rs ws i d below =
    let test : WatchedRecord → Bool = λ w. contains_key rs w.number in
    let are = All-filter test (λ w. w.is_marked ≡ true) (map marked ws) (All-map (λ (w : WatchedRecord). w.is_marked ≡ true) marked ws (λ j e within. refl)) in
    let one = are i d below in
    record { here = filter_passes test (map marked ws) i d below; fresh = λ unmarked. let e : true ≡ false = sym one ∙ unmarked in cc }

-- The numbers that were copied so far fit into room for all, and so do those with one more.
pub numbers_fit : (before : List ℕ) (ws : List WatchedRecord) (i : ℕ) (numbers : List ℕ) → numbers ≡ before ++ map (λ (w : WatchedRecord). w.number) (take i ws) → i < length ws → length numbers < length before + length ws
numbers_fit before ws i numbers is within =
    let all = ap length is in
    let both = length-append before (map (λ (w : WatchedRecord). w.number) (take i ws)) in
    let each = length-map (take i ws) (λ (w : WatchedRecord). w.number) in
    let few = length-take-le i ws (omega arith) in
    omega arith

pub numbers_copied : (before : List ℕ) (ws : List WatchedRecord) (i : ℕ) (numbers : List ℕ) (w : WatchedRecord) → numbers ≡ before ++ map (λ (w : WatchedRecord). w.number) (take i ws) → i < length ws → w ≡ get_or ws i w
    → numbers ++ w.number ∷ [] ≡ before ++ map (λ (w : WatchedRecord). w.number) (take (i + 1) ws)
numbers_copied before ws i numbers w is within at =
    ap (λ (l : List ℕ). l ++ w.number ∷ []) is
    ∙ append_assoc before (map (λ (w : WatchedRecord). w.number) (take i ws)) (w.number ∷ [])
    ∙ ap (λ (l : List ℕ). before ++ l) (sym (map-append (λ (w : WatchedRecord). w.number) (take i ws) (w ∷ [])))
    ∙ ap (λ (l : List WatchedRecord). before ++ map (λ (w : WatchedRecord). w.number) l) (sym (take_more ws i w within ∙ ap (λ (x : WatchedRecord). take i ws ++ x ∷ []) (sym at)))

-- One more number was looked at: its record is watched if the set has it.
module _ {R : Type 0} (rs : Records R) (numbers : List ℕ) (i n : ℕ) (more : take (i + 1) numbers ≡ take i numbers ++ n ∷ []) (ws : List WatchedRecord) where
  abbrev AllWatched : List ℕ → List WatchedRecord → Type 0
  AllWatched ns vs = (m : ℕ) → Contains ns m → IsTrue (contains_key rs m) → IsWatched m vs

  of_last : (m : ℕ) → Contains (n ∷ []) m → m ≡ n
  of_last m c = last_is c.0 c.1 c.2
    where
      last_is : (j : ℕ) → j < 1 → get_or (n ∷ []) j m ≡ m → m ≡ n
      last_is zero l e = sym e
      last_is (suc j) l e = absurd (omega arith)

  pub added_watched : (w : WatchedRecord) → w.number ≡ n → AllWatched (take i numbers) ws → AllWatched (take (i + 1) numbers) (ws ++ w ∷ [])
  added_watched w is all m there has =
      ⊎_elim
      (λ old. let one = all m old has in (one.0, Contains-append_left ws (w ∷ []) one.0 one.1, one.2))
      (λ last. (w, Contains-push ws w, is ∙ sym (of_last m last)))
      (Contains-append_cases (take i numbers) (n ∷ []) m (subst (λ (l : List ℕ). Contains l m) more there))

  pub left_watched : contains_key rs n ≡ false → AllWatched (take i numbers) ws → AllWatched (take (i + 1) numbers) ws
  left_watched none all m there has =
      ⊎_elim
      (λ old. all m old has)
      (λ last. let e : true ≡ false = sym has ∙ ap (contains_key rs) (of_last m last) ∙ none in absurd (let z : ⊥ = cc in z))
      (Contains-append_cases (take i numbers) (n ∷ []) m (subst (λ (l : List ℕ). Contains l m) more there))

  pub added_marked : (w : WatchedRecord) → IsTrue (contains_key rs w.number) → w.is_marked ≡ true → All (λ (v : WatchedRecord). IsTrue (contains_key rs v.number) × (v.is_marked ≡ true)) ws
      → All (λ (v : WatchedRecord). IsTrue (contains_key rs v.number) × (v.is_marked ≡ true)) (ws ++ w ∷ [])
  added_marked w here marked all = All-append (λ (v : WatchedRecord). IsTrue (contains_key rs v.number) × (v.is_marked ≡ true)) ws (w ∷ []) all one
    where
      one : All (λ (v : WatchedRecord). IsTrue (contains_key rs v.number) × (v.is_marked ≡ true)) (w ∷ [])
      one zero d l = (here, marked)
      one (suc j) d l = absurd (omega arith)
