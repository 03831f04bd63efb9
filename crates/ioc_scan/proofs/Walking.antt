-- The tree of list members is the map of all records on lists, by their positions.
use Rattle.std.proofs.Common.{◌≡◌, ◌≢◌, ℕ, zero, suc, ◌+◌, ◌⊎◌, inl, inr, ⊎_elim, Bool, true, false, cond, T, Ok, Err, Option, Some, None, List, [], ◌∷◌, ◌++◌, refl, sym, ap, ◌∙◌, subst, arith}
use Rattle.std.specs.Prelude.{◌&&◌, All, Result, OnOk}
use Rattle.std.proofs.lemmas.List.Elements.{All-head, All-tail, All-from_recursion}
use Rattle.std.specs.List.Sorted.{IsStrictlySortedBy}
use Rattle.std.specs.declared.cmp.Ordering.{Ordering}
use Rattle.std.specs.declared.cmp.Ordering.TheVariants.{Less}
use Rattle.std.specs.Ordering.{is_lt, eq_by_cmp}
use Rattle.std.specs.List.{filter}
use Rattle.std.specs.Map.{lookup, keys_of, values_of}
use Rattle.std.proofs.lemmas.Map.Entries.{lookup-filter-keys}
use Rattle.std.specs.FinMap.{entries, from_entries, entries_sorted, get-entries, get-from_entries}
use Rattle.std.specs.FinMap.Entries.{find, is_sorted, below_all, same_entries}
use Rattle.std.specs.BTreeMap.{BTreeMap, IsOrdered, get}
use Rattle.std.proofs.lemmas.Map.Keys.{sorted_head, sorted_tail}
use Rattle.std.proofs.lemmas.Map.Views.{tells_apart}
use Rattle.ioc_scan.specs.contracts.position.PositionOrd.TheImpl as order_of
use Rattle.ioc_scan.specs.declared.list_name.ListName.{ListName}
use Rattle.ioc_scan.specs.declared.list_name.Placement.{Placement}
use Rattle.ioc_scan.specs.declared.position.Position.{Position}
use Rattle.ioc_scan.specs.declared.position.Listed.{Listed}
use Rattle.ioc_scan.specs.declared.position.ListEntry.{ListEntry}
use Rattle.ioc_scan.specs.Positions.{position, listed, entry_of}
use Rattle.ioc_scan.specs.Scanned.{Scanned}
use Rattle.ioc_scan.specs.Members.{AreIndexed, HasAll}
use Rattle.ioc_scan.specs.Standing.{standing, within}
use Rattle.ioc_scan.specs.Walked.{standing_by, all_standing, walked}
use Rattle.ioc_scan.proofs.Ordered.{exact, itself, total, list_within}
use Rattle.ioc_scan.proofs.Agreement.{so_placed}

abbrev cmp : Position → Position → Ordering
cmp = order_of.ghosts.cmp

both : (a b : Bool) → T a → T b → T (a && b)
both true b p q = q
both false b p q = p

apart : (a b : Bool) → T (a && b) → T a × T b
apart true b p = (tt, p)
apart false b p = absurd p

below : (k : Position) (es : List (Position × Listed)) → All (λ y. cmp k y ≡ Less) (keys_of es) → T (below_all cmp k es)
below k [] h = tt
below k (e ∷ es) h = both (is_lt (cmp k e.0)) (below_all cmp k es) (subst (λ o. T (is_lt o)) (sym (All-head (λ y. cmp k y ≡ Less) e.0 (keys_of es) h)) tt) (below k es (All-tail (λ y. cmp k y ≡ Less) e.0 (keys_of es) h))

-- Strictly sorted keys pass the test for sortedness.
rising : (es : List (Position × Listed)) → IsStrictlySortedBy cmp (keys_of es) → T (is_sorted cmp es)
rising [] s = tt
rising (e ∷ es) s = both (below_all cmp e.0 es) (is_sorted cmp es) (below e.0 es (All-from_recursion (λ y. cmp e.0 y ≡ Less) (keys_of es) (sorted_head cmp e.0 (keys_of es) s))) (rising es (sorted_tail cmp e.0 (keys_of es) s))

found_by : (q : Position) (es : List (Position × Listed)) → find cmp q es ≡ lookup (eq_by_cmp cmp q) es
found_by q [] = refl
found_by q (e ∷ es) = ap (cond (eq_by_cmp cmp q e.0) (Some e.1)) (found_by q es)

-- Holds if one of these entries' records is at the position. The first of them is that of record
-- `n`.
abbrev Stands : ℕ → List ListEntry → Position → Listed → Type 0
Stands n es k x = (i : ℕ) × (n + i ≡ x.number) × ((entry_of es i).place ≡ Some (record { list = k.list; phase = k.phase; priority = x.priority })) × ((entry_of es i).order ≡ k.order)

abbrev Here : Option Placement → ℕ → ℕ → Position → Listed → Type 0
Here o order n k x = (p : Placement) × (o ≡ Some p) × (k ≡ position p order) × (listed n p ≡ x)

found_first : (b : Bool) (p : Placement) (order n : ℕ) (k : Position) (x : Listed) (rest : Option Listed)
    → eq_by_cmp cmp k (position p order) ≡ b → cond b (Some (listed n p)) rest ≡ Some x → Here (Some p) order n k x ⊎ (rest ≡ Some x)
found_first true p order n k x rest t e = inl (p, refl, tells_apart exact k (position p order) t, let s : listed n p ≡ x = cc in s)
found_first false p order n k x rest t e = inr e

found_in : (o : Option Placement) (order n : ℕ) (k : Position) (x : Listed) (rest : List (Position × Listed))
    → find cmp k (standing_by n o order ++ rest) ≡ Some x → Here o order n k x ⊎ (find cmp k rest ≡ Some x)
found_in None order n k x rest e = inr e
found_in (Some p) order n k x rest e = found_first (eq_by_cmp cmp k (position p order)) p order n k x (find cmp k rest) refl e

first_stands : (e : ListEntry) (es : List ListEntry) (n : ℕ) (k : Position) (x : Listed) → Here e.place e.order n k x → Stands n (e ∷ es) k x
first_stands e es n k x h = (
  zero,
  (let s : x.number ≡ n = ap (λ (v : Listed). v.number) (sym h.3) in omega arith),
  (h.1 ∙ ap Some (so_placed h.0 e.order k x.priority h.2 (ap (λ (v : Listed). v.priority) h.3))),
  ap (λ (v : Position). v.order) (sym h.2),
)

found : (n : ℕ) (es : List ListEntry) (k : Position) (x : Listed) → find cmp k (all_standing n es) ≡ Some x → Stands n es k x
found n [] k x e = cc
found n (v ∷ es) k x e =
    ⊎_elim
    (first_stands v es n k x)
    (λ later. let s = found (1 + n) es k x later in (suc s.0, (let i : (1 + n) + s.0 ≡ x.number = s.1 in omega arith), s.2, s.3))
    (found_in v.place v.order n k x (all_standing (1 + n) es) e)

first_there : (b : Bool) (x : Listed) (rest : Option Listed) → b ≡ true → cond b (Some x) rest ≢ None
first_there true x rest e = λ n. cc
first_there false x rest e = λ n. cc

later_there : (b : Bool) (x : Listed) (rest : Option Listed) → rest ≢ None → cond b (Some x) rest ≢ None
later_there true x rest h = λ n. cc
later_there false x rest h = h

found_at_once : (o : Option Placement) (order n : ℕ) (k : Position) (p : Placement) (rest : List (Position × Listed))
    → o ≡ Some p → position p order ≡ k → find cmp k (standing_by n o order ++ rest) ≢ None
found_at_once None order n k p rest e is = cc
found_at_once (Some q) order n k p rest e is =
    let same : q ≡ p = cc in
    first_there (eq_by_cmp cmp k (position q order)) (listed n q) (find cmp k rest)
    (ap (eq_by_cmp cmp k) (ap (λ (v : Placement). position v order) same ∙ is) ∙ itself k)

found_later : (o : Option Placement) (order n : ℕ) (k : Position) (rest : List (Position × Listed)) → find cmp k rest ≢ None → find cmp k (standing_by n o order ++ rest) ≢ None
found_later None order n k rest h = h
found_later (Some p) order n k rest h = later_there (eq_by_cmp cmp k (position p order)) (listed n p) (find cmp k rest) h

abbrev at_order : Position → ℕ → Position
at_order k order = record { list = k.list; phase = k.phase; order = order }

there : (n : ℕ) (es : List ListEntry) (i : ℕ) (k : Position) (x : Listed)
    → (entry_of es i).place ≡ Some (record { list = k.list; phase = k.phase; priority = x.priority }) → (entry_of es i).order ≡ k.order → find cmp k (all_standing n es) ≢ None
there n [] i k x e o = cc
there n (v ∷ es) zero k x e o =
    found_at_once v.place v.order n k (record { list = k.list; phase = k.phase; priority = x.priority }) (all_standing (1 + n) es) e (ap (λ (m : ℕ). at_order k m) o)
there n (v ∷ es) (suc i) k x e o = found_later v.place v.order n k (all_standing (1 + n) es) (there (1 + n) es i k x e o)

either_way : (o g : Option Listed) → ((x : Listed) → o ≡ Some x → g ≡ Some x) → ((x : Listed) → g ≡ Some x → o ≢ None) → o ≡ g
either_way None None f h = refl
either_way None (Some x) f h = absurd (h x refl refl)
either_way (Some x) g f h = sym (f x refl)

-- Entries that a test of their keys keeps are sorted, as all are.
below_kept : (p : Position → Bool) (k : Position) (b : Bool) (e : Position × Listed) (es : List (Position × Listed))
    → T (is_lt (cmp k e.0)) → T (below_all cmp k (filter (λ y. p y.0) es)) → T (below_all cmp k (cond b (e ∷ filter (λ y. p y.0) es) (filter (λ y. p y.0) es)))
below_kept p k true e es first rest = both (is_lt (cmp k e.0)) (below_all cmp k (filter (λ y. p y.0) es)) first rest
below_kept p k false e es first rest = rest

below_filter : (p : Position → Bool) (k : Position) (es : List (Position × Listed)) → T (below_all cmp k es) → T (below_all cmp k (filter (λ y. p y.0) es))
below_filter p k [] h = h
below_filter p k (e ∷ es) h = let parts = apart (is_lt (cmp k e.0)) (below_all cmp k es) h in below_kept p k (p e.0) e es parts.0 (below_filter p k es parts.1)

sorted_kept : (p : Position → Bool) (b : Bool) (e : Position × Listed) (es : List (Position × Listed))
    → T (below_all cmp e.0 (filter (λ y. p y.0) es)) → T (is_sorted cmp (filter (λ y. p y.0) es)) → T (is_sorted cmp (cond b (e ∷ filter (λ y. p y.0) es) (filter (λ y. p y.0) es)))
sorted_kept p true e es first rest = both (below_all cmp e.0 (filter (λ y. p y.0) es)) (is_sorted cmp (filter (λ y. p y.0) es)) first rest
sorted_kept p false e es first rest = rest

sorted_filter : (p : Position → Bool) (es : List (Position × Listed)) → T (is_sorted cmp es) → T (is_sorted cmp (filter (λ y. p y.0) es))
sorted_filter p [] h = h
sorted_filter p (e ∷ es) h = let parts = apart (below_all cmp e.0 es) (is_sorted cmp es) h in sorted_kept p (p e.0) e es (below_filter p e.0 es parts.0) (sorted_filter p es parts.1)

-- What is found in the part of a list.
found_within : (list : ListName) (q : Position) (es : List (Position × Listed)) → find cmp q (filter (λ y. within list y.0) es) ≡ cond (within list q) (find cmp q es) None
found_within list q es =
    found_by q (filter (λ y. within list y.0) es)
    ∙ lookup-filter-keys (eq_by_cmp cmp q) (within list) (within list q) (λ k e. ap (within list) (sym (tells_apart exact q k e))) es
    ∙ ap (λ (o : Option Listed). cond (within list q) o None) (sym (found_by q es))

if_within : (b : Bool) (o g : Option Listed) → (b ≡ true → o ≡ g) → cond b o None ≡ cond b g None
if_within true o g h = h refl
if_within false o g h = refl

module _ (es : List ListEntry) (last upto : ℕ) (m : BTreeMap Position Listed) (list : ListName) (indexed : AreIndexed es last upto m) (has : HasAll es upto list) (ordered : IsOrdered order_of.ghosts.cmp m) where
  abbrev all : List (Position × Listed)
  all = all_standing 0 es

  abbrev tree : List (Position × Listed)
  tree = entries (from_entries {R = cmp} all)

  same_found : (k : Position) → k.list ≡ list → find cmp k all ≡ get cmp m k
  same_found k on =
      either_way (find cmp k all) (get cmp m k)
      (λ x e.
      let s = found 0 es k x e in
      let same : s.0 ≡ x.number = omega (arith, s.1) in
      let place : (entry_of es x.number).place ≡ Some (record { list = k.list; phase = k.phase; priority = x.priority }) =
      subst (λ (v : ℕ). (entry_of es v).place ≡ Some (record { list = k.list; phase = k.phase; priority = x.priority })) same s.2 in
      indexed.found k x (place, subst (λ (v : ℕ). (entry_of es v).order ≡ k.order) same s.3) (has x.number (record { list = k.list; phase = k.phase; priority = x.priority }) place on))
      (λ x e. let s = indexed.there k x e in there 0 es x.number k x s.0 s.1)

  same_part : filter (λ y. within list y.0) tree ≡ filter (λ y. within list y.0) m.entries
  same_part =
      same_entries cmp total exact (filter (λ y. within list y.0) tree) (filter (λ y. within list y.0) m.entries)
      (sorted_filter (within list) tree (entries_sorted (from_entries {R = cmp} all)))
      (sorted_filter (within list) m.entries (rising m.entries ordered))
      (λ q. found_within list q tree
      ∙ if_within (within list q) (find cmp q tree) (find cmp q m.entries)
      (λ e. sym (get-entries (from_entries {R = cmp} all) q) ∙ get-from_entries total all q ∙ same_found q (list_within list q e) ∙ sym (found_by q m.entries))
      ∙ sym (found_within list q m.entries))

  -- The walk of the tree is the walk of the entries.
  pub same_walk : standing list m.entries ≡ walked (record { entries = es; last = last }) list
  unfolding walked
  same_walk = ap (λ (part : List (Position × Listed)). values_of part) (sym same_part)

on_ok : {T E : Type 0} (r : Result T E) (P Q : Type 0) → OnOk r P → (P → Q) → OnOk r Q
on_ok r P Q p f = elim r as (λ v. OnOk v P → OnOk v Q) [ Ok x ↦ f | Err e ↦ λ q. tt ] p

-- What is written of a list into an empty buffer is its walk.
pub written_walk : {X E : Type 0} (r : Result X E) (v : Scanned) (es : List ListEntry) (last upto : ℕ) (m : BTreeMap Position Listed) (list : ListName) (before after : List Listed)
    → AreIndexed es last upto m → HasAll es upto list → IsOrdered order_of.ghosts.cmp m → record { entries = es; last = last } ≡ v → before ≡ [] → OnOk r (after ≡ before ++ standing list m.entries) → OnOk r (after ≡ walked v list)
written_walk r v es last upto m list before after indexed has ordered is none ok =
    on_ok r (after ≡ before ++ standing list m.entries) (after ≡ walked v list) ok
    (λ e. e ∙ ap (λ (xs : List Listed). xs ++ standing list m.entries) none ∙ same_walk es last upto m list indexed has ordered ∙ ap (λ (s : Scanned). walked s list) is)
