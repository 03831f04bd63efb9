-- The records between the bounds of a list are on it, in phase order.
use Rattle.std.proofs.Common.{◌≡◌, ℕ, ◌^◌, ◌<◌, ◌≤◌, Bool, true, false, cond, Option, Some, None, List, [], ◌∷◌, ◌++◌, get_or, refl, sym, ap, ◌∙◌, subst, arith}
use Rattle.std.specs.Prelude.{Result, Ok, Err, OnOk, option_map, Contains, slice_get}
use Rattle.std.specs.declared.ops.Bound.TheVariants.{Included}
use Rattle.std.specs.List.{filter}
use Rattle.std.specs.List.Sorted.{IsStrictlySortedBy}
use Rattle.std.specs.declared.cmp.Ordering.TheVariants.{Less}
use Rattle.std.specs.Map.{lookup, keys_of}
use Rattle.std.specs.BTreeMap.{BTreeMap, IsOrdered, get}
use Rattle.std.specs.BTreeMap.Range.{entries_between}
use Rattle.std.specs.Ordering.{eq_by_cmp}
use Rattle.std.specs.Cmp.{IsEquivalence}
use Rattle.std.proofs.lemmas.Cmp.{eq_by_cmp_equiv}
use Rattle.std.proofs.lemmas.Option.{slice_get_within, get_or_from_slice_get, slice_get-get_or, slice_get-map}
use Rattle.std.proofs.lemmas.List.Kept.{IsStrictlySortedBy-filter}
use Rattle.std.proofs.lemmas.Map.Keys.{IsDistinct-from_sorted, Less-from_sorted}
use Rattle.std.proofs.lemmas.Map.Entries.{lookup-filter-keys, place_from_lookup, lookup_from_place}
use Rattle.std.proofs.lemmas.Map.Views.{tells_apart}
use Rattle.ioc_scan.specs.contracts.position.PositionOrd.TheImpl as order_of
use Rattle.ioc_scan.specs.declared.list_name.ListName.{ListName}
use Rattle.ioc_scan.specs.declared.list_name.Placement.{Placement}
use Rattle.ioc_scan.specs.declared.position.Position.{Position}
use Rattle.ioc_scan.specs.declared.position.Listed.{Listed}
use Rattle.ioc_scan.specs.declared.position.ListEntry.{ListEntry}
use Rattle.ioc_scan.specs.Positions.{entry_of}
use Rattle.ioc_scan.specs.Scanned.{Scanned, IsOn, Precedes, InPhaseOrder}
use Rattle.ioc_scan.specs.Members.{StandsAt, AreIndexed, HasAll}
use Rattle.ioc_scan.specs.Standing.{low, high, within, standing}
use Rattle.ioc_scan.proofs.Ordered.{exact, total, list_within, within_list, precedes}

keys_kept : {K X : Type 0} (p : K → Bool) (es : List (K × X)) → keys_of (filter (λ e. p e.0) es) ≡ filter p (keys_of es)
keys_kept p [] = refl
keys_kept p (e ∷ es) = kept_by p (p e.0) e es (keys_kept p es)
  where
    kept_by : {K X : Type 0} (p : K → Bool) (b : Bool) (e : K × X) (es : List (K × X)) → keys_of (filter (λ e. p e.0) es) ≡ filter p (keys_of es) → keys_of (cond b (e ∷ filter (λ e. p e.0) es) (filter (λ e. p e.0) es)) ≡ cond b (e.0 ∷ filter p (keys_of es)) (filter p (keys_of es))
    kept_by p true e es h = ap (λ ks. e.0 ∷ ks) h
    kept_by p false e es h = h

of_some : {K X : Type 0} (o : Option (K × X)) (x : X) → option_map (λ e. e.1) o ≡ Some x → (k : K) × (o ≡ Some (k, x))
of_some None x e = cc
of_some (Some y) x e = (y.0, let s : y.1 ≡ x = cc in ap (λ v. Some (y.0, v)) s)

same_phase : (o : Option Placement) (p : Placement) (k : Position) (x : Listed) → o ≡ Some p → o ≡ Some (record { list = k.list; phase = k.phase; priority = x.priority }) → p.phase ≡ k.phase
same_phase None p k x e f = cc
same_phase (Some v) p k x e f = let a : v ≡ p = cc in let b : v ≡ record { list = k.list; phase = k.phase; priority = x.priority } = cc in sym (ap (λ (w : Placement). w.phase) a) ∙ ap (λ (w : Placement). w.phase) b

module _ (es : List ListEntry) (last upto : ℕ) (m : BTreeMap Position Listed) (list : ListName) (indexed : AreIndexed es last upto m) (has : HasAll es upto list) (ordered : IsOrdered order_of.ghosts.cmp m) where
  abbrev part : List (Position × Listed)
  part = entries_between order_of.ghosts.cmp (Included (low list)) (Included (high list)) m.entries

  abbrev xs : List Listed
  xs = standing list m.entries

  abbrev s : Scanned
  s = record { entries = es; last = last }

  equiv : IsEquivalence (eq_by_cmp order_of.ghosts.cmp)
  equiv = eq_by_cmp_equiv total

  sorted : IsStrictlySortedBy order_of.ghosts.cmp (keys_of part)
  sorted = subst (λ ks. IsStrictlySortedBy order_of.ghosts.cmp ks) (sym (keys_kept (within list) m.entries)) (IsStrictlySortedBy-filter order_of.ghosts.cmp (within list) (keys_of m.entries) ordered)

  found : (k : Position) → lookup (eq_by_cmp order_of.ghosts.cmp k) part ≡ cond (within list k) (get order_of.ghosts.cmp m k) None
  found k = lookup-filter-keys (eq_by_cmp order_of.ghosts.cmp k) (within list) (within list k) (λ q e. ap (within list) (sym (tells_apart exact k q e))) m.entries

  if_within : (b : Bool) (o : Option Listed) (x : Listed) → cond b o None ≡ Some x → (b ≡ true) × (o ≡ Some x)
  if_within true o x e = (refl, e)
  if_within false o x e = cc

  -- Each record in the result is at a position of the list.
  at_position : (i : ℕ) (x : Listed) → slice_get xs i ≡ Some x → (k : Position) × (slice_get part i ≡ Some (k, x)) × (k.list ≡ list) × StandsAt (entry_of es) k x
  at_position i x e =
      let p = of_some (slice_get part i) x (sym (slice_get-map (λ (v : Position × Listed). v.1) part i) ∙ e) in
      let k = p.0 in
      let here = lookup_from_place equiv part i k x (IsDistinct-from_sorted order_of.ghosts.cmp (keys_of part) sorted) p.1 in
      let w = if_within (within list k) (get order_of.ghosts.cmp m k) x (sym (found k) ∙ here) in
      (k, p.1, list_within list k w.0, indexed.there k x w.1)

  is_on : (k : Position) (x : Listed) → k.list ≡ list → StandsAt (entry_of es) k x → IsOn s list x
  is_on k x e st = (k.phase, subst (λ (v : ListName). (entry_of es x.number).place ≡ Some (record { list = v; phase = k.phase; priority = x.priority })) e st.0)

  listed_there : (x : Listed) → IsOn s list x → Contains xs x
  listed_there x on =
      let k : Position = record { list = list; phase = on.0; order = (entry_of es x.number).order } in
      let st : StandsAt (entry_of es) k x = (on.1, refl) in
      let bounds = indexed.phases x.number (record { list = list; phase = on.0; priority = x.priority }) on.1 in
      let given : (entry_of es x.number).order ≤ last = indexed.given x.number in
      let few : last < 2 ^ 64 = indexed.fits in
      let w : within list k ≡ true = within_list list k refl bounds.0 bounds.1 (omega arith) in
      let here : lookup (eq_by_cmp order_of.ghosts.cmp k) part ≡ Some x = found k ∙ ap (λ b. cond b (get order_of.ghosts.cmp m k) None) w ∙ indexed.found k x st (has x.number (record { list = list; phase = on.0; priority = x.priority }) on.1 refl) in
      let p = place_from_lookup (eq_by_cmp order_of.ghosts.cmp k) part x here in
      let at : slice_get xs p.0 ≡ Some x = slice_get-map (λ (v : Position × Listed). v.1) part p.0 ∙ ap (option_map (λ (v : Position × Listed). v.1)) p.2 in
      (p.0, slice_get_within xs p.0 x at, get_or_from_slice_get xs p.0 x x at)

  key_at : (i : ℕ) (k : Position) (x : Listed) → slice_get part i ≡ Some (k, x) → slice_get (keys_of part) i ≡ Some k
  key_at i k x e = slice_get-map (λ (v : Position × Listed). v.0) part i ∙ ap (option_map (λ (v : Position × Listed). v.0)) e

  in_order : (i j : ℕ) (x y : Listed) → i < j → slice_get xs i ≡ Some x → slice_get xs j ≡ Some y → Precedes s x.number y.number
  in_order i j x y l e f = λ p q at_p at_q.
      let a = at_position i x e in
      let b = at_position j y f in
      let ka = key_at i a.0 x a.1 in
      let kb = key_at j b.0 y b.1 in
      let d = a.0 in
      let less : order_of.ghosts.cmp (get_or (keys_of part) i d) (get_or (keys_of part) j d) ≡ Less = Less-from_sorted order_of.ghosts.cmp (keys_of part) i j d sorted l (slice_get_within (keys_of part) j b.0 kb) in
      let less_keys : order_of.ghosts.cmp a.0 b.0 ≡ Less = ap (λ (k : Position). order_of.ghosts.cmp k b.0) (sym (get_or_from_slice_get (keys_of part) i a.0 d ka)) ∙ ap (λ (k : Position). order_of.ghosts.cmp (get_or (keys_of part) i d) k) (sym (get_or_from_slice_get (keys_of part) j b.0 d kb)) ∙ less in
      let first = precedes a.0 b.0 list a.2 b.2 less_keys in
      let phase_a : p.phase ≡ a.0.phase = same_phase (entry_of es x.number).place p a.0 x at_p a.3.0 in
      let phase_b : q.phase ≡ b.0.phase = same_phase (entry_of es y.number).place q b.0 y at_q b.3.0 in
      rw (phase_a, phase_b, a.3.1, b.3.1) first

  pub walked : InPhaseOrder s list xs
  walked = record {
    members = λ x. (
      (λ there. let a = at_position there.0 x (slice_get-get_or xs there.0 x there.1 ∙ ap Some there.2) in is_on a.0 x a.2 a.3),
      listed_there x,
    );
    ordered = in_order;
  }

on_ok : {T E : Type 0} (r : Result T E) (P Q : Type 0) → OnOk r P → (P → Q) → OnOk r Q
on_ok (Ok x) P Q p f = f p
on_ok (Err e) P Q p f = tt

-- What is written of a list into an empty buffer is the list, in phase order.
pub written : {T E : Type 0} (r : Result T E) (v : Scanned) (es : List ListEntry) (last upto : ℕ) (m : BTreeMap Position Listed) (list : ListName) (before after : List Listed)
    → AreIndexed es last upto m → HasAll es upto list → IsOrdered order_of.ghosts.cmp m → record { entries = es; last = last } ≡ v → before ≡ [] → OnOk r (after ≡ before ++ standing list m.entries) → OnOk r (InPhaseOrder v list after)
written r v es last upto m list before after indexed has ordered is none ok =
    on_ok r (after ≡ before ++ standing list m.entries) (InPhaseOrder v list after) ok
    (λ e. subst (λ (s : Scanned). InPhaseOrder s list after) is
    (subst (λ (xs : List Listed). InPhaseOrder (record { entries = es; last = last }) list xs) (sym (e ∙ ap (λ (xs : List Listed). xs ++ standing list m.entries) none)) (walked es last upto m list indexed has ordered)))
