-- The list of the records with PINI has each of them, by PHAS and then by number.
use Rattle.std.proofs.Common.{◌≡◌, ℕ, zero, suc, ◌+◌, ◌<◌, ◌≤◌, inl, inr, ⊎_elim, List, [], ◌∷◌, length, replicate, get_or, true, false, Option, Some, refl, sym, ap, ◌∙◌, subst, arith, get_or-set_other, get_or-set_same}
use Rattle.std.proofs.Common.{None as Nothing_}
use Rattle.std.specs.Prelude.{Contains, slice_get, unwrap_or, is_some}
use Rattle.std.specs.List.{list_any}
use Rattle.std.proofs.Math.ListN.{length-set}
use Rattle.std.proofs.lemmas.Bool.{cases_eq, cases_order}
use Rattle.std.proofs.lemmas.List.{length-replicate}
use Rattle.std.proofs.lemmas.Option.{slice_get_cases, slice_get_past, slice_get_within, get_or_from_slice_get, unwrap_or-slice_get}
use Rattle.ioc_menus.specs.declared.pini.Pini.{Pini}
use Rattle.ioc_menus.specs.declared.pini.Pini.TheVariants.{Yes, No}
use Rattle.ioc_scan.specs.declared.list_name.ListName.TheVariants.{Start}
use Rattle.ioc_scan.specs.declared.list_name.Placement.{Placement}
use Rattle.ioc_scan.specs.declared.position.Listed.{Listed}
use Rattle.ioc_scan.specs.declared.position.ListEntry.{ListEntry}
use Rattle.ioc_scan.specs.Positions.{entry_of, new_entry}
use Rattle.ioc_scan.specs.Scanned.{Scanned, new_lists, placed, IsOn, InPhaseOrder}
use Rattle.ioc_dbcommon.specs.declared.scanning.Scanning.{Scanning}
use Rattle.ioc_record.specs.RecordRules.{RecordRules}
use Rattle.ioc_scan_rules.specs.declared.places.Occasion.TheVariants.{Starting as When-starting}
use Rattle.ioc_scan_rules.specs.Places.{place_of, start_place}
use Rattle.ioc_scan_rules.specs.FirstLists.{added, with_each, first_lists, is_starter, HasPini, StartsBefore, AreStarters}
use Rattle.ioc_scan_rules.proofs.Starting.{first_none, others_none}

abbrev entry : Scanned → ℕ → ListEntry
entry s n = entry_of s.entries n

abbrev place_in : ListEntry → Option Placement
place_in e = e.place

-- What adding a record makes of lists on which it isn't.
record Adds (s t : Scanned) (n : ℕ) (o : Option Placement) : Type 0 where
  others : (i : ℕ) → (i ≡ n → ⊥) → entry t i ≡ entry s i
  count : length t.entries ≡ length s.entries
  here : (entry t n).place ≡ o
  grows : s.last ≤ t.last
  last : (p : Placement) → o ≡ Some p → (s.last < (entry t n).order) × ((entry t n).order ≤ t.last)

adds : (s : Scanned) (n : ℕ) (o : Option Placement) → n < length s.entries → (entry s n).place ≡ Nothing_
    → Adds s (added s n o) n o
adds s n Nothing_ within free = record { others = λ i other. refl; count = refl; here = free; grows = omega arith; last = λ p e. cc }
adds s n (Some q) within free =
    let e : ListEntry = record { number = (entry s n).number; place = Some q; order = s.last + 1 } in
    let is : entry (placed s n (Some q)) n ≡ e = get_or-set_same s.entries n e new_entry within in
    let order : (entry (placed s n (Some q)) n).order ≡ s.last + 1 = ap (λ (x : ListEntry). x.order) is in
    record {
      others = λ i other. get_or-set_other s.entries n i e new_entry other;
      count = length-set s.entries n e;
      here = ap place_in is;
      grows = omega arith;
      last = λ p same. (omega arith, omega arith);
    }

-- New entries are on no list.
fresh : (count i : ℕ) → get_or (replicate count new_entry) i new_entry ≡ new_entry
fresh zero i = refl
fresh (suc count) zero = refl
fresh (suc count) (suc i) = fresh count i

past : (s : Scanned) (i : ℕ) → length s.entries ≤ i → entry s i ≡ new_entry
past s i above =
    sym (unwrap_or-slice_get s.entries i new_entry)
    ∙ ap (λ (o : Option ListEntry). unwrap_or o new_entry) (slice_get_past s.entries i above)

-- The place of a record with PINI.
at_start : (s : Scanning) (pini : Pini) (p : Placement) → start_place s pini ≡ Some p
    → (pini ≡ Yes) × (p.phase ≡ s.phase) × (p.priority ≡ s.priority)
at_start s Yes p e =
    let is : record { list = Start; phase = s.phase; priority = s.priority } ≡ p = cc in
    (refl, ap (λ (q : Placement). q.phase) (sym is), ap (λ (q : Placement). q.priority) (sym is))
at_start s No p e = cc

module _ {R : Type 0} (k : RecordRules R) where
  abbrev place : R → Option Placement
  place r = place_of k When-starting r

  -- What adding these records, from number `n` on, makes of lists on which none of them is.
  record Lists (before after : Scanned) (n : ℕ) (rs : List R) : Type 0 where
    same : (i : ℕ) → i < n → entry after i ≡ entry before i
    places : (i : ℕ) (r : R) → slice_get rs i ≡ Some r → (entry after (n + i)).place ≡ place r
    count : length after.entries ≡ length before.entries
    later : (i : ℕ) (p : Placement) → n ≤ i → (entry after i).place ≡ Some p → before.last < (entry after i).order
    rising : (i j : ℕ) (p q : Placement) → n ≤ i → i < j → (entry after i).place ≡ Some p → (entry after j).place ≡ Some q
        → (entry after i).order < (entry after j).order

  places_both : (e : ℕ → ListEntry) (n : ℕ) (r : R) (rs : List R) → (e n).place ≡ place r
      → ((i : ℕ) (q : R) → slice_get rs i ≡ Some q → (e ((1 + n) + i)).place ≡ place q)
      → (i : ℕ) (q : R) → slice_get (r ∷ rs) i ≡ Some q → (e (n + i)).place ≡ place q
  places_both e n r rs here others zero q is =
      let same : r ≡ q = cc in
      let at : n ≡ n + 0 = omega arith in
      subst (λ (m : ℕ). (e m).place ≡ place q) at (here ∙ ap place same)
  places_both e n r rs here others (suc i) q is =
      let at : (1 + n) + i ≡ n + suc i = omega arith in
      subst (λ (m : ℕ). (e m).place ≡ place q) at (others i q is)

  lists : (s : Scanned) (n : ℕ) (rs : List R) → n + length rs ≡ length s.entries → ((i : ℕ) → n ≤ i → (entry s i).place ≡ Nothing_)
      → Lists s (with_each k When-starting s n rs) n rs
  lists s n [] many free =
      record {
        same = λ i below. refl;
        places = λ i r e. cc;
        count = refl;
        later = λ i p above e. let none : Nothing_ ≡ Some p = sym (free i above) ∙ e in cc;
        rising = λ i j p q above less e f. let none : Nothing_ ≡ Some p = sym (free i above) ∙ e in cc;
      }
  lists s n (r ∷ rs) many free =
      let t = added s n (place r) in
      let after = with_each k When-starting t (1 + n) rs in
      let one : Adds s t n (place r) = adds s n (place r) (omega arith) (free n (omega arith)) in
      let still : (i : ℕ) → 1 + n ≤ i → (entry t i).place ≡ Nothing_ =
      (λ i above. ap place_in (one.others i (omega arith)) ∙ free i (omega arith)) in
      let rest : Lists t after (1 + n) rs = lists t (1 + n) rs (omega (arith, one.count)) still in
      let at : entry after n ≡ entry t n = rest.same n (omega arith) in
      let order : (entry after n).order ≡ (entry t n).order = ap (λ (x : ListEntry). x.order) at in
      let first : (p : Placement) → (entry after n).place ≡ Some p → (s.last < (entry t n).order) × ((entry t n).order ≤ t.last) =
      (λ p e. one.last p (sym one.here ∙ ap place_in (sym at) ∙ e)) in
      let grows : s.last ≤ t.last = one.grows in
      record {
        same = λ i below. rest.same i (omega arith) ∙ one.others i (omega arith);
        places = places_both (λ i. entry after i) n r rs (ap place_in at ∙ one.here) rest.places;
        count = rest.count ∙ one.count;
        later = λ i p above e. ⊎_elim
            (λ same. subst (λ (m : ℕ). s.last < (entry after m).order) (sym same)
            (let f = first p (subst (λ (m : ℕ). (entry after m).place ≡ Some p) same e) in omega arith))
            (λ other. let g : t.last < (entry after i).order = rest.later i p (omega arith) e in omega arith)
            (cases_eq i n);
        rising = λ i j p q above less e f. ⊎_elim
            (λ same. subst (λ (m : ℕ). (entry after m).order < (entry after j).order) (sym same)
            (let a = first p (subst (λ (m : ℕ). (entry after m).place ≡ Some p) same e) in
            let b : t.last < (entry after j).order = rest.later j q (omega arith) f in omega arith))
            (λ other. rest.rising i j p q (omega arith) less e f)
            (cases_eq i n);
      }

  module _ (records : List R) where
    abbrev s : Scanned
    s = with_each k When-starting (new_lists (length records)) 0 records

    all : Lists (new_lists (length records)) s 0 records
    all =
        let many : 0 + length records ≡ length (replicate (length records) new_entry) =
        omega (arith, length-replicate (length records) new_entry) in
        lists (new_lists (length records)) 0 records many (λ i above. ap place_in (fresh (length records) i))

    placed_at : (i : ℕ) (r : R) → slice_get records i ≡ Some r → (entry s i).place ≡ place r
    placed_at i r is = let at : 0 + i ≡ i = omega arith in subst (λ (m : ℕ). (entry s m).place ≡ place r) at (all.places i r is)

    many : length s.entries ≡ length records
    many = all.count ∙ length-replicate (length records) new_entry

    has_pini : (x : Listed) → IsOn s Start x → HasPini k records x
    has_pini x on = ⊎_elim
        (λ there.
        let r = there.0 in
        let is = at_start (k.common r).scanning (k.common r).scanning.at_start _ (sym (placed_at x.number r there.2) ∙ on.1) in
        (r, there.2, is.0, is.2))
        (λ beyond.
        let none : Nothing_ ≡ Some (record { list = Start; phase = on.0; priority = x.priority }) =
        sym (ap place_in (past s x.number (omega (arith, many, beyond.0)))) ∙ on.1 in
        cc)
        (slice_get_cases records x.number).1

    is_on : (x : Listed) → HasPini k records x → IsOn s Start x
    is_on x has =
        let r = has.0 in
        let here : place r ≡ start_place (k.common r).scanning Yes = ap (start_place (k.common r).scanning) has.2 in (
          (k.common r).scanning.phase,
          placed_at x.number r has.1 ∙ here
              ∙ ap (λ p. Some (record { list = Start; phase = (k.common r).scanning.phase; priority = p })) (sym has.3),
        )

    contained : (xs : List Listed) (i : ℕ) (x : Listed) → slice_get xs i ≡ Some x → Contains xs x
    contained xs i x at = (i, slice_get_within xs i x at, get_or_from_slice_get xs i x x at)

    -- Of two listed records the one that was added first has the lower number.
    numbers_rise : (a b : ℕ) (p q : Placement) → (entry s a).place ≡ Some p → (entry s b).place ≡ Some q
        → (entry s a).order < (entry s b).order → a < b
    numbers_rise a b p q at_a at_b less = ⊎_elim
        (λ same. let e : (entry s a).order ≡ (entry s b).order = ap (λ (m : ℕ). (entry s m).order) same in absurd (omega arith))
        (λ either. ⊎_elim (λ first. first) (λ after.
        let g : (entry s b).order < (entry s a).order = all.rising b a q p (omega arith) after at_b at_a in absurd (omega arith)) either)
        (cases_order a b)

    before : (xs : List Listed) → InPhaseOrder s Start xs
        → (i j : ℕ) (x y : Listed) → i < j → slice_get xs i ≡ Some x → slice_get xs j ≡ Some y
        → StartsBefore k records x.number y.number
    before xs walk i j x y less at_i at_j = λ q r is_q is_r.
        let on_x = (walk.members x).0 (contained xs i x at_i) in
        let on_y = (walk.members y).0 (contained xs j y at_j) in
        let a = at_start (k.common q).scanning (k.common q).scanning.at_start _ (sym (placed_at x.number q is_q) ∙ on_x.1) in
        let b = at_start (k.common r).scanning (k.common r).scanning.at_start _ (sym (placed_at y.number r is_r) ∙ on_y.1) in
        ⊎_elim
        (λ lower. inl (rw (← a.1, ← b.1) lower))
        (λ equal. inr (sym a.1 ∙ equal.0 ∙ b.1, numbers_rise x.number y.number _ _ on_x.1 on_y.1 equal.1))
        (walk.ordered i j x y less at_i at_j _ _ on_x.1 on_y.1)

  pub starters_in_order : (records : List R) (xs : List Listed) → InPhaseOrder (first_lists k When-starting records) Start xs
      → AreStarters k records xs
  unfolding first_lists
  starters_in_order records xs walk =
      record {
        members = λ x. (λ there. has_pini records x ((walk.members x).0 there), λ has. (walk.members x).1 (is_on records x has));
        ordered = before records xs walk;
      }

  none_at : (records : List R) (i : ℕ) (r : R) → list_any (is_starter k) records ≡ false → slice_get records i ≡ Some r
      → is_starter k r ≡ false
  none_at [] i r none e = cc
  none_at (q ∷ qs) zero r none e =
      let same : q ≡ r = cc in ap (is_starter k) (sym same) ∙ first_none (is_starter k q) (list_any (is_starter k) qs) none
  none_at (q ∷ qs) (suc i) r none e = none_at qs i r (others_none (is_starter k q) (list_any (is_starter k) qs) none) e

  not_there : (records : List R) (x : Listed) → list_any (is_starter k) records ≡ false → HasPini k records x → ⊥
  not_there records x none has =
      let r = has.0 in
      let starts : is_starter k r ≡ true = ap (λ (p : Pini). is_some (start_place (k.common r).scanning p)) has.2 in
      let wrong : true ≡ false = sym starts ∙ none_at records x.number r none has.1 in
      cc

  -- If no record has PINI, none is processed at the start.
  pub none_are_starters : (records : List R) → list_any (is_starter k) records ≡ false → AreStarters k records []
  none_are_starters records none =
      record {
        members = λ x. (λ there. let within : there.0 < 0 = there.1 in absurd (omega arith), λ has. absurd (not_there records x none has));
        ordered = λ i j x y less e f. cc;
      }
