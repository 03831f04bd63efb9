-- The tree of list members agrees with the records' entries, before and after a change, as far as
-- the records are indexed.
use Rattle.std.proofs.Common.{◌≡◌, ◌≢◌, ◌⊎◌, zero, suc, [], ◌∷◌, ℕ, ◌+◌, ◌<◌, ◌≤◌, ◌^◌, ℤ, IfSome, ⊎_elim, Bool, true, false, cond, Option, Some, None, List, length, set, get_or, refl, sym, ap, ◌∙◌, subst, arith, get_or-set_other, get_or-set_same}
use Rattle.std.proofs.lemmas.Bool.{cases_eq}
use Rattle.std.proofs.lemmas.List.{get_or_default}
use Rattle.std.proofs.lemmas.Map.Views.{tells_apart}
use Rattle.ioc_menus.specs.declared.priority.Priority.{Priority}
use Rattle.ioc_scan.specs.declared.list_name.ListName.{ListName}
use Rattle.ioc_scan.specs.declared.list_name.Placement.{Placement}
use Rattle.ioc_scan.specs.declared.position.Position.{Position}
use Rattle.ioc_scan.specs.declared.position.Listed.{Listed}
use Rattle.ioc_scan.specs.declared.position.ListEntry.{ListEntry}
use Rattle.ioc_scan.specs.Positions.{position, listed, new_entry, entry_of}
use Rattle.ioc_scan.specs.Members.{is_at_place, listed_at, IsPhase, StandsAt, Indexed, HasAll}
use Rattle.ioc_scan.proofs.Ordered.{exact, itself}

some_place : (o : Option Placement) (order : ℕ) (k : Position) → is_at_place o order k ≡ true → (p : Placement) × (o ≡ Some p) × (k ≡ position p order)
some_place None order k e = cc
some_place (Some p) order k e = (p, refl, sym (tells_apart exact (position p order) k e))

here : (o : Option Placement) (order : ℕ) (p : Placement) → o ≡ Some p → is_at_place o order (position p order) ≡ true
here o order p e = subst (λ v. is_at_place v order (position p order) ≡ true) (sym e) (itself (position p order))

abbrev one_listed : ℕ → Priority → Listed
one_listed number priority = record { number = number; priority = priority }

same_listed : (x : Listed) (n : ℕ) (p : Placement) → x.number ≡ n → p.priority ≡ x.priority → x ≡ listed n p
same_listed x n p e f = ap (λ (m : ℕ). one_listed m x.priority) e ∙ ap (λ (q : Priority). one_listed n q) (sym f)

abbrev pub one_place : ListName → ℤ → Priority → Placement
one_place list phase priority = record { list = list; phase = phase; priority = priority }

-- The place of the record at a position.
pub so_placed : (p : Placement) (order : ℕ) (k : Position) (priority : Priority) → k ≡ position p order → p.priority ≡ priority → p ≡ record { list = k.list; phase = k.phase; priority = priority }
so_placed p order k priority is e =
    ap (λ (v : Position). one_place v.list v.phase p.priority) (sym is) ∙ ap (λ (q : Priority). one_place k.list k.phase q) e

module _ (f f' : ℕ → ListEntry) (g : Position → Option Listed) (r last upto : ℕ) (before : Indexed f last upto g) (there : (n : ℕ) → n ≢ r → f' n ≡ f n) (order : (f' r).order ≡ last + 1) where
  abbrev old : Position → Bool
  old k = is_at_place (f r).place (f r).order k

  abbrev new : Position → Bool
  new k = is_at_place (f' r).place (last + 1) k

  -- The old position of record `r`.
  mine : (k : Position) (x : Listed) → x.number ≡ r → StandsAt f k x → old k ≡ true
  mine k x own st =
      let p : Placement = record { list = k.list; phase = k.phase; priority = x.priority } in
      let at : (f r).place ≡ Some p = ap (λ n. (f n).place) (sym own) ∙ st.0 in
      let due : (f r).order ≡ k.order = ap (λ n. (f n).order) (sym own) ∙ st.1 in
      subst (λ (v : Position). is_at_place (f r).place (f r).order v ≡ true) (ap (position p) due) (here (f r).place (f r).order p at)

  -- The new position of record `r`.
  arrived : (k : Position) (x : Listed) → x.number ≡ r → StandsAt f' k x → new k ≡ true
  arrived k x own st =
      let p : Placement = record { list = k.list; phase = k.phase; priority = x.priority } in
      let at : (f' r).place ≡ Some p = ap (λ n. (f' n).place) (sym own) ∙ st.0 in
      let due : last + 1 ≡ k.order = sym order ∙ ap (λ n. (f' n).order) (sym own) ∙ st.1 in
      subst (λ (v : Position). is_at_place (f' r).place (last + 1) v ≡ true) (ap (position p) due) (here (f' r).place (last + 1) p at)

  -- Every other record keeps its position.
  stood : (k : Position) (x : Listed) → x.number ≢ r → StandsAt f' k x → StandsAt f k x
  stood k x other st = (ap (λ (v : ListEntry). v.place) (sym (there x.number other)) ∙ st.0, ap (λ (v : ListEntry). v.order) (sym (there x.number other)) ∙ st.1)

  -- A record that was at the position before, and isn't `r`, is there.
  kept : (k : Position) (x : Listed) → old k ≡ false → g k ≡ Some x → StandsAt f' k x
  kept k x eb e =
      let st = before.there k x e in
      ⊎_elim
      (λ own. absurd (let t = mine k x own st in let u : true ≡ false = sym t ∙ eb in cc))
      (λ other. (ap (λ (v : ListEntry). v.place) (there x.number other) ∙ st.0, ap (λ (v : ListEntry). v.order) (there x.number other) ∙ st.1))
      (cases_eq x.number r)

  -- A record at a position in the new tree is there by the new entries.
  came : (k : Position) (x : Listed) (b c : Bool) → old k ≡ b → new k ≡ c → cond b None (cond c (listed_at r (f' r).place) (g k)) ≡ Some x → StandsAt f' k x
  came k x true c eb ec e = cc
  came k x false true eb ec e =
      let p = some_place (f' r).place (last + 1) k ec in
      let is : Some (listed r p.0) ≡ Some x = ap (listed_at r) (sym p.1) ∙ e in
      let same : listed r p.0 ≡ x = cc in
      let own : x.number ≡ r = ap (λ (v : Listed). v.number) (sym same) in
      let what : p.0.priority ≡ x.priority = ap (λ (v : Listed). v.priority) same in
      let at : (f' x.number).place ≡ Some p.0 = ap (λ n. (f' n).place) own ∙ p.1 in
      let is_so : p.0 ≡ record { list = k.list; phase = k.phase; priority = x.priority } = so_placed p.0 (last + 1) k x.priority p.2 what in
      (at ∙ ap Some is_so, ap (λ n. (f' n).order) own ∙ order ∙ ap (λ (v : Position). v.order) (sym p.2))
  came k x false false eb ec e = kept k x eb e

  came_without : (k : Position) (x : Listed) (b : Bool) → old k ≡ b → cond b None (g k) ≡ Some x → StandsAt f' k x
  came_without k x true eb e = cc
  came_without k x false eb e = kept k x eb e

  -- No record is where record `r` was.
  left : (k : Position) (x : Listed) → old k ≡ true → StandsAt f' k x → ⊥
  left k x eb st =
      let p = some_place (f r).place (f r).order k eb in
      let low : (f r).order ≤ last = before.given r in
      let at : k.order ≡ (f r).order = ap (λ (v : Position). v.order) p.2 in
      ⊎_elim
      (λ own.
      let due : k.order ≡ last + 1 = sym st.1 ∙ ap (λ n. (f' n).order) own ∙ order in omega arith)
      (λ other. let was = stood k x other st in other (before.alone x.number r (record { list = k.list; phase = k.phase; priority = x.priority }) p.0 was.0 p.1 (was.1 ∙ at)))
      (cases_eq x.number r)

  -- Where record `r` comes to there is only that record.
  comes : (k : Position) (x : Listed) → new k ≡ true → StandsAt f' k x → x.number ≡ r
  comes k x ec st =
      let p = some_place (f' r).place (last + 1) k ec in
      let at : k.order ≡ last + 1 = ap (λ (v : Position). v.order) p.2 in
      ⊎_elim
      (λ own. own)
      (λ other. absurd (
      let was = stood k x other st in
      let low : (f x.number).order ≤ last = before.given x.number in
      let due : (f x.number).order ≡ k.order = was.1 in omega arith))
      (cases_eq x.number r)

  -- A record that is there by the new entries is either `r` or was there before.
  goes : (k : Position) (x : Listed) (b c : Bool) → old k ≡ b → new k ≡ c → StandsAt f' k x → x.number < upto → cond b None (cond c (listed_at r (f' r).place) (g k)) ≡ Some x
  goes k x true c eb ec st l = absurd (left k x eb st)
  goes k x false true eb ec st l =
      let own = comes k x ec st in
      let place : (f' r).place ≡ Some (record { list = k.list; phase = k.phase; priority = x.priority }) = ap (λ n. (f' n).place) (sym own) ∙ st.0 in
      ap (listed_at r) place ∙ ap Some (sym (same_listed x r (record { list = k.list; phase = k.phase; priority = x.priority }) own refl))
  goes k x false false eb ec st l =
      ⊎_elim
      (λ own. absurd (let t = arrived k x own st in let u : true ≡ false = sym t ∙ ec in cc))
      (λ other. before.found k x (stood k x other st) l)
      (cases_eq x.number r)

  goes_without : (k : Position) (x : Listed) (b : Bool) → old k ≡ b → StandsAt f' k x → x.number < upto → x.number ≢ r → cond b None (g k) ≡ Some x
  goes_without k x true eb st l other = absurd (left k x eb st)
  goes_without k x false eb st l other = before.found k x (stood k x other st) l

  alone_after : (m n : ℕ) (p q : Placement) → (f' m).place ≡ Some p → (f' n).place ≡ Some q → (f' m).order ≡ (f' n).order → m ≡ n
  alone_after m n p q a b e =
      ⊎_elim
      (λ m_own. ⊎_elim
      (λ n_own. m_own ∙ sym n_own)
      (λ n_other. absurd (
      let high : (f' m).order ≡ last + 1 = ap (λ i. (f' i).order) m_own ∙ order in
      let same : (f' n).order ≡ (f n).order = ap (λ (v : ListEntry). v.order) (there n n_other) in
      let low : (f n).order ≤ last = before.given n in omega arith))
      (cases_eq n r))
      (λ m_other. ⊎_elim
      (λ n_own. absurd (
      let high : (f' n).order ≡ last + 1 = ap (λ i. (f' i).order) n_own ∙ order in
      let same : (f' m).order ≡ (f m).order = ap (λ (v : ListEntry). v.order) (there m m_other) in
      let low : (f m).order ≤ last = before.given m in omega arith))
      (λ n_other. before.alone m n p q
      (ap (λ (v : ListEntry). v.place) (sym (there m m_other)) ∙ a)
      (ap (λ (v : ListEntry). v.place) (sym (there n n_other)) ∙ b)
      (ap (λ (v : ListEntry). v.order) (sym (there m m_other)) ∙ e ∙ ap (λ (v : ListEntry). v.order) (there n n_other)))
      (cases_eq n r))
      (cases_eq m r)

  given_after : (n : ℕ) → (f' n).order ≤ last + 1
  given_after n = ⊎_elim
      (λ own. let e : (f' n).order ≡ last + 1 = ap (λ m. (f' m).order) own ∙ order in omega arith)
      (λ other. let e : (f' n).order ≡ (f n).order = ap (λ (v : ListEntry). v.order) (there n other) in let low : (f n).order ≤ last = before.given n in omega arith)
      (cases_eq n r)

  phases_after : ((p : Placement) → (f' r).place ≡ Some p → IsPhase p.phase) → (n : ℕ) (p : Placement) → (f' n).place ≡ Some p → IsPhase p.phase
  phases_after phases n p e = ⊎_elim
      (λ own. phases p (ap (λ m. (f' m).place) (sym own) ∙ e))
      (λ other. before.phases n p (ap (λ (v : ListEntry). v.place) (sym (there n other)) ∙ e))
      (cases_eq n r)

  pub indexed_after : (h : Position → Option Listed) → last + 1 < 2 ^ 64 → ((k : Position) → h k ≡ cond (old k) None (cond (new k) (listed_at r (f' r).place) (g k)))
      → ((p : Placement) → (f' r).place ≡ Some p → IsPhase p.phase) → Indexed f' (last + 1) upto h
  indexed_after h few is phases = record {
    there = λ k x e. came k x (old k) (new k) refl refl (sym (is k) ∙ e);
    found = λ k x st l. is k ∙ goes k x (old k) (new k) refl refl st l;
    alone = alone_after;
    given = given_after;
    fits = few;
    phases = phases_after phases;
  }

  -- The same without the new position of record `r`, from which on records may be missing then.
  pub indexed_without : (h : Position → Option Listed) (left : ℕ) → last + 1 < 2 ^ 64 → left ≤ upto → left ≤ r → ((k : Position) → h k ≡ cond (old k) None (g k))
      → ((p : Placement) → (f' r).place ≡ Some p → IsPhase p.phase) → Indexed f' (last + 1) left h
  indexed_without h left few low own is phases = record {
    there = λ k x e. came_without k x (old k) refl (sym (is k) ∙ e);
    found = λ k x st l. is k ∙ goes_without k x (old k) refl st (omega arith) (λ e. omega arith);
    alone = alone_after;
    given = given_after;
    fits = few;
    phases = phases_after phases;
  }

phase_of : (o : Option Placement) → IfSome o (λ p. IsPhase p.phase) → (p : Placement) → o ≡ Some p → IsPhase p.phase
phase_of None h p e = cc
phase_of (Some q) h p e = subst (λ (v : Placement). IsPhase v.phase) (let s : q ≡ p = cc in s) h

-- What a tree has after an addition that may have been refused memory.
abbrev Put : ℕ → ℕ → ℕ → (Position → Option Listed) → (Position → Option Listed) → Option Placement → ℕ → Type 0
Put result upto r g mid place order =
    ((result ≡ upto) × ((k : Position) → mid k ≡ cond (is_at_place place order k) (listed_at r place) (g k)))
    ⊎ ((result ≤ upto) × (result ≤ r) × ((k : Position) → mid k ≡ g k))

-- The members are indexed after a change of one record.
pub changed_indexed : (es : List ListEntry) (last upto result : ℕ) (g mid h : Position → Option Listed) (r : ℕ) (e before : ListEntry)
    → r < length es → last + 1 < 2 ^ 64 → before ≡ entry_of es r → e.order ≡ last + 1 → IfSome e.place (λ p. IsPhase p.phase) → Indexed (entry_of es) last upto g
    → Put result upto r g mid e.place (last + 1)
    → ((k : Position) → h k ≡ cond (is_at_place before.place before.order k) None (mid k))
    → Indexed (entry_of (set es r e)) (last + 1) result h
changed_indexed es last upto result g mid h r e before l few was order phases indexed put is =
    let now : entry_of (set es r e) r ≡ e = get_or-set_same es r e new_entry l in
    let others : (n : ℕ) → n ≢ r → entry_of (set es r e) n ≡ entry_of es n = λ n other. get_or-set_other es r n e new_entry other in
    let due : (entry_of (set es r e) r).order ≡ last + 1 = ap (λ (v : ListEntry). v.order) now ∙ order in
    let placed : (p : Placement) → (entry_of (set es r e) r).place ≡ Some p → IsPhase p.phase = λ p at. phase_of e.place phases p (ap (λ (v : ListEntry). v.place) (sym now) ∙ at) in
    ⊎_elim
    (λ added. subst (λ n. Indexed (entry_of (set es r e)) (last + 1) n h) (sym added.0)
    (indexed_after (entry_of es) (entry_of (set es r e)) g r last upto indexed others due h few
    (λ k. is k ∙ ap (λ (v : ListEntry). cond (is_at_place v.place v.order k) None (mid k)) was
    ∙ ap (λ o. cond (is_at_place (entry_of es r).place (entry_of es r).order k) None o) (added.1 k)
    ∙ ap (λ (v : ListEntry). cond (is_at_place (entry_of es r).place (entry_of es r).order k) None (cond (is_at_place v.place (last + 1) k) (listed_at r v.place) (g k))) (sym now))
    placed))
    (λ refused. indexed_without (entry_of es) (entry_of (set es r e)) g r last upto indexed others due h result few refused.0 refused.1
    (λ k. is k ∙ ap (λ (v : ListEntry). cond (is_at_place v.place v.order k) None (mid k)) was
    ∙ ap (λ o. cond (is_at_place (entry_of es r).place (entry_of es r).order k) None o) (refused.2 k))
    placed)
    put

at_one : (es : List ListEntry) (last i : ℕ) (g : Position → Option Listed) → Indexed (entry_of es) last i g → (k : Position) (x : Listed) (b : Bool)
    → is_at_place (entry_of es i).place (entry_of es i).order k ≡ b → cond b (listed_at i (entry_of es i).place) (g k) ≡ Some x → StandsAt (entry_of es) k x
at_one es last i g indexed k x true eb e =
    let p = some_place (entry_of es i).place (entry_of es i).order k eb in
    let is : Some (listed i p.0) ≡ Some x = ap (listed_at i) (sym p.1) ∙ e in
    let same : listed i p.0 ≡ x = cc in
    let own : x.number ≡ i = ap (λ (v : Listed). v.number) (sym same) in
    let what : p.0.priority ≡ x.priority = ap (λ (v : Listed). v.priority) same in
    let is_so : p.0 ≡ record { list = k.list; phase = k.phase; priority = x.priority } = so_placed p.0 (entry_of es i).order k x.priority p.2 what in
    (ap (λ n. (entry_of es n).place) own ∙ p.1 ∙ ap Some is_so, ap (λ n. (entry_of es n).order) own ∙ ap (λ (v : Position). v.order) (sym p.2))
at_one es last i g indexed k x false eb e = indexed.there k x e

found_one : (es : List ListEntry) (last i : ℕ) (g : Position → Option Listed) → Indexed (entry_of es) last i g → (k : Position) (x : Listed) (b : Bool)
    → is_at_place (entry_of es i).place (entry_of es i).order k ≡ b → StandsAt (entry_of es) k x → x.number < 1 + i → cond b (listed_at i (entry_of es i).place) (g k) ≡ Some x
found_one es last i g indexed k x true eb st l =
    let p = some_place (entry_of es i).place (entry_of es i).order k eb in
    let here_place : Placement = record { list = k.list; phase = k.phase; priority = x.priority } in
    let own : x.number ≡ i = indexed.alone x.number i here_place p.0 st.0 p.1 (st.1 ∙ ap (λ (v : Position). v.order) p.2) in
    let place : (entry_of es i).place ≡ Some here_place = ap (λ n. (entry_of es n).place) (sym own) ∙ st.0 in
    ap (listed_at i) place ∙ ap Some (sym (same_listed x i here_place own refl))
found_one es last i g indexed k x false eb st l =
    ⊎_elim
    (λ own. absurd (
    let here_place : Placement = record { list = k.list; phase = k.phase; priority = x.priority } in
    let at : (entry_of es i).place ≡ Some here_place = ap (λ n. (entry_of es n).place) (sym own) ∙ st.0 in
    let due : (entry_of es i).order ≡ k.order = ap (λ n. (entry_of es n).order) (sym own) ∙ st.1 in
    let t : is_at_place (entry_of es i).place (entry_of es i).order k ≡ true =
    subst (λ (v : Position). is_at_place (entry_of es i).place (entry_of es i).order v ≡ true) (ap (position here_place) due) (here (entry_of es i).place (entry_of es i).order here_place at) in
    let u : true ≡ false = sym t ∙ eb in cc))
    (λ other. indexed.found k x st (omega (arith, other)))
    (cases_eq x.number i)

-- One more record is indexed once it is among the members.
pub one_more : (es : List ListEntry) (last i : ℕ) (g h : Position → Option Listed) (e : ListEntry) → e ≡ entry_of es i
    → ((k : Position) → h k ≡ cond (is_at_place e.place e.order k) (listed_at i e.place) (g k)) → Indexed (entry_of es) last i g → Indexed (entry_of es) last (i + 1) h
one_more es last i g h e is put indexed =
    let same : (k : Position) → h k ≡ cond (is_at_place (entry_of es i).place (entry_of es i).order k) (listed_at i (entry_of es i).place) (g k) =
    λ k. put k ∙ ap (λ (v : ListEntry). cond (is_at_place v.place v.order k) (listed_at i v.place) (g k)) is in
    record {
      there = λ k x f. at_one es last i g indexed k x (is_at_place (entry_of es i).place (entry_of es i).order k) refl (sym (same k) ∙ f);
      found = λ k x st l. same k ∙ found_one es last i g indexed k x (is_at_place (entry_of es i).place (entry_of es i).order k) refl st (omega arith);
      alone = indexed.alone;
      given = indexed.given;
      fits = indexed.fits;
      phases = indexed.phases;
    }

-- As many records are indexed by another tree that finds the same.
pub as_indexed : (f : ℕ → ListEntry) (last i : ℕ) (g h : Position → Option Listed) → ((k : Position) → h k ≡ g k) → Indexed f last i g → Indexed f last i h
as_indexed f last i g h same indexed = record {
  there = λ k x e. indexed.there k x (sym (same k) ∙ e);
  found = λ k x st l. same k ∙ indexed.found k x st l;
  alone = indexed.alone;
  given = indexed.given;
  fits = indexed.fits;
  phases = indexed.phases;
}

no_place : (es : List ListEntry) (n : ℕ) (p : Placement) → (entry_of es n).place ≡ Some p → n < length es
no_place [] n p e = cc
no_place (v ∷ es) zero p e = omega arith
no_place (v ∷ es) (suc n) p e = let l = no_place es n p e in omega arith

-- Once all records are indexed, each list has all of its own.
pub has_all : (es : List ListEntry) (upto : ℕ) (list : ListName) → length es ≤ upto → HasAll es upto list
has_all es upto list l = λ n p e on. let low = no_place es n p e in omega arith

-- An element read from the list is the entry of that record.
pub read_entry : (es : List ListEntry) (e : ListEntry) (i r : ℕ) → i ≡ r → r < length es → e ≡ get_or es i e → e ≡ entry_of es r
read_entry es e i r same l is = is ∙ ap (λ n. get_or es n e) same ∙ get_or_default es r e new_entry l
