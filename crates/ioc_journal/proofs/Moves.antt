-- Each step of a pass keeps the rule of the cell.
use Rattle.std.proofs.Common.{◌≡◌, ◌≢◌, ◌⊎◌, ℕ, zero, suc, ◌≤◌, List, [], ◌∷◌, ◌++◌, length, set, Bool, true, false, true≢false, nat_le, if◌then◌else◌, refl, sym, ap, ◌∙◌, subst, inl, inr, ⊎_elim, arith, append_assoc, append-nil}
use mathlib.Core.Option.{some, some-ne-none, some-injective}
use lib.ListN.{get_elem?}
use Rattle.crossbeam_utils.specs.Register.{Turns, Forks, Merges}
use Rattle.atomic_table.proofs.Lists.{at_set, set_else}
use Rattle.ioc_journal.specs.declared.entry.Note.{Note}
use Rattle.ioc_journal.specs.declared.cell.View.{View}
use Rattle.ioc_journal.specs.Key.{Key, Has}
use Rattle.ioc_journal.specs.KeyLaws.{has_left, has_right, has_either, spares_append, spares_left, spares_right, continues_self}
use Rattle.ioc_journal.specs.Line.{Spares, Continues, Begins, keeper, holder, nobody, copied, claiming, claimed, owning, shown, took, learnt, added, given, TakenIn, Learnt, Appended, Fits, Holds, IsOneList}

off : false ≡ true → ⊥
off e = true≢false (sym e)

-- A list continues without the keys if it continues without them before a note that has none of
-- them.
continues_more : (seen log : List Note) (ks : List Key) (n : Note) → Continues seen ks log → ((k : Key) → Has k ks → Has k n.keys → ⊥) → Continues seen ks (log ++ n ∷ [])
continues_more seen log ks n c apart =
    (c.0 ++ n ∷ [], ap (λ l. l ++ n ∷ []) c.1 ∙ append_assoc seen c.0 (n ∷ []), λ k h. spares_append k c.0 (n ∷ []) (c.2 k h) (apart k h, tt))

-- Of two beginnings of a list, the longer is the shorter followed by what lies between them.
between : (xs ys log : List Note) (p : List Note) (q : List Note) → log ≡ xs ++ p → log ≡ ys ++ q → length xs ≤ length ys → (mid : List Note) × (ys ≡ xs ++ mid) × (p ≡ mid ++ q)
between [] ys log p q e f le = (ys, refl, sym e ∙ f)
between (x ∷ xs) [] log p q e f le = absurd (omega arith)
between (x ∷ xs) (y ∷ ys) [] p q e f le = absurd (cc e)
between (x ∷ xs) (y ∷ ys) (z ∷ zs) p q e f le =
    let heads : x ≡ y = cc (e, f) in
    let r = between xs ys zs p q (cc e) (cc f) (omega arith) in
    (r.0, cc (heads, r.1), r.2)

begins_longer : (xs ys log : List Note) (p q : List Note) → log ≡ xs ++ p → log ≡ ys ++ q → (b : Bool) → nat_le (length xs) (length ys) ≡ b
    → ((mid : List Note) × ((if b then ys else xs) ≡ xs ++ mid) × ((rest : List Note) × (p ≡ mid ++ rest) × (log ≡ (if b then ys else xs) ++ rest)))
    × Begins ys (if b then ys else xs)
begins_longer xs ys log p q e f true is =
    let m = between xs ys log p q e f (grind (arith, is)) in
    ((m.0, m.1, (q, m.2, f)), ([], sym (append-nil ys)))
begins_longer xs ys log p q e f false is =
    let m = between ys xs log q p f e (grind (arith, is)) in
    (([], sym (append-nil xs), (p, refl, e)), (m.0, m.1))

-- An element of a list of views that was appended to is one of the list, or the last.
at_end : (l : List View) (a b : View) (j : ℕ) → get_elem? (l ++ a ∷ []) j ≡ some b → ((get_elem? l j ≡ some b) × (j ≢ length l)) ⊎ ((j ≡ length l) × (a ≡ b))
at_end [] a b zero e = inr (refl, some-injective a b e)
at_end [] a b (suc j) e = absurd (some-ne-none b (sym e))
at_end (x ∷ xs) a b zero e = inl (e, λ h. omega arith)
at_end (x ∷ xs) a b (suc j) e = ⊎_elim (λ t. let n = t.1 in inl (t.0, λ h. n (omega arith))) (λ t. inr (ap suc t.0, t.1)) (at_end xs a b j e)

-- The rule is kept if a pass gets another view and the list may grow.
kept_set : (words words' : List ℕ) (views : List View) (by : ℕ) (v w : View) (log : List Note) (h : IsOneList words views) → get_elem? views by ≡ some v
    → ((j : ℕ) (u : View) → j ≢ by → get_elem? views j ≡ some u → Fits h.log h.seat j u → Fits log h.seat j u)
    → Fits log h.seat by w
    → ((k : Key) → Holds w k → Holds v k)
    → (w.keeps ≡ true → (v.keeps ≡ true) × ((k : Key) → Has k v.born → Has k w.born))
    → IsOneList words' (set views by w)
kept_set words words' views by v w log h at others mine owns keeps = record {
  seat = h.seat;
  log = log;
  fits = λ j u e. ⊎_elim
      (λ (t : (j ≡ by) × (w ≡ u)). subst (λ (y : ℕ × View). Fits log h.seat y.0 y.1) (λ i. (sym t.0 i, t.1 i)) mine)
      (λ (t : (j ≢ by) × (get_elem? views j ≡ some u)). others j u t.0 t.1 (h.fits j u t.1))
      (at_set views by j w u e);
  apart = λ i j a b k ei ej ha hb.
      let x = was i a k ei ha in let y = was j b k ej hb in h.apart i j x.0 y.0 k x.1 y.1 x.2 y.2;
  born = λ i j a b k ei ej ka hb.
      let y = was j b k ej hb in
      ⊎_elim
      (λ (t : (i ≡ by) × (w ≡ a)). let g = keeps (ap (λ (z : View). z.keeps) t.1 ∙ ka) in subst (λ (z : View). Has k z.born) t.1 (g.1 k (h.born by j v y.0 k at y.1 g.0 y.2)))
      (λ (t : (i ≢ by) × (get_elem? views i ≡ some a)). h.born i j a y.0 k t.1 y.1 ka y.2)
      (at_set views by i w a ei);
}
  where
    was : (i : ℕ) (a : View) (k : Key) → get_elem? (set views by w) i ≡ some a → Holds a k → (u : View) × (get_elem? views i ≡ some u) × Holds u k
    was i a k e ha = ⊎_elim
        (λ (t : (i ≡ by) × (w ≡ a)). (v, ap (λ n. get_elem? views n) t.0 ∙ at, owns k (subst (λ (z : View). Holds z k) (sym t.1) ha)))
        (λ (t : (i ≢ by) × (get_elem? views i ≡ some a)). (a, t.1, ha))
        (at_set views by i w a e)

-- The rule is kept if a new pass is added whose keys no other pass owns.
kept_snoc : (words : List ℕ) (views : List View) (new : View) (h : IsOneList words views)
    → new.keeps ≡ false
    → ((n : ℕ) → Fits h.log h.seat n new)
    → ((k : Key) (j : ℕ) (u : View) → get_elem? views j ≡ some u → Holds u k → Holds new k → ⊥)
    → ((k : Key) (j : ℕ) (u : View) → get_elem? views j ≡ some u → u.keeps ≡ true → Holds new k → Has k u.born)
    → IsOneList words (views ++ new ∷ [])
kept_snoc words views new h plain fits alone born = record {
  seat = h.seat;
  log = h.log;
  fits = λ j u e. ⊎_elim (λ t. h.fits j u t.0) (λ t. subst (Fits h.log h.seat j) t.1 (fits j)) (at_end views new u j e);
  apart = λ i j a b k ei ej ha hb. ⊎_elim
      (λ t. ⊎_elim (λ s. h.apart i j a b k t.0 s.0 ha hb) (λ s. absurd (alone k i a t.0 ha (subst (λ (z : View). Holds z k) (sym s.1) hb))) (at_end views new b j ej))
      (λ t. ⊎_elim (λ s. absurd (alone k j b s.0 hb (subst (λ (z : View). Holds z k) (sym t.1) ha))) (λ s. t.0 ∙ sym s.0) (at_end views new b j ej))
      (at_end views new a i ei);
  born = λ i j a b k ei ej ka hb. ⊎_elim
      (λ t. ⊎_elim (λ s. h.born i j a b k t.0 s.0 ka hb) (λ s. born k i a t.0 ka (subst (λ (z : View). Holds z k) (sym s.1) hb)) (at_end views new b j ej))
      (λ t. absurd (off (sym plain ∙ (ap (λ (z : View). z.keeps) t.1 ∙ ka))))
      (at_end views new a i ei);
}

-- The rule is kept if a pass is split in two and each key goes to one of the halves.
fork : (words : List ℕ) (views : List View) (by : ℕ) (v left right : View) (h : IsOneList words views) → get_elem? views by ≡ some v
    → Fits h.log h.seat by left
    → ((n : ℕ) → Fits h.log h.seat n right)
    → ((k : Key) → Holds left k → Holds v k)
    → ((k : Key) → Holds right k → Holds v k)
    → ((k : Key) → Holds left k → Holds right k → ⊥)
    → (left.keeps ≡ true → (v.keeps ≡ true) × ((k : Key) → Has k v.born → Has k left.born))
    → right.keeps ≡ false
    → IsOneList words (set views by left ++ right ∷ [])
unfolding kept_set
fork words views by v left right h at fl fr ol or apart keeps plain =
    let g = kept_set words words views by v left h.log h at (λ j u n e f. f) fl ol keeps in
    kept_snoc words (set views by left) right g plain fr
    (λ k j u e hu hr. ⊎_elim
    (λ (t : (j ≡ by) × (left ≡ u)). apart k (subst (λ (z : View). Holds z k) (sym t.1) hu) hr)
    (λ (t : (j ≢ by) × (get_elem? views j ≡ some u)). t.0 (h.apart j by u v k t.1 at hu (or k hr)))
    (at_set views by j left u e))
    (λ k j u e ku hr. ⊎_elim
    (λ (t : (j ≡ by) × (left ≡ u)). let c = keeps (ap (λ (z : View). z.keeps) t.1 ∙ ku) in subst (λ (z : View). Has k z.born) t.1 (c.1 k (h.born by by v v k at at c.0 (or k hr))))
    (λ (t : (j ≢ by) × (get_elem? views j ≡ some u)). h.born j by u v k t.1 at ku (or k hr))
    (at_set views by j left u e))

none_holds : (seen : List Note) (k : Key) → Holds (holder seen []) k → ⊥
none_holds seen k h = ⊎_elim (λ a. a) (λ b. b) h

continues_none : (log : List Note) → Continues [] [] log
continues_none log = (log, refl, λ k h. absurd h)

fits_holder : (log : List Note) (seat n : ℕ) (seen : List Note) (ks : List Key) → Continues seen ks log → Fits log seat n (holder seen ks)
fits_holder log seat n seen ks c = ((λ e. absurd (off e)), c, continues_none log, λ k a b. b)

-- The steps of passes.
pub begins : (words : List ℕ) → IsOneList words (keeper [] [] ∷ [])
begins words = record {
  seat = 0;
  log = [];
  fits = one;
  apart = λ i j a b k ei ej ha hb. absurd (no i a k ei ha);
  born = λ i j a b k ei ej ka hb. absurd (no j b k ej hb);
}
  where
    one : (by : ℕ) (v : View) → get_elem? (keeper [] [] ∷ []) by ≡ some v → Fits [] 0 by v
    one zero v e = subst (Fits [] 0 0) (some-injective _ _ e) ((λ _. (refl, refl)), continues_self [] [], continues_self [] [], λ k a b. b)
    one (suc by) v e = absurd (some-ne-none v (sym e))

    no : (by : ℕ) (v : View) (k : Key) → get_elem? (keeper [] [] ∷ []) by ≡ some v → Holds v k → ⊥
    no zero v k e h = ⊎_elim (λ (a : ⊥). a) (λ (b : ⊥). b) (subst (λ (z : View). Holds z k) (sym (some-injective _ _ e)) h)
    no (suc by) v k e h = absurd (some-ne-none v (sym e))

pub forks_again : (by : ℕ) (v : View) → Forks IsOneList by v v (copied v)
forks_again by v x views h at =
    let f = h.fits by v at in
    fork x views by v v (copied v) h at f (λ n. fits_holder h.log h.seat n v.seen [] (f.1.0, f.1.1, λ k a. absurd a))
    (λ k a. a) (λ k a. absurd (none_holds v.seen k a)) (λ k a b. none_holds v.seen k b) (λ e. (e, λ k a. a)) refl

pub forks_whole : (by : ℕ) (v : View) → v.keeps ≡ false → Forks IsOneList by v nobody v
forks_whole by v plain x views h at =
    let f = h.fits by v at in
    fork x views by v nobody v h at (fits_holder h.log h.seat by [] [] (continues_none h.log)) (λ n. ((λ e. absurd (off (sym plain ∙ e))), f.1, f.2, f.3))
    (λ k a. absurd (none_holds [] k a)) (λ k a. a) (λ k a b. none_holds [] k a) (λ e. absurd (off e)) plain

pub forks_parts : (by : ℕ) (v : View) (ks rest : List Key) → v.asks ≡ [] → ((k : Key) → Has k (ks ++ rest) → Has k v.owns) → ((k : Key) → Has k ks → Has k rest → ⊥)
    → Forks IsOneList by v (owning rest v) (claimed ks v)
forks_parts by v ks rest none within apart x views h at =
    let f = h.fits by v at in
    let no : (k : Key) → Has k v.asks → ⊥ = λ k a. subst (Has k) none a in
    fork x views by v (owning rest v) (claimed ks v) h at
    (f.0, (f.1.0, f.1.1, λ k a. f.1.2 k (within k (has_right k ks rest a))), f.2, λ k a b. no k b)
    (λ n. fits_holder h.log h.seat n v.seen ks (f.1.0, f.1.1, λ k a. f.1.2 k (within k (has_left k ks rest a))))
    (λ k a. ⊎_elim (λ b. inl (within k (has_right k ks rest b))) (λ b. inr b) a)
    (λ k a. ⊎_elim (λ b. inl (within k (has_left k ks rest b))) (λ (b : ⊥). absurd b) a)
    (λ k a b. ⊎_elim (λ p. ⊎_elim (λ q. apart k q p) (λ (q : ⊥). q) b) (λ p. no k p) a)
    (λ e. (e, λ k a. a)) refl

pub forks_rest : (by : ℕ) (v : View) → v.asks ≡ [] → Forks IsOneList by v (owning [] v) (given v)
forks_rest by v none = forks_parts by v v.owns [] none (λ k a. subst (Has k) (append-nil v.owns) a) (λ k a b. b)

pub forks_claims : (by : ℕ) (v : View) (ks : List Key) → v.keeps ≡ true → ((k : Key) → Has k ks → Has k v.born → ⊥) → Forks IsOneList by v (claiming ks v) (claimed ks v)
unfolding kept_set
forks_claims by v ks keeps fresh x views h at =
    let f = h.fits by v at in
    let left = claiming ks v in
    let g = kept_set x x views by v left h.log h at (λ j u n e f. f) f (λ k a. a) (λ e. (e, λ k a. has_right k ks v.born a)) in
    kept_snoc x (set views by left) (claimed ks v) g refl
    (λ n. fits_holder h.log h.seat n v.seen ks ([], sym (f.0 keeps).1 ∙ sym (append-nil v.seen), λ k a. tt))
    (λ k j u e hu hr. ⊎_elim
    (λ (hk : Has k ks). ⊎_elim
    (λ (t : (j ≡ by) × (left ≡ u)). fresh k hk (h.born by by v v k at at keeps (subst (λ (z : View). Holds z k) (sym t.1) hu)))
    (λ (t : (j ≢ by) × (get_elem? views j ≡ some u)). fresh k hk (h.born by j v u k at t.1 keeps hu))
    (at_set views by j left u e))
    (λ (b : ⊥). b) hr)
    (λ k j u e ku hr. ⊎_elim
    (λ (hk : Has k ks). ⊎_elim
    (λ (t : (j ≡ by) × (left ≡ u)). subst (λ (z : View). Has k z.born) t.1 (has_left k ks v.born hk))
    (λ (t : (j ≢ by) × (get_elem? views j ≡ some u)). absurd (t.0 (((h.fits j u t.1).0 ku).0 ∙ sym (f.0 keeps).0)))
    (at_set views by j left u e))
    (λ (b : ⊥). absurd b) hr)

pub merges_shows : (by : ℕ) (v : View) (other : ℕ) (w : View) → v.asks ≡ [] → w.asks ≡ [] → Merges IsOneList by v other w (shown v w) nobody
merges_shows by v other w none none' x views h at apart there = record {
  seat = h.seat;
  log = h.log;
  fits = λ j u e. ⊎_elim
      (λ (t : (j ≡ other) × (nobody ≡ u)). subst (Fits h.log h.seat j) t.1 (fits_holder h.log h.seat j [] [] (continues_none h.log)))
      (λ (t : (j ≢ other) × (get_elem? (set views by both) j ≡ some u)). ⊎_elim
      (λ (s : (j ≡ by) × (both ≡ u)). subst (λ (y : ℕ × View). Fits h.log h.seat y.0 y.1) (λ i. (sym s.0 i, s.1 i)) (f.0, f.1, fw.1, λ k a b. apart (sym (h.apart by other v w k at old (inl a) (inl b)))))
      (λ (s : (j ≢ by) × (get_elem? views j ≡ some u)). h.fits j u s.1)
      (at_set views by j both u t.1))
      (at_set (set views by both) other j nobody u e);
  apart = λ i j a b k ei ej ha hb.
      let p = was i a k ei ha in let q = was j b k ej hb in
      let e = h.apart p.0 q.0 p.1 q.1 k p.2 q.2 p.3 q.3 in
      ⊎_elim
      (λ (s : p.0 ≡ i). ⊎_elim (λ (t : q.0 ≡ j). sym s ∙ (e ∙ t)) (λ (t : (q.0 ≡ other) × (j ≡ by)). absurd (p.5 (sym s ∙ (e ∙ t.0)))) q.4)
      (λ (s : (p.0 ≡ other) × (i ≡ by)). ⊎_elim (λ (t : q.0 ≡ j). absurd (q.5 (sym t ∙ (sym e ∙ s.0)))) (λ (t : (q.0 ≡ other) × (j ≡ by)). s.1 ∙ sym t.1) q.4)
      p.4;
  born = λ i j a b k ei ej ka hb.
      let q = was j b k ej hb in
      ⊎_elim
      (λ (t : (i ≡ other) × (nobody ≡ a)). absurd (off (ap (λ (z : View). z.keeps) t.1 ∙ ka)))
      (λ (t : (i ≢ other) × (get_elem? (set views by both) i ≡ some a)). ⊎_elim
      (λ (s : (i ≡ by) × (both ≡ a)). subst (λ (z : View). Has k z.born) s.1 (h.born by q.0 v q.1 k at q.2 (ap (λ (z : View). z.keeps) s.1 ∙ ka) q.3))
      (λ (s : (i ≢ by) × (get_elem? views i ≡ some a)). h.born i q.0 a q.1 k s.1 q.2 ka q.3)
      (at_set views by i both a t.1))
      (at_set (set views by both) other i nobody a ei);
}
  where
    both : View
    both = shown v w

    old : get_elem? views other ≡ some w
    old = sym (set_else views by other both apart) ∙ there

    f : Fits h.log h.seat by v
    f = h.fits by v at

    fw : Fits h.log h.seat other w
    fw = h.fits other w old

    -- The pass that owned the key before.
    was : (i : ℕ) (a : View) (k : Key) → get_elem? (set (set views by both) other nobody) i ≡ some a → Holds a k
        → (n : ℕ) × (u : View) × (get_elem? views n ≡ some u) × Holds u k × ((n ≡ i) ⊎ ((n ≡ other) × (i ≡ by))) × (i ≢ other)
    was i a k e ha = ⊎_elim
        (λ (t : (i ≡ other) × (nobody ≡ a)). absurd (none_holds [] k (subst (λ (z : View). Holds z k) (sym t.1) ha)))
        (λ (t : (i ≢ other) × (get_elem? (set views by both) i ≡ some a)). ⊎_elim
        (λ (s : (i ≡ by) × (both ≡ a)). ⊎_elim
        (λ (m : Has k v.owns). (by, v, at, inl m, inl (sym s.0), t.0))
        (λ (m : Has k w.owns). (other, w, old, inl m, inr (refl, s.0), t.0))
        (subst (λ (z : View). Holds z k) (sym s.1) ha))
        (λ (s : (i ≢ by) × (get_elem? views i ≡ some a)). (i, a, s.1, ha, inl refl, t.0))
        (at_set views by i both a t.1))
        (at_set (set views by both) other i nobody a e)

pub turns_takes_in : (by : ℕ) (v : View) → v.keeps ≡ true → Turns IsOneList by v (λ x. x) TakenIn
turns_takes_in by v keeps x views h at =
    let f = h.fits by v at in
    let whole = (f.0 keeps).1 in (
      took v,
      kept_set x x views by v (took v) h.log h at (λ j u n e g. g)
          (f.0, ([], sym whole ∙ sym (append-nil v.seen), λ k a. tt), continues_none h.log, λ k a b. b)
          (λ k a. ⊎_elim (λ b. ⊎_elim (λ c. inl c) (λ c. inr c) (has_either k v.owns v.asks b)) (λ (b : ⊥). absurd b) a)
          (λ e. (e, λ k a. a)),
      (refl, (f.2.0, whole ∙ f.2.1, f.2.2), (λ k a. h.born by by v v k at at keeps (inr a)), f.3),
    )

pub turns_learns : (by : ℕ) (v : View) → v.keeps ≡ false → Turns IsOneList by v (λ x. x) Learnt
turns_learns by v plain x views h at =
    let f = h.fits by v at in
    let l = begins_longer v.seen v.mark h.log f.1.0 f.2.0 f.1.1 f.2.1 (nat_le (length v.seen) (length v.mark)) refl in
    let mid = l.0.0 in
    let rest = l.0.2.0 in
    let spared : (k : Key) → Has k v.owns → Spares k (mid ++ rest) = λ k a. subst (Spares k) l.0.2.1 (f.1.2 k a) in (
      learnt v,
      kept_set x x views by v (learnt v) h.log h at (λ j u n e g. g)
          ((λ e. absurd (off (sym plain ∙ e))), (rest, l.0.2.2, λ k a. spares_right k mid rest (spared k a)), continues_none h.log, λ k a b. b)
          (λ k a. ⊎_elim (λ b. inl b) (λ (b : ⊥). absurd b) a)
          (λ e. (e, λ k a. a)),
      (refl, (mid, l.0.1, λ k a. spares_left k mid rest (spared k a)), l.1),
    )

pub turns_appends : (by : ℕ) (v : View) (n : Note) → v.keeps ≡ true → v.asks ≡ [] → ((k : Key) → Has k n.keys → Has k v.owns) → Turns IsOneList by v (λ x. x) (Appended n)
turns_appends by v n keeps none owns x views h at =
    let f = h.fits by v at in
    let whole = (f.0 keeps).1 in
    let log = h.log ++ n ∷ [] in (
      added n v,
      kept_set x x views by v (added n v) log h at
          (λ j u apart e g. (
            (λ k. absurd (apart ((g.0 k).0 ∙ sym (f.0 keeps).0))),
            continues_more u.seen h.log u.owns n g.1 (λ k a b. apart (h.apart j by u v k e at (inl a) (inl (owns k b)))),
            continues_more u.mark h.log u.asks n g.2 (λ k a b. apart (h.apart j by u v k e at (inr a) (inl (owns k b)))),
            g.3,
          )) (
            (λ k. ((f.0 k).0, ap (λ l. l ++ n ∷ []) (f.0 k).1)),
            ([], ap (λ l. l ++ n ∷ []) (sym whole) ∙ sym (append-nil (v.seen ++ n ∷ [])), λ k a. tt),
            continues_more v.mark h.log v.asks n f.2 (λ k a b. subst (Has k) none a),
            f.3,
          )
          (λ k a. a)
          (λ e. (e, λ k a. a)),
      refl,
    )
