-- The calls of desks in a list.
use Rattle.std.proofs.Common.{◌≡◌, ℕ, suc, ◌+◌, ◌<◌, ◌≤◌, List, [], ◌∷◌, ◌++◌, length, Bool, true, false, if◌then◌else◌, nat_eq, nat_le, refl, sym, ap, ◌∙◌, subst, inl, arith, length-append, ne_eqb, eq-eqb, append-nil}
use Rattle.ioc_record.specs.RecordRules.{RecordRules}
use Rattle.ioc_store.specs.World.{World}
use Rattle.ioc_journal.specs.declared.entry.JournalEntry.{JournalEntry}
use Rattle.ioc_journal.specs.declared.entry.Note.{Note}
use Rattle.ioc_journal.specs.Key.{Key, Has}
use Rattle.ioc_journal.specs.Line.{Spares, Continues, noted, longer}
use Rattle.ioc_journal.specs.Account.{calls, calls_by, Below, Above, Rising, desk_key, Keyed, IsAccount}

pub calls-append : (xs ys : List Note) → calls (xs ++ ys) ≡ calls xs ++ calls ys
calls-append [] ys = refl
calls-append (x ∷ xs) ys = ap (λ l. x.entry ∷ l) (calls-append xs ys)

pub length-calls : (xs : List Note) → length (calls xs) ≡ length xs
length-calls [] = refl
length-calls (x ∷ xs) = ap suc (length-calls xs)

-- The calls of one desk.

pub keyed_append : (xs ys : List Note) → Keyed xs → Keyed ys → Keyed (xs ++ ys)
keyed_append [] ys h g = g
keyed_append (x ∷ xs) ys h g = (h.0, keyed_append xs ys h.1 g)

pub keyed_right : (xs ys : List Note) → Keyed (xs ++ ys) → Keyed ys
keyed_right [] ys h = h
keyed_right (x ∷ xs) ys h = keyed_right xs ys h.1

pub below_append : (d c : ℕ) (xs ys : List JournalEntry) → Below d c xs → Below d c ys → Below d c (xs ++ ys)
below_append d c [] ys h g = g
below_append d c (x ∷ xs) ys h g = (h.0, below_append d c xs ys h.1 g)

pub below_more : (d c c' : ℕ) (xs : List JournalEntry) → c ≤ c' → Below d c xs → Below d c' xs
below_more d c c' [] le h = tt
below_more d c c' (x ∷ xs) le h = ((λ e. let a = h.0 e in omega arith), below_more d c c' xs le h.1)

-- Notes without the desk's key aren't calls of the desk.
spared_below : (xs : List Note) (d c : ℕ) → Keyed xs → Spares (desk_key d) xs → Below d c (calls xs)
spared_below [] d c k s = tt
spared_below (x ∷ xs) d c k s = ((λ e. absurd (s.0 (subst (λ n. Has (desk_key n) x.keys) e k.0))), spared_below xs d c k.1 s.1)

spared_calls : (xs : List Note) (d : ℕ) → Keyed xs → Spares (desk_key d) xs → calls_by d (calls xs) ≡ []
spared_calls [] d k s = refl
spared_calls (x ∷ xs) d k s =
    ap (λ b. if b then x.entry ∷ calls_by d (calls xs) else calls_by d (calls xs)) (ne_eqb x.entry.desk d (λ (e : x.entry.desk ≡ d). s.0 (subst (λ n. Has (desk_key n) x.keys) e k.0)))
    ∙ spared_calls xs d k.1 s.1

pub by-append : (d : ℕ) (xs ys : List JournalEntry) → calls_by d (xs ++ ys) ≡ calls_by d xs ++ calls_by d ys
by-append d [] ys = refl
by-append d (x ∷ xs) ys = go (nat_eq x.desk d) (by-append d xs ys)
  where
    go : (b : Bool) → calls_by d (xs ++ ys) ≡ calls_by d xs ++ calls_by d ys → (if b then x ∷ calls_by d (xs ++ ys) else calls_by d (xs ++ ys)) ≡ (if b then x ∷ calls_by d xs else calls_by d xs) ++ calls_by d ys
    go true e = ap (λ l. x ∷ l) e
    go false e = e

pub own_one : (e : JournalEntry) → calls_by e.desk (e ∷ []) ≡ e ∷ []
own_one e = ap (λ b. if b then e ∷ [] else []) (eq-eqb e.desk e.desk refl)

above_snoc : (d c : ℕ) (xs : List JournalEntry) (n : JournalEntry) → Above d c xs → (n.desk ≡ d → c < n.call) → Above d c (xs ++ n ∷ [])
above_snoc d c [] n h g = (g, tt)
above_snoc d c (x ∷ xs) n h g = (h.0, above_snoc d c xs n h.1 g)

pub rising_snoc : (xs : List JournalEntry) (n : JournalEntry) → Rising xs → Below n.desk n.call xs → Rising (xs ++ n ∷ [])
rising_snoc [] n h b = (tt, tt)
rising_snoc (x ∷ xs) n h b = (above_snoc x.desk x.call xs n h.0 (λ e. b.0 (sym e)), rising_snoc xs n h.1 b.1)

pub none_below : (d : ℕ) (es : List JournalEntry) → Below d 0 es → calls_by d es ≡ []
none_below d [] b = refl
none_below d (e ∷ es) b =
    ap (λ b. if b then e ∷ calls_by d es else calls_by d es) (ne_eqb e.desk d (λ (same : e.desk ≡ d). let lt = b.0 same in omega arith)) ∙ none_below d es b.1

-- Lists that continue without the desk's key.

pub below_on : (seen log : List Note) (d c : ℕ) → Continues seen (desk_key d ∷ []) log → Keyed log → Below d c (calls seen) → Below d c (calls log)
below_on seen log d c go k b =
    let keyed = keyed_right seen go.0 (subst Keyed go.1 k) in
    subst (Below d c) (sym (ap calls go.1 ∙ calls-append seen go.0)) (below_append d c (calls seen) (calls go.0) b (spared_below go.0 d c keyed (go.2 (desk_key d) (inl refl))))

pub calls_on : (seen log : List Note) (d : ℕ) → Continues seen (desk_key d ∷ []) log → Keyed log → calls_by d (calls log) ≡ calls_by d (calls seen)
calls_on seen log d go k =
    let keyed = keyed_right seen go.0 (subst Keyed go.1 k) in
    ap (λ l. calls_by d l) (ap calls go.1 ∙ calls-append seen go.0)
    ∙ (by-append d (calls seen) (calls go.0) ∙ (ap (λ l. calls_by d (calls seen) ++ l) (spared_calls go.0 d keyed (go.2 (desk_key d) (inl refl))) ∙ append-nil (calls_by d (calls seen))))

-- A call of another desk leaves the numbers of this desk unchanged.
pub below_other : (log : List Note) (e : JournalEntry) (ks : List Key) (d : ℕ) → (e.desk ≡ d → ⊥) → Below d 0 (calls log) → Below d 0 (calls (log ++ noted e ks ∷ []))
below_other log e ks d ne b =
    subst (Below d 0) (sym (calls-append log (noted e ks ∷ []))) (below_append d 0 (calls log) (e ∷ []) b ((λ same. absurd (ne same)), tt))

pub account_longer : {R : Type 0} (k : RecordRules R) (base : World R) (xs ys : List Note) → IsAccount k base xs → IsAccount k base ys → IsAccount k base (longer xs ys)
account_longer k base xs ys a b = go (nat_le (length xs) (length ys))
  where
    go : (c : Bool) → IsAccount k base (if c then ys else xs)
    go true = b
    go false = a

-- A list isn't longer than one that continues from it.

pub no_longer : (seen log : List Note) (ks : List Key) → Continues seen ks log → length seen ≤ length log
no_longer seen log ks go = omega (arith, ap length go.1, length-append seen go.0)

pub counted : (seen log : List Note) (ks : List Key) (n : Note) (next : ℕ) → next ≤ length seen → Continues seen ks log → next + 1 ≤ length (log ++ n ∷ [])
counted seen log ks n next le go = omega (arith, le, no_longer seen log ks go, length-append log (n ∷ []))
