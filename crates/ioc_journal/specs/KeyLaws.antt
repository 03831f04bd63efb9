-- Lemmas on keys, and on lists that continue without them.
use Rattle.std.proofs.Common.{◌≡◌, ◌⊎◌, ℕ, List, [], ◌∷◌, ◌++◌, sym, ap, inl, inr, ⊎_elim, append-nil}
use Rattle.ioc_journal.specs.declared.entry.Note.{Note}
use Rattle.ioc_journal.specs.Key.{Key, Has, record_keys}
use Rattle.ioc_journal.specs.Line.{Spares, Continues}

pub has_left : (k : Key) (xs ys : List Key) → Has k xs → Has k (xs ++ ys)
has_left k [] ys h = absurd h
has_left k (x ∷ xs) ys h = ⊎_elim (λ e. inl e) (λ r. inr (has_left k xs ys r)) h

pub has_right : (k : Key) (xs ys : List Key) → Has k ys → Has k (xs ++ ys)
has_right k [] ys h = h
has_right k (x ∷ xs) ys h = inr (has_right k xs ys h)

pub has_either : (k : Key) (xs ys : List Key) → Has k (xs ++ ys) → Has k xs ⊎ Has k ys
has_either k [] ys h = inr h
has_either k (x ∷ xs) ys h = ⊎_elim (λ e. inl (inl e)) (λ r. ⊎_elim (λ a. inl (inr a)) (λ b. inr b) (has_either k xs ys r)) h

pub spares_append : (k : Key) (xs ys : List Note) → Spares k xs → Spares k ys → Spares k (xs ++ ys)
spares_append k [] ys h g = g
spares_append k (x ∷ xs) ys h g = (h.0, spares_append k xs ys h.1 g)

pub spares_left : (k : Key) (xs ys : List Note) → Spares k (xs ++ ys) → Spares k xs
spares_left k [] ys h = tt
spares_left k (x ∷ xs) ys h = (h.0, spares_left k xs ys h.1)

pub spares_right : (k : Key) (xs ys : List Note) → Spares k (xs ++ ys) → Spares k ys
spares_right k [] ys h = h
spares_right k (x ∷ xs) ys h = spares_right k xs ys h.1

pub continues_self : (log : List Note) (ks : List Key) → Continues log ks log
continues_self log ks = ([], sym (append-nil log), λ k h. tt)

-- The keys of records are of kind 0.
pub record_kind : (k : Key) (rs : List ℕ) → Has k (record_keys rs) → k.0 ≡ 0
record_kind k [] h = absurd h
record_kind k (r ∷ rs) h = ⊎_elim (λ (e : (0, r) ≡ k). sym (ap (λ (p : Key). p.0) e)) (λ t. record_kind k rs t) h
