-- Waiting lists after adding one and after removing one.
use Rattle.std.proofs.Common.{◌≡◌, ℕ, Bool, true, false, not, cond, nat_eq, List, [], ◌∷◌, refl, sym, ap, ◌∙◌}
use Rattle.std.specs.List.{filter}
use Rattle.ioc_notify.specs.declared.waiting_lists.Waiting.{Waiting}
use Rattle.ioc_notify.specs.Waits.{at_record, without, Waits}

-- Two filters commute.
by_tests : {X : Type 0} (p q : X → Bool) (x : X) (xs : List X) (b c : Bool) → p x ≡ b → q x ≡ c → filter p (filter q xs) ≡ filter q (filter p xs)
    → filter p (cond c (x ∷ filter q xs) (filter q xs)) ≡ filter q (cond b (x ∷ filter p xs) (filter p xs))
by_tests p q x xs true true eb ec h =
    ap (λ v. cond v (x ∷ filter p (filter q xs)) (filter p (filter q xs))) eb ∙ ap (λ ys. x ∷ ys) h ∙ sym (ap (λ v. cond v (x ∷ filter q (filter p xs)) (filter q (filter p xs))) ec)
by_tests p q x xs true false eb ec h = h ∙ sym (ap (λ v. cond v (x ∷ filter q (filter p xs)) (filter q (filter p xs))) ec)
by_tests p q x xs false true eb ec h = ap (λ v. cond v (x ∷ filter p (filter q xs)) (filter p (filter q xs))) eb ∙ h
by_tests p q x xs false false eb ec h = h

two_filters : {X : Type 0} (p q : X → Bool) (xs : List X) → filter p (filter q xs) ≡ filter q (filter p xs)
two_filters p q [] = refl
two_filters p q (x ∷ xs) = by_tests p q x xs (p x) (q x) refl refl (two_filters p q xs)

pub removed_from_each : (xs : List Waiting) (number target : ℕ) → at_record target (without number xs) ≡ without number (at_record target xs)
removed_from_each xs number target = two_filters (λ w. nat_eq w.target target) (λ w. not (nat_eq w.number number)) xs

pub same_waits : (xs ys : List Waiting) (r s : ℕ) → xs ≡ ys → r ≡ s → ◌≡◌ {A = Waits} (record { waiting = xs; room = r }) (record { waiting = ys; room = s })
same_waits xs ys r s e f = cc
