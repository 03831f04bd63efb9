-- The numbers under which puts with notification begin in a list.
use Rattle.std.proofs.Common.{◌≡◌, ℕ, zero, suc, ◌≢◌, ◌+◌, ◌<◌, ◌≤◌, List, [], ◌∷◌, ◌++◌, Option, Some, None, refl, sym, ap, ◌∙◌, subst, arith, append-nil}
use Rattle.std.proofs.lemmas.List.{get_or_default}
use Rattle.std.proofs.lemmas.List.Elements.{All-append}
use Rattle.std.proofs.lemmas.List.Quantifiers.{all_pairs_push}
use Rattle.std.specs.List.{All, AllPairs, Contains, cons_option}
use Rattle.std.specs.Option.{IfSome}
use Rattle.ioc_events.specs.declared.event.Call.{Call}
use Rattle.ioc_journal.specs.declared.entry.JournalEntry.{JournalEntry}
use Rattle.ioc_journal.specs.declared.entry.Note.{Note}
use Rattle.ioc_journal.specs.Key.{Key, Has}
use Rattle.ioc_journal.specs.Line.{Spares, Continues}
use Rattle.ioc_journal.specs.Legal.{notifications_key}
use Rattle.ioc_journal.specs.Account.{calls, number_given, numbers_given, PutsAreKeyed, MayBegin}
use Rattle.ioc_journal.proofs.Calls.{calls-append}

-- An optional number in front of `xs ++ ys` is in front of `xs`.
pub given-append : (o : Option ℕ) (xs ys : List ℕ) → cons_option o (xs ++ ys) ≡ cons_option o xs ++ ys
given-append None xs ys = refl
given-append (Some n) xs ys = refl

pub numbers-append : (xs ys : List JournalEntry) → numbers_given (xs ++ ys) ≡ numbers_given xs ++ numbers_given ys
numbers-append [] ys = refl
numbers-append (x ∷ xs) ys = ap (λ l. cons_option (number_given x.entry.call) l) (numbers-append xs ys) ∙ given-append (number_given x.entry.call) (numbers_given xs) (numbers_given ys)

puts_append : (xs ys : List Note) → PutsAreKeyed xs → PutsAreKeyed ys → PutsAreKeyed (xs ++ ys)
puts_append [] ys h g = g
puts_append (x ∷ xs) ys h g = (h.0, puts_append xs ys h.1 g)

puts_left : (xs ys : List Note) → PutsAreKeyed (xs ++ ys) → PutsAreKeyed xs
puts_left [] ys h = tt
puts_left (x ∷ xs) ys h = (h.0, puts_left xs ys h.1)

puts_right : (xs ys : List Note) → PutsAreKeyed (xs ++ ys) → PutsAreKeyed ys
puts_right [] ys h = h
puts_right (x ∷ xs) ys h = puts_right xs ys h.1

-- Notes without the key of the puts with notification begin none.
none_without : (o : Option ℕ) (keys : List Key) → IfSome o (λ _. Has notifications_key keys) → (Has notifications_key keys → ⊥) → (xs : List ℕ) → cons_option o xs ≡ xs
none_without None keys h spares xs = refl
none_without (Some n) keys h spares xs = absurd (spares h)

spared_numbers : (xs : List Note) → PutsAreKeyed xs → Spares notifications_key xs → numbers_given (calls xs) ≡ []
spared_numbers [] h s = refl
spared_numbers (x ∷ xs) h s = none_without (number_given x.entry.entry.call) x.keys h.0 s.0 (numbers_given (calls xs)) ∙ spared_numbers xs h.1 s.1

-- The owner of that key has seen all numbers of the list.
pub numbers_on : (seen log : List Note) (owned : List Key) → Continues seen owned log → Has notifications_key owned → PutsAreKeyed log → numbers_given (calls log) ≡ numbers_given (calls seen)
numbers_on seen log owned go has keyed =
    let later = puts_right seen go.0 (subst PutsAreKeyed go.1 keyed) in
    ap (λ l. numbers_given (calls l)) go.1
    ∙ (ap numbers_given (calls-append seen go.0)
    ∙ (numbers-append (calls seen) (calls go.0) ∙ (ap (λ l. numbers_given (calls seen) ++ l) (spared_numbers go.0 later (go.2 notifications_key has)) ∙ append-nil (numbers_given (calls seen)))))

-- The numbers of a list with one more call are those that the owner has seen, followed by the
-- number of the call, if it has one.
pub numbers_then : (seen log longer : List Note) (owned : List Key) (n : Note) → Continues seen owned log → longer ≡ log ++ n ∷ [] → Has notifications_key owned → PutsAreKeyed longer
    → numbers_given (calls longer) ≡ numbers_given (calls seen) ++ cons_option (number_given n.entry.entry.call) []
numbers_then seen log longer owned n go is has keyed =
    ap (λ l. numbers_given (calls l)) is
    ∙ (ap numbers_given (calls-append log (n ∷ []))
    ∙ (numbers-append (calls log) (n.entry ∷ []) ∙ ap (λ l. l ++ cons_option (number_given n.entry.entry.call) []) (numbers_on seen log owned go has (puts_left log (n ∷ []) (subst PutsAreKeyed is keyed)))))

-- Lists with one more call.

abbrev pub Differ : List ℕ → Type 0
Differ xs = AllPairs (λ earlier later. earlier ≢ later) xs

differ_more : (o : Option ℕ) (xs : List ℕ) → Differ xs → IfSome o (λ number. Contains xs number → ⊥) → Differ (xs ++ cons_option o [])
differ_more None xs h g = subst Differ (sym (append-nil xs)) h
differ_more (Some n) xs h g = all_pairs_push (λ earlier later. earlier ≢ later) xs n h (λ k d lt same. g (k, lt, get_or_default xs k n d lt ∙ same))

-- If the caller that begins a put with notification owns their key, the number is none of those of
-- the list.
number_is_unused : (o : Option ℕ) (seen log : List Note) (owned : List Key) → Continues seen owned log → PutsAreKeyed log
    → IfSome o (λ number. Has notifications_key owned × (Contains (numbers_given (calls seen)) number → ⊥)) → IfSome o (λ number. Contains (numbers_given (calls log)) number → ⊥)
number_is_unused None seen log owned go keyed h = tt
number_is_unused (Some n) seen log owned go keyed h = subst (λ (l : List ℕ). Contains l n → ⊥) (sym (numbers_on seen log owned go h.0 keyed)) h.1

keyed_by : (o : Option ℕ) (seen : List Note) (owned keys : List Key) → ((key : Key) → Has key owned → Has key keys)
    → IfSome o (λ number. Has notifications_key owned × (Contains (numbers_given (calls seen)) number → ⊥)) → IfSome o (λ _. Has notifications_key keys)
keyed_by None seen owned keys within h = tt
keyed_by (Some n) seen owned keys within h = within notifications_key h.0

pub numbers_differ : (seen log : List Note) (owned : List Key) (n : Note) → Continues seen owned log → PutsAreKeyed log → Differ (numbers_given (calls log)) → MayBegin seen owned n.entry.entry.call → Differ (numbers_given (calls (log ++ n ∷ [])))
numbers_differ seen log owned n go keyed differ begins =
    subst Differ (sym (ap numbers_given (calls-append log (n ∷ [])) ∙ numbers-append (calls log) (n.entry ∷ [])))
    (differ_more (number_given n.entry.entry.call) (numbers_given (calls log)) differ (number_is_unused (number_given n.entry.entry.call) seen log owned go keyed begins))

pub puts_stay_keyed : (seen log : List Note) (owned : List Key) (n : Note) → ((key : Key) → Has key owned → Has key n.keys) → PutsAreKeyed log → MayBegin seen owned n.entry.entry.call → PutsAreKeyed (log ++ n ∷ [])
puts_stay_keyed seen log owned n within keyed begins = puts_append log (n ∷ []) keyed (keyed_by (number_given n.entry.entry.call) seen owned n.keys within begins, tt)

-- Events that begin no put with notification, and what is known of the last number.

pub begins_none : (seen : List Note) (owned : List Key) (event : Call) → number_given event ≡ None → MayBegin seen owned event
begins_none seen owned event none = subst (λ (o : Option ℕ). IfSome o (λ number. Has notifications_key owned × (Contains (numbers_given (calls seen)) number → ⊥))) (sym none) tt

pub numbers_same : (seen log longer : List Note) (owned : List Key) (n : Note) → Continues seen owned log → longer ≡ log ++ n ∷ [] → Has notifications_key owned → PutsAreKeyed longer → number_given n.entry.entry.call ≡ None
    → numbers_given (calls longer) ≡ numbers_given (calls seen)
numbers_same seen log longer owned n go is has keyed none =
    numbers_then seen log longer owned n go is has keyed ∙ (ap (λ (o : Option ℕ). numbers_given (calls seen) ++ cons_option o []) none ∙ append-nil (numbers_given (calls seen)))

all_of : (o : Option ℕ) (last : ℕ) → IfSome o (λ number. number ≤ last) → All (λ number. number ≤ last) (cons_option o [])
all_of None last h k d lt = absurd (let none : k < 0 = lt in let z : ⊥ = omega (arith, none) in z)
all_of (Some n) last h zero d lt = h
all_of (Some n) last h (suc k) d lt = absurd (let none : suc k < 1 = lt in let z : ⊥ = omega (arith, none) in z)

pub numbers_below : (seen log longer : List Note) (owned : List Key) (n : Note) (last : ℕ) → Continues seen owned log → longer ≡ log ++ n ∷ [] → Has notifications_key owned → PutsAreKeyed longer
    → All (λ number. number ≤ last) (numbers_given (calls seen)) → IfSome (number_given n.entry.entry.call) (λ number. number ≤ last) → All (λ number. number ≤ last) (numbers_given (calls longer))
numbers_below seen log longer owned n last go is has keyed below given =
    subst (λ l. All (λ number. number ≤ last) l) (sym (numbers_then seen log longer owned n go is has keyed))
    (All-append (λ number. number ≤ last) (numbers_given (calls seen)) (cons_option (number_given n.entry.entry.call) []) below (all_of (number_given n.entry.entry.call) last given))

pub still_below : (xs : List ℕ) (last later : ℕ) → last ≤ later → All (λ number. number ≤ last) xs → All (λ number. number ≤ later) xs
still_below xs last later le h k d lt = let was = h k d lt in omega (arith, was, le)

-- The number after the last one is none of those before.
pub next_is_new : (xs : List ℕ) (last next : ℕ) → next ≡ last + 1 → All (λ number. number ≤ last) xs → Contains xs next → ⊥
next_is_new xs last next is h there =
    let was = h there.0 next there.1 in
    let here = there.2 in
    omega (arith, was, is, here)
