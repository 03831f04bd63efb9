-- The change with the highest number decides where a record is.
use Rattle.std.proofs.Common.{◌≡◌, ℕ, ◌+◌, ◌<◌, ◌≤◌, ⊎_elim, Bool, true, false, cond, nat_lt, Option, List, [], ◌∷◌, length, set, refl, sym, ap, ◌∙◌, subst, arith, get_or-set_other, get_or-set_same}
use Rattle.std.specs.Prelude.{All}
use Rattle.std.proofs.lemmas.Bool.{cases_eq, ltb-true, ltb-false}
use Rattle.std.proofs.Math.ListN.{length-set}
use Rattle.std.proofs.lemmas.List.Elements.{All-head, All-tail}
use Rattle.ioc_scan.specs.declared.list_name.Placement.{Placement}
use Rattle.ioc_scan.specs.declared.position.ListEntry.{ListEntry}
use Rattle.ioc_scan.specs.Positions.{entry_of, new_entry}
use Rattle.ioc_scan.specs.Scanned.{Scanned, changed, place_of}
use Rattle.ioc_scan.specs.Changes.{Change, after_changes, StandsAsTheHighestSays}

abbrev entry : Scanned → ℕ → ListEntry
entry s r = entry_of s.entries r

abbrev done : Scanned → ℕ → ℕ → Option Placement → Scanned
done s r n p = record { entries = set s.entries r (record { number = n; place = p; order = s.last + 1 }); last = s.last + 1 }

-- After a change the lists are either unchanged or have the record placed there, so a property of
-- both holds.
by_number : (P : Scanned → Type 0) (s : Scanned) (r n : ℕ) (p : Option Placement) (b : Bool) → nat_lt n (entry s r).number ≡ b
    → (n < (entry s r).number → P s) → ((entry s r).number ≤ n → P (done s r n p)) → P (cond b s (done s r n p))
by_number P s r n p true e f g = f (ltb-true n (entry s r).number e)
by_number P s r n p false e f g = g (ltb-false n (entry s r).number e)

by_change : (P : Scanned → Type 0) (s : Scanned) (r n : ℕ) (p : Option Placement)
    → (n < (entry s r).number → P s) → ((entry s r).number ≤ n → P (done s r n p)) → P (changed s r n p)
by_change P s r n p f g = by_number P s r n p (nat_lt n (entry s r).number) refl f g

-- A change keeps the number of records.
as_many : (s : Scanned) (r n : ℕ) (p : Option Placement) → length (changed s r n p).entries ≡ length s.entries
as_many s r n p = by_change (λ t. length t.entries ≡ length s.entries) s r n p (λ l. refl) (λ l. length-set s.entries r _)

-- After a change the number of the record's entry is still not above the bound, if the number of
-- the change isn't.
still_low : (s : Scanned) (c : ℕ) (m : ℕ) (e : Change) → c < length s.entries → (entry s c).number ≤ m → (e.member ≡ c → e.number ≤ m) → (entry (changed s e.member e.number e.place) c).number ≤ m
still_low s c m e l low h =
    by_change (λ t. (entry t c).number ≤ m) s e.member e.number e.place
    (λ ignored. low)
    (λ came. ⊎_elim
    (λ own. let is : entry (done s e.member e.number e.place) c ≡ record { number = e.number; place = e.place; order = s.last + 1 } =
    subst (λ (k : ℕ). entry (done s e.member e.number e.place) k ≡ record { number = e.number; place = e.place; order = s.last + 1 }) own (get_or-set_same s.entries e.member _ new_entry (let o : e.member ≡ c = own in omega arith)) in
    let at : (entry (done s e.member e.number e.place) c).number ≡ e.number = ap (λ (v : ListEntry). v.number) is in
    let k : e.number ≤ m = h own in omega arith)
    (λ other.
    let at : (entry (done s e.member e.number e.place) c).number ≡ (entry s c).number = ap (λ (v : ListEntry). v.number) (get_or-set_other s.entries e.member c _ new_entry (λ q. other (sym q))) in omega arith)
    (cases_eq e.member c))

stays : (s : Scanned) (c : ℕ) (m : ℕ) (p : Option Placement) (e : Change) → ((entry s c).number ≡ m) × (place_of s c ≡ p) → (e.member ≡ c → e.number < m)
    → ((entry (changed s e.member e.number e.place) c).number ≡ m) × (place_of (changed s e.member e.number e.place) c ≡ p)
stays s c m p e is h =
    by_change (λ t. ((entry t c).number ≡ m) × (place_of t c ≡ p)) s e.member e.number e.place
    (λ ignored. is)
    (λ came. ⊎_elim
    (λ own. absurd (let k : e.number < m = h own in let v : (entry s e.member).number ≡ (entry s c).number = ap (λ k. (entry s k).number) own in let w : (entry s c).number ≡ m = is.0 in omega arith))
    (λ other.
    let at : entry (done s e.member e.number e.place) c ≡ entry s c = get_or-set_other s.entries e.member c _ new_entry (λ q. other (sym q)) in
    (ap (λ (v : ListEntry). v.number) at ∙ is.0, ap (λ (v : ListEntry). v.place) at ∙ is.1))
    (cases_eq e.member c))

all_low : (s : Scanned) (c : ℕ) (m : ℕ) (es : List Change) → c < length s.entries → (entry s c).number ≤ m → All (λ e. e.member ≡ c → e.number ≤ m) es
    → ((entry (after_changes s es) c).number ≤ m) × (c < length (after_changes s es).entries)
all_low s c m [] l low h = (low, l)
all_low s c m (e ∷ es) l low h =
    let many = as_many s e.member e.number e.place in
    all_low (changed s e.member e.number e.place) c m es (omega arith) (still_low s c m e l low (All-head (λ (e : Change). e.member ≡ c → e.number ≤ m) e es h)) (All-tail (λ (e : Change). e.member ≡ c → e.number ≤ m) e es h)

all_stay : (s : Scanned) (c : ℕ) (m : ℕ) (p : Option Placement) (es : List Change) → ((entry s c).number ≡ m) × (place_of s c ≡ p) → All (λ e. e.member ≡ c → e.number < m) es
    → place_of (after_changes s es) c ≡ p
all_stay s c m p [] is h = is.1
all_stay s c m p (e ∷ es) is h =
    all_stay (changed s e.member e.number e.place) c m p es (stays s c m p e is (All-head (λ (e : Change). e.member ≡ c → e.number < m) e es h)) (All-tail (λ (e : Change). e.member ≡ c → e.number < m) e es h)

arrives : (s : Scanned) (c : ℕ) (m : ℕ) (p : Option Placement) → c < length s.entries → (entry s c).number ≤ m → ((entry (changed s c m p) c).number ≡ m) × (place_of (changed s c m p) c ≡ p)
arrives s c m p l low =
    by_change (λ t. ((entry t c).number ≡ m) × (place_of t c ≡ p)) s c m p
    (λ late. absurd (omega arith))
    (λ came.
    let at : entry (done s c m p) c ≡ record { number = m; place = p; order = s.last + 1 } = get_or-set_same s.entries c _ new_entry l in
    (ap (λ (v : ListEntry). v.number) at, ap (λ (v : ListEntry). v.place) at))

pub highest_stands : (s : Scanned) (earlier later : List Change) (c : Change) → StandsAsTheHighestSays s earlier c later
highest_stands s earlier later c l highest =
    let low = all_low s c.member c.number earlier l highest.0 highest.1 in
    all_stay (changed (after_changes s earlier) c.member c.number c.place) c.member c.number c.place later (arrives (after_changes s earlier) c.member c.number c.place low.1 low.0) highest.2
