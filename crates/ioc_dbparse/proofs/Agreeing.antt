-- A reading of tokens, compared with one of the same tokens followed by more.
use Rattle.std.proofs.Common.{◌≡◌, Bool, true, false, cond, List, [], Result, Ok, Err, ◌∙◌}
use Rattle.ioc_values.specs.declared.error.BadDbKind.TheVariants as kinds
use Rattle.ioc_values.specs.declared.error.DbFault.{DbFault}
use Rattle.ioc_dblex.specs.Lexing.{Lexeme}
use Rattle.ioc_dbparse.specs.Statements.{◌>>=◌}

-- The results are equal, or the first reading was at the end of its tokens.
pub data Agrees {A : Type 0} (onto : A → A) : Result A DbFault → Result A DbFault → Type 0 where
  both : (x : A) → Agrees onto (Ok x) (Ok (onto x))
  refused : (e : DbFault) → Agrees onto (Err e) (Err e)
  short : (e : DbFault) (after : Result A DbFault) → e.kind ≡ kinds.OpenBody → Agrees onto (Err e) after

-- If the first reading is refused, so is the second, or the first was at the end of its tokens.
pub data Refused {A : Type 0} : Result A DbFault → Result A DbFault → Type 0 where
  taken : (x : A) (after : Result A DbFault) → Refused (Ok x) after
  same : (e : DbFault) → Refused (Err e) (Err e)
  ended : (e : DbFault) (after : Result A DbFault) → e.kind ≡ kinds.OpenBody → Refused (Err e) after

pub agrees_bind : {A B : Type 0} {f : A → A} {r after : Result A DbFault} (g : B → B) (k l : A → Result B DbFault) → Agrees f r after → ((x : A) → Agrees g (k x) (l (f x))) → Agrees g (r >>= k) (after >>= l)
agrees_bind g k l (both x) h = h x
agrees_bind g k l (refused e) h = refused e
agrees_bind g k l (short e after i) h = short e (after >>= l) i

pub refused_bind : {A B : Type 0} {f : A → A} {r after : Result A DbFault} (k l : A → Result B DbFault) → Agrees f r after → ((x : A) → Refused (k x) (l (f x))) → Refused (r >>= k) (after >>= l)
refused_bind k l (both x) h = h x
refused_bind k l (refused e) h = same e
refused_bind k l (short e after i) h = ended e (after >>= l) i

pub refused_then : {A B : Type 0} {r after : Result A DbFault} (k : A → B) → Refused r after → Refused (r >>= λ x. Ok (k x)) (after >>= λ x. Ok (k x))
refused_then k (taken x after) = taken (k x) (after >>= λ y. Ok (k y))
refused_then k (same e) = same e
refused_then k (ended e after i) = ended e (after >>= λ y. Ok (k y)) i

refused_by : {A : Type 0} {r after : Result A DbFault} (e : DbFault) → Refused r after → r ≡ Err e → (e.kind ≡ kinds.OpenBody → ⊥) → after ≡ Err e
refused_by e (taken x after) i inside = cc
refused_by e (same d) i inside = i
refused_by e (ended d after o) i inside = absurd (inside (let j : d ≡ e = cc in rw (← j) o))

-- A fault other than the end stays the fault.
pub fault_stays : {A : Type 0} (r after : Result A DbFault) (e : DbFault) → Refused r after → r ≡ Err e → (e.kind ≡ kinds.OpenBody → ⊥) → after ≡ Err e
fault_stays r after e h i inside = refused_by e h i inside

-- The readings agree if they branch by the same test.
pub agrees_cond : {A : Type 0} {f : A → A} (t : Bool) (r after q later : Result A DbFault) → Agrees f r after → Agrees f q later → Agrees f (cond t r q) (cond t after later)
agrees_cond true r after q later h k = h
agrees_cond false r after q later h k = k

-- The reading of a statement, which may end with the tokens: the results are equal, or the first
-- reading was at the end of its tokens and is refused or done.
pub data Goes {A : Type 0} (onto : A → A) (rest : A → List Lexeme) : Result A DbFault → Result A DbFault → Type 0 where
  agreed : (r after : Result A DbFault) → Agrees onto r after → Goes onto rest r after
  at_end : (x : A) (after : Result A DbFault) → rest x ≡ [] → Goes onto rest (Ok x) after

pub goes_bind : {A B : Type 0} {f : A → A} {r after : Result A DbFault} (g : B → B) (rest : B → List Lexeme) (k l : A → Result B DbFault) → Agrees f r after → ((x : A) → Goes g rest (k x) (l (f x))) → Goes g rest (r >>= k) (after >>= l)
goes_bind g rest k l (both x) h = h x
goes_bind g rest k l (refused e) h = agreed (Err e) (Err e) (refused e)
goes_bind g rest k l (short e after i) h = agreed (Err e) (after >>= l) (short e (after >>= l) i)

pub goes_then : {A B : Type 0} {f : A → A} {rest : A → List Lexeme} {r after : Result A DbFault} (g : B → B) (more : B → List Lexeme) (k : A → B) → Goes f rest r after → ((x : A) → k (f x) ≡ g (k x)) → ((x : A) → more (k x) ≡ rest x) → Goes g more (r >>= λ x. Ok (k x)) (after >>= λ x. Ok (k x))
goes_then g more k (agreed r after h) alike left = agreed _ _ (agrees_bind g _ _ h (λ x. rw (alike x) (both (k x))))
goes_then g more k (at_end x after e) alike left = at_end (k x) (after >>= λ y. Ok (k y)) (left x ∙ e)

pub refused_goes : {A B : Type 0} {f : A → A} {rest : A → List Lexeme} {r after : Result A DbFault} (k l : A → Result B DbFault) → Goes f rest r after → ((x : A) → Refused (k x) (l (f x))) → ((x : A) (later : Result B DbFault) → rest x ≡ [] → Refused (k x) later) → Refused (r >>= k) (after >>= l)
refused_goes k l (agreed r after h) on end = refused_bind k l h on
refused_goes k l (at_end x after e) on end = end x (after >>= l) e
