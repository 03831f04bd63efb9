-- The saved values that a run has taken are read line by line.
use Rattle.std.proofs.Common.{◌≡◌, ℕ, Bool, true, false, cond, List, [], ◌∷◌, ◌++◌, Option, Some, None, refl, sym, ap, subst, ◌∙◌, append_assoc}
use Rattle.std.proofs.lemmas.List.{append-nil}
use Rattle.std.specs.Prelude.{IfSome, ◌==◌}
use Rattle.std.specs.List.{flat_map}
use Rattle.std.specs.Io.BufRead.{take_through, drop_through}
use Rattle.ioc_saved.specs.declared.value.SavedValue.{SavedValue}
use Rattle.ioc_saved.specs.Lines.{is_saveable}
use Rattle.ioc_journal_lines.specs.Lines.{base_line}
use Rattle.ioc_journal_audit.specs.declared.bases.NextBase.TheVariants.{Value}
use Rattle.ioc_journal_audit.specs.Bases.{first_of, begins_base, Peeks, HasNoBase, TakesBase, HasBases}
use Rattle.ioc_journal_audit.specs.Journal.{ReadsLine}
use Rattle.ioc_journal_audit.proofs.Cutting.{through-all}

-- ---- The next line

first_step : (c : Bool) (b : ℕ) (xs : List ℕ) → first_of (cond c (b ∷ []) (b ∷ xs)) ≡ Some b
first_step true b xs = refl
first_step false b xs = refl

first_through : (text : List ℕ) → first_of (take_through 10 text) ≡ first_of text
first_through [] = refl
first_through (b ∷ bs) = first_step (b == 10) b (take_through 10 bs)

first_base : (saved : SavedValue) → first_of (base_line saved) ≡ Some 98
unfolding base_line
first_base saved = refl

clash : (b : Bool) → b ≡ false → b ≡ true → ⊥
clash true h k = absurd cc
clash false h k = absurd cc

other_none : (text : List ℕ) (first : Option ℕ) → first ≡ first_of text → begins_base first ≡ false → HasNoBase text
other_none text first is h = λ saved saveable line.
    clash (begins_base first) h (ap begins_base (is ∙ sym (first_through text) ∙ ap first_of line ∙ first_base saved))

pub no_base : (old left : Option (List ℕ)) (first : Option ℕ) → IfSome old (λ rest. Peeks rest first left) → begins_base first ≡ false → IfSome old (λ rest. HasNoBase rest)
no_base None left first peeks h = tt
no_base (Some text) left first peeks h = other_none text first peeks.0 h

-- What was read of a text whose first byte was seen before.
reads_seen : (text : List ℕ) (left new : Option (List ℕ)) (first : Option ℕ) (some : Bool) (line : List ℕ) → Peeks text first left → IfSome left (λ rest. ReadsLine rest some line new)
    → ReadsLine text some line new
reads_seen text left new first some line peeks reads = subst (λ (o : Option (List ℕ)). IfSome o (λ rest. ReadsLine rest some line new)) peeks.1 reads

pub base_taken : (old left new : Option (List ℕ)) (first : Option ℕ) (some : Bool) (line : List ℕ) (saved : SavedValue) → IfSome old (λ rest. Peeks rest first left)
    → IfSome left (λ rest. ReadsLine rest some line new) → line ≡ base_line saved → IfSome old (λ rest. TakesBase rest (Value saved) new)
base_taken None left new first some line saved peeks reads is = tt
base_taken (Some text) left new first some line saved peeks reads is =
    let read = reads_seen text left new first some line peeks reads in
    (drop_through 10 text, through-all 10 text ∙ ap (λ (l : List ℕ). l ++ drop_through 10 text) (sym read.first ∙ is), read.left)

none_found : (saved : SavedValue) → (let none : Option SavedValue = None in none ≡ Some saved) → ⊥
none_found saved is = absurd cc

pub base_broken : (old left new : Option (List ℕ)) (first : Option ℕ) (some : Bool) (line : List ℕ) (found : Option SavedValue) → IfSome old (λ rest. Peeks rest first left)
    → IfSome left (λ rest. ReadsLine rest some line new) → found ≡ None → ((saved : SavedValue) → is_saveable saved ≡ true → line ≡ base_line saved → found ≡ Some saved)
    → IfSome old (λ rest. HasNoBase rest)
base_broken None left new first some line found peeks reads none only = tt
base_broken (Some text) left new first some line found peeks reads none only = λ saved saveable is.
    let read = reads_seen text left new first some line peeks reads in
    none_found saved (sym none ∙ only saved saveable (read.first ∙ is))

-- ---- All lines

-- The values of these lines were read, where the bytes of the reader are known.
abbrev pub BasesSoFar : Option (List ℕ) → Option (List ℕ) → List SavedValue → Type 0
BasesSoFar None left values = Unit {0}
BasesSoFar (Some text) left values = (rest : List ℕ) × ((left ≡ Some rest) × (text ≡ flat_map base_line values ++ rest))

pub no_bases_yet : (bytes : Option (List ℕ)) → BasesSoFar bytes bytes []
no_bases_yet None = tt
no_bases_yet (Some text) = (text, (refl, refl))

one_more : (values : List SavedValue) (saved : SavedValue) (rest : List ℕ) → flat_map base_line values ++ (base_line saved ++ rest) ≡ flat_map base_line (values ++ saved ∷ []) ++ rest
one_more [] saved rest = ap (λ (l : List ℕ). l ++ rest) (sym (append-nil (base_line saved)))
one_more (v ∷ values) saved rest =
    append_assoc (base_line v) (flat_map base_line values) (base_line saved ++ rest)
    ∙ (ap (λ (l : List ℕ). base_line v ++ l) (one_more values saved rest) ∙ sym (append_assoc (base_line v) (flat_map base_line (values ++ saved ∷ [])) rest))

pub one_more_base : (bytes left new : Option (List ℕ)) (values : List SavedValue) (saved : SavedValue) → BasesSoFar bytes left values → IfSome left (λ rest. TakesBase rest (Value saved) new)
    → BasesSoFar bytes new (values ++ saved ∷ [])
one_more_base None left new values saved so takes = tt
one_more_base (Some text) left new values saved so takes =
    let taken : TakesBase so.0 (Value saved) new = subst (λ (o : Option (List ℕ)). IfSome o (λ rest. TakesBase rest (Value saved) new)) so.1.0 takes in
    (taken.0, (taken.2, so.1.1 ∙ (ap (λ (l : List ℕ). flat_map base_line values ++ l) taken.1 ∙ one_more values saved taken.0)))

pub all_bases : (bytes left : Option (List ℕ)) (values : List SavedValue) → BasesSoFar bytes left values → IfSome left (λ rest. HasNoBase rest) → IfSome bytes (λ text. HasBases text values)
all_bases None left values so none = tt
all_bases (Some text) left values so none =
    record { rest = so.0; begins = so.1.1; none = subst (λ (o : Option (List ℕ)). IfSome o (λ rest. HasNoBase rest)) so.1.0 none }
