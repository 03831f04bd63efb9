-- The lines of a base are read one after another.
use Rattle.std.proofs.Common.{◌≡◌, ℕ, Bool, true, false, cond, List, [], ◌∷◌, ◌++◌, Option, Some, None, refl, sym, ap, subst, ◌∙◌, append_assoc}
use Rattle.std.proofs.lemmas.List.{append-nil}
use Rattle.std.specs.Prelude.{IfSome, ◌==◌}
use Rattle.std.specs.List.{flat_map}
use Rattle.std.specs.Io.BufRead.{take_through, drop_through}
use Rattle.ioc_journal_file.specs.declared.base.BaseItem.{BaseItem}
use Rattle.ioc_journal_file.specs.declared.base.BaseItem.TheVariants as item
use Rattle.ioc_journal_file.specs.Bases.{item_line, IsItem}
use Rattle.ioc_journal_audit.specs.declared.items.NextItem.TheVariants.{Item}
use Rattle.ioc_journal_audit.specs.Bases.{first_of, Peeks}
use Rattle.ioc_journal_audit.specs.BaseItems.{begins_item, HasNoItem, TakesItem, HasItems}
use Rattle.ioc_journal_audit.specs.Journal.{ReadsLine}
use Rattle.ioc_journal_audit.proofs.Cutting.{through-all}

-- ---- The next line

first_step : (c : Bool) (b : ℕ) (xs : List ℕ) → first_of (cond c (b ∷ []) (b ∷ xs)) ≡ Some b
first_step true b xs = refl
first_step false b xs = refl

first_through : (text : List ℕ) → first_of (take_through 10 text) ≡ first_of text
first_through [] = refl
first_through (b ∷ bs) = first_step (b == 10) b (take_through 10 bs)

begins_line : (it : BaseItem) → begins_item (first_of (item_line it)) ≡ true
unfolding item_line
begins_line (item.Field number field part) = refl
begins_line (item.State number state) = refl
begins_line (item.Waiting w) = refl
begins_line (item.Desk desk calls) = refl

clash : (b : Bool) → b ≡ false → b ≡ true → ⊥
clash true h k = absurd cc
clash false h k = absurd cc

other_none : (text : List ℕ) (first : Option ℕ) → first ≡ first_of text → begins_item first ≡ false → HasNoItem text
other_none text first is h = λ it is_item line.
    clash (begins_item first) h (ap begins_item (is ∙ sym (first_through text) ∙ ap first_of line) ∙ begins_line it)

pub no_item : (old left : Option (List ℕ)) (first : Option ℕ) → IfSome old (λ rest. Peeks rest first left) → begins_item first ≡ false → IfSome old (λ rest. HasNoItem rest)
no_item None left first peeks h = tt
no_item (Some text) left first peeks h = other_none text first peeks.0 h

-- What was read of a text whose first byte was seen before.
reads_seen : (text : List ℕ) (left new : Option (List ℕ)) (first : Option ℕ) (some : Bool) (line : List ℕ) → Peeks text first left → IfSome left (λ rest. ReadsLine rest some line new)
    → ReadsLine text some line new
reads_seen text left new first some line peeks reads = subst (λ (o : Option (List ℕ)). IfSome o (λ rest. ReadsLine rest some line new)) peeks.1 reads

pub item_taken : (old left new : Option (List ℕ)) (first : Option ℕ) (some : Bool) (line : List ℕ) (it : BaseItem) → IfSome old (λ rest. Peeks rest first left)
    → IfSome left (λ rest. ReadsLine rest some line new) → line ≡ item_line it → IfSome old (λ rest. TakesItem rest (Item it) new)
item_taken None left new first some line it peeks reads is = tt
item_taken (Some text) left new first some line it peeks reads is =
    let read = reads_seen text left new first some line peeks reads in
    (drop_through 10 text, through-all 10 text ∙ ap (λ (l : List ℕ). l ++ drop_through 10 text) (sym read.first ∙ is), read.left)

none_found : (it : BaseItem) → (let none : Option BaseItem = None in none ≡ Some it) → ⊥
none_found it is = absurd cc

pub item_broken : (old left new : Option (List ℕ)) (first : Option ℕ) (some : Bool) (line : List ℕ) (found : Option BaseItem) → IfSome old (λ rest. Peeks rest first left)
    → IfSome left (λ rest. ReadsLine rest some line new) → found ≡ None → ((it : BaseItem) → IsItem it → line ≡ item_line it → found ≡ Some it)
    → IfSome old (λ rest. HasNoItem rest)
item_broken None left new first some line found peeks reads none only = tt
item_broken (Some text) left new first some line found peeks reads none only = λ it is_item is.
    let read = reads_seen text left new first some line peeks reads in
    none_found it (sym none ∙ only it is_item (read.first ∙ is))

-- ---- All lines

-- The items of these lines were read, where the bytes of the reader are known.
abbrev pub ItemsSoFar : Option (List ℕ) → Option (List ℕ) → List BaseItem → Type 0
ItemsSoFar None left items = Unit {0}
ItemsSoFar (Some text) left items = (rest : List ℕ) × ((left ≡ Some rest) × (text ≡ flat_map item_line items ++ rest))

pub no_items_yet : (bytes : Option (List ℕ)) → ItemsSoFar bytes bytes []
no_items_yet None = tt
no_items_yet (Some text) = (text, (refl, refl))

one_more : (items : List BaseItem) (it : BaseItem) (rest : List ℕ) → flat_map item_line items ++ (item_line it ++ rest) ≡ flat_map item_line (items ++ it ∷ []) ++ rest
one_more [] it rest = ap (λ (l : List ℕ). l ++ rest) (sym (append-nil (item_line it)))
one_more (v ∷ items) it rest =
    append_assoc (item_line v) (flat_map item_line items) (item_line it ++ rest)
    ∙ (ap (λ (l : List ℕ). item_line v ++ l) (one_more items it rest) ∙ sym (append_assoc (item_line v) (flat_map item_line (items ++ it ∷ [])) rest))

pub one_more_item : (bytes left new : Option (List ℕ)) (items : List BaseItem) (it : BaseItem) → ItemsSoFar bytes left items → IfSome left (λ rest. TakesItem rest (Item it) new)
    → ItemsSoFar bytes new (items ++ it ∷ [])
one_more_item None left new items it so takes = tt
one_more_item (Some text) left new items it so takes =
    let taken : TakesItem so.0 (Item it) new = subst (λ (o : Option (List ℕ)). IfSome o (λ rest. TakesItem rest (Item it) new)) so.1.0 takes in
    (taken.0, (taken.2, so.1.1 ∙ (ap (λ (l : List ℕ). flat_map item_line items ++ l) taken.1 ∙ one_more items it taken.0)))

pub all_items : (bytes left : Option (List ℕ)) (items : List BaseItem) → ItemsSoFar bytes left items → IfSome left (λ rest. HasNoItem rest) → IfSome bytes (λ text. HasItems text items)
all_items None left items so none = tt
all_items (Some text) left items so none =
    record { rest = so.0; begins = so.1.1; none = subst (λ (o : Option (List ℕ)). IfSome o (λ rest. HasNoItem rest)) so.1.0 none }
