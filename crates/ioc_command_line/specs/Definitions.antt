-- Definitions of macros on a command line. EPICS Input / Output Controller shell, `softIoc -m`.
use Rattle.std.specs.Prelude.{◌≡◌, ◌⊎◌, ℕ, ◌==◌, ◌&&◌, Bool, List, [], ◌∷◌, ◌++◌, Option, Some, None, String, is_some, if◌then◌else◌, option_and_then}
use Rattle.std.specs.Global.{Global}
use Rattle.std.specs.List.{onto_first}
use Rattle.ioc_dblex.specs.Macros.{Defined, front_of, back_of, is_macro_name}
use Rattle.ioc_command_line.specs.declared.ending.Stage.TheVariants.{Loading}
use Rattle.ioc_command_line.specs.declared.ending.UsageFault.TheVariants.{NoDefinition}
use Rattle.ioc_command_line.specs.declared.ending.Stop.{Stop}
use Rattle.ioc_command_line.specs.declared.ending.Stop.TheVariants.{Usage, Memory}

-- The macro of a name and what follows it from `=` on.
abbrev pub assigned : List ℕ → List ℕ → Option Defined
assigned name [] = None
assigned name (b ∷ value) = if is_macro_name name then Some (record { name = name; value = value }) else None

-- The macro of NAME=VALUE, cut at the first `=`.
abbrev pub definition_of : List ℕ → Option Defined
definition_of bytes = assigned (front_of 61 bytes) (back_of 61 bytes)

-- Whether another definition begins behind this byte: it is a comma, and NAME= follows.
abbrev pub ends : ℕ → List ℕ → Bool
ends b behind = (b == 44) && is_some (definition_of behind)

-- The first definition of a word, and what is behind its comma.
abbrev pub first_piece : List ℕ → List ℕ
first_piece [] = []
first_piece (b ∷ bs) = if ends b bs then [] else b ∷ first_piece bs

abbrev pub behind_piece : List ℕ → Option (List ℕ)
behind_piece [] = None
behind_piece (b ∷ bs) = if ends b bs then Some bs else behind_piece bs

-- The definitions of a word, without the commas between them.
abbrev pub pieces : List ℕ → List (List ℕ)
pieces [] = [] ∷ []
pieces (b ∷ bs) = if ends b bs then [] ∷ pieces bs else onto_first b (pieces bs)

-- The macros `ds` followed by those of these definitions, if each defines one.
abbrev pub defined_by : List Defined → List (List ℕ) → Option (List Defined)
defined_by ds [] = Some ds
defined_by ds (p ∷ ps) = option_and_then (λ d. defined_by (ds ++ d ∷ []) ps) (definition_of p)

-- The macros `ds` followed by those of these words, if each word defines some.
abbrev pub all_defined : List Defined → List (List ℕ) → Option (List Defined)
all_defined ds [] = Some ds
all_defined ds (w ∷ ws) = option_and_then (λ more. all_defined more ws) (defined_by ds (pieces w))

-- Words are refused: they define no macros, or allocation failed.
abbrev pub Undefined : Option (List Defined) → Stop → Type 0
Undefined wanted stop = (stop ≡ Memory Loading) ⊎ ((wanted ≡ None) × ((word : String Global) × (stop ≡ Usage (NoDefinition word))))
