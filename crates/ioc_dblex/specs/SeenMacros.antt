-- Macros as contracts see them.
use Rattle.std.specs.Borrow.{Bor}
use Rattle.std.specs.Prelude.{◌≡◌, ℕ, ◌<◌, List, length, Option, Some, None, true, false, drop}
use Rattle.ioc_values.specs.declared.error.IocError.{IocError}
use Rattle.ioc_values.specs.declared.error.IocError.TheVariants as refusals
use Rattle.ioc_dblex.specs.declared.macros.Definition.{Definition}
use Rattle.ioc_dblex.specs.Macros.{Defined, Use, is_macro_name, onto_text, replaced}

-- A definition by its bytes.
abbrev pub defined : Definition → Defined
defined d = record { name = d.name.items; value = d.value.items }

-- Holds if the error is the reason why a name isn't defined: it isn't a macro name, or allocation
-- failed.
abbrev pub Undefined : IocError → List ℕ → Type 0
Undefined refusals.BadValue name = is_macro_name name ≡ false
Undefined refusals.NoMemory name = is_macro_name name ≡ true
Undefined _ name = ⊥

-- Holds if the result is the use of a macro and the bytes after it.
abbrev pub UseSo : Option Use → List ℕ → Option (Bor (List ℕ) × Bor (List ℕ)) → Type 0
UseSo want bytes None = want ≡ None
UseSo want bytes (Some p) = (size : ℕ) × (want ≡ Some (record { value = p.0.now; size = size })) × (p.1.now ≡ drop size bytes)

-- Holds if the result is a piece of a text with its macros replaced, and the bytes after it. If
-- there is none, the text has a macro that can't be replaced.
abbrev pub PieceSo : List Defined → List ℕ → Option (Bor (List ℕ) × Bor (List ℕ)) → Type 0
PieceSo ds text None = replaced ds text ≡ None
PieceSo ds text (Some p) = (replaced ds text ≡ onto_text p.0.now (replaced ds p.1.now)) × (length p.1.now < length text)
