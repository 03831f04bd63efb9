-- The lines of a text, and the text of each without its comment and line end. EPICS Application
-- Developer's Guide, "Database Definition", "Comments" and "Macro substitution".
use Rattle.std.specs.Prelude.{ℕ, ◌-◌, nat_lt, length, slice_index_or, Bool, false, List, [], ◌∷◌, Option, ◌==◌, ◌&&◌, ◌||◌, if◌then◌else◌}
use Rattle.std.specs.List.{onto_first}
use Rattle.ioc_dblex.specs.declared.lines.Quoting.{Quoting}
use Rattle.ioc_dblex.specs.declared.lines.Quoting.TheVariants.{Outside, Inside, Escaped}
use Rattle.ioc_dblex.specs.Macros.{Defined, lacks, replaced}

-- Whether the first byte is this one.
abbrev pub begins_with : ℕ → List ℕ → Bool
begins_with c [] = false
begins_with c (b ∷ bs) = b == c

-- The lines with their line feeds. After the last line feed no line begins if there are no bytes.
abbrev pub lines_of : List ℕ → List (List ℕ)
lines_of [] = []
lines_of (b ∷ bs) = if b == 10 then (10 ∷ []) ∷ lines_of bs else onto_first b (lines_of bs)

-- The line without its line feed, and without a carriage return before it.
abbrev pub without_end : List ℕ → List ℕ
without_end [] = []
without_end (b ∷ bs) = if (b == 10) || ((b == 13) && begins_with 10 bs) then [] else b ∷ without_end bs

-- Whether this byte is at `before` bytes before the last one.
abbrev pub stands : ℕ → ℕ → List ℕ → Bool
stands c before bs = nat_lt before (length bs) && (slice_index_or bs (length bs - before - 1) 0 == c)

-- The quoting of the byte after this one.
unfoldable pub quoting_after : Quoting → ℕ → Quoting
quoting_after Outside b = if b == 34 then Inside else Outside
quoting_after Inside b = if b == 34 then Outside else (if b == 92 then Escaped else Inside)
quoting_after Escaped b = Inside

-- Whether the byte is a number sign outside double quotes.
unfoldable pub begins_comment : Quoting → ℕ → Bool
begins_comment Outside b = b == 35
begins_comment Inside b = false
begins_comment Escaped b = false

-- The line up to its comment.
abbrev pub uncommented : Quoting → List ℕ → List ℕ
uncommented quoting [] = []
uncommented quoting (b ∷ bs) = if begins_comment quoting b then [] else b ∷ uncommented (quoting_after quoting b) bs

-- Whether no byte begins a comment or a macro.
abbrev pub is_plain : List ℕ → Bool
is_plain bs = lacks 35 bs && lacks 36 bs

-- The text of a line, if its macros can be replaced.
unfoldable pub line_text : List Defined → List ℕ → Option (List ℕ)
line_text ds line = replaced ds (uncommented Outside (without_end line))
