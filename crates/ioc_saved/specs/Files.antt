-- Files of saved values.
use Rattle.std.specs.Prelude.{◌≡◌, ℕ, ◌+◌, Bool, true, List, [], ◌∷◌, ◌++◌, Result, Ok, Err, codes, decimal, nat_eq, ◌&&◌, if◌then◌else◌}
use Rattle.std.specs.List.{flat_map, AllByRecursion}
use Rattle.std.specs.Cmp.Lexicographic.{pointwise}
use Rattle.ioc_saved.specs.declared.value.SavedValue.{SavedValue}
use Rattle.ioc_saved.specs.declared.line.SavedLine.{SavedLine}
use Rattle.ioc_saved.specs.declared.line.SavedLine.TheVariants.{Passed, Value, Bad}
use Rattle.ioc_saved.specs.declared.fault.SavedFault.{SavedFault}
use Rattle.ioc_saved.specs.declared.fault.SavedFault.TheVariants.{NoEnd, BadLine, NoMemory}
use Rattle.ioc_saved.specs.Words.{lines_of, no_lines, last_of, ends_line}
use Rattle.ioc_saved.specs.Lines.{row, line_in, is_saveable}

-- ---- What is printed

-- The lines before the values.
unfoldable pub head : ℕ → List ℕ
head place = codes "# Saved values of channels, as of the place " ++ decimal place ++ codes " of the journal" ++ 10 ∷ []

-- The line of a value.
abbrev pub value_line : SavedValue → List ℕ
value_line v = row v ++ 10 ∷ []

-- The last line.
abbrev pub end_line : List ℕ
end_line = codes "<END>" ++ 10 ∷ []

-- The file of these values.
abbrev pub file_of : ℕ → List SavedValue → List ℕ
file_of place values = head place ++ (flat_map value_line values ++ end_line)

-- ---- What is read

-- Whether the line is the last one of a file.
abbrev pub is_end : List ℕ → Bool
is_end line = pointwise nat_eq line (codes "<END>")

abbrev pub onto_values : SavedValue → Result (List SavedValue) SavedFault → Result (List SavedValue) SavedFault
onto_values v (Ok values) = Ok (v ∷ values)
onto_values v (Err e) = Err e

-- The values of a line with this number and of those behind it.
abbrev pub with_line : ℕ → SavedLine → Result (List SavedValue) SavedFault → Result (List SavedValue) SavedFault
with_line number Passed read = read
with_line number (Value v) read = onto_values v read
with_line number Bad read = Err (BadLine number)

-- The values of the lines before the last one, or the number of the first that is none. The first
-- line has this number.
abbrev pub values_of : ℕ → List (List ℕ) → Result (List SavedValue) SavedFault
values_of number [] = Ok []
values_of number (line ∷ lines) = if no_lines lines then Ok [] else with_line number (line_in line) (values_of (number + 1) lines)

-- Whether the last line is `<END>`, with its line feed.
abbrev pub is_whole : List ℕ → Bool
is_whole text = ends_line text && is_end (last_of (lines_of text))

-- The values of a file. A text that isn't whole is none.
unfoldable pub values_in : List ℕ → Result (List SavedValue) SavedFault
values_in text = if is_whole text then values_of 1 (lines_of text) else Err NoEnd

-- Holds if what was returned are the values that were read, or memory ran out.
abbrev pub Fails : SavedFault → Result (List SavedValue) SavedFault → Type 0
Fails NoEnd read = read ≡ Err NoEnd
Fails (BadLine number) read = read ≡ Err (BadLine number)
Fails NoMemory read = Unit {0}

abbrev pub Reads : {X : Type 0} → (X → List SavedValue) → Result X SavedFault → Result (List SavedValue) SavedFault → Type 0
Reads view (Ok x) read = read ≡ Ok (view x)
Reads view (Err e) read = Fails e read

-- Holds if the text ends with the last line of a file.
abbrev pub EndsWell : List ℕ → Type 0
EndsWell text = (front : List ℕ) × (text ≡ front ++ end_line)

-- Holds if each value can be saved.
abbrev pub AllSaveable : List SavedValue → Type 0
AllSaveable values = AllByRecursion (λ v. is_saveable v ≡ true) values
