-- Places in the files that are read, and the files that are open.
use Rattle.std.specs.Prelude.{ℕ, Bool, false, List, [], ◌∷◌, nat_eq, ◌||◌}
use Rattle.ioc_site.specs.declared.place.Place.{Place}
use Rattle.ioc_site_lines.specs.declared.opened.OpenFile.{OpenFile}
use Rattle.ioc_site_lines.specs.Columns.{column_in}

-- Where the rest of a file's line begins: in the file, on the line, and in the column from which its first byte comes.
abbrev pub place_of_rest : OpenFile → Place
place_of_rest f = record { file = f.number; line = f.line_number; column = column_in f.at 1 f.line.runs.items }

-- Whether a file of this number is among those that are open.
abbrev pub is_among : ℕ → List OpenFile → Bool
is_among number [] = false
is_among number (f ∷ fs) = nat_eq f.number number || is_among number fs
