-- The columns of a file's line from which the bytes of a line come whose macros are replaced.
use Rattle.std.specs.Prelude.{ℕ, List, [], ◌∷◌, ◌+◌, ◌-◌, ◌^◌, min, nat_lt, if◌then◌else◌}
use Rattle.ioc_site_lines.specs.declared.line.Run.{Run}

-- The column from which the byte at this place of a run comes: that of the run, or one as far behind it as the byte is.
abbrev pub column_of : Run → ℕ → ℕ
column_of r at = if r.is_fixed then r.column else min (2 ^ 32 - 1) (r.column + (at - r.at))

-- The column of a byte by the last run that begins at it or before it, or the one that was found before these runs.
abbrev pub column_in : ℕ → ℕ → List Run → ℕ
column_in at found [] = found
column_in at found (r ∷ rs) = if nat_lt at r.at then found else column_in at (column_of r at) rs
