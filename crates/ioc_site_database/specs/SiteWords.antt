-- The words of a command line that name a site's files.
use Rattle.std.specs.Prelude.{ℕ, Bool, false, List, [], ◌∷◌, ◌==◌, ◌&&◌, ◌||◌, codes, nat_eq, if◌then◌else◌}
use Rattle.std.specs.Cmp.Lexicographic.{pointwise}

-- Whether a word begins with -d or with -I: 45 is `-`, 100 is `d` and 73 is `I`.
abbrev pub is_option : List ℕ → Bool
is_option [] = false
is_option (a ∷ []) = false
is_option (a ∷ b ∷ rest) = (a == 45) && ((b == 100) || (b == 73))

-- Whether a word is one of a site's files.
abbrev pub is_site_word : List ℕ → Bool
is_site_word word = is_option word || pointwise nat_eq word (codes "--adapt")

-- Whether one of the words before `--` is one of a site's files.
abbrev pub names_site : List (List ℕ) → Bool
names_site [] = false
names_site (w ∷ ws) = if pointwise nat_eq w (codes "--") then false else (is_site_word w || names_site ws)
