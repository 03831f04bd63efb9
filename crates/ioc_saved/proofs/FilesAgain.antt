-- The file of values is read as these values.
use Rattle.std.proofs.Common.{◌≡◌, ℕ, ◌≤◌, ◌<◌, ◌+◌, ◌^◌, true, false, eqb, not, List, [], ◌∷◌, ◌++◌, length, Some, Result, Ok, Err, refl, sym, ap, ◌∙◌, append_assoc, inl, inr, arith}
use Rattle.std.specs.Prelude.{codes}
use Rattle.std.specs.List.{flat_map}
use Rattle.std.specs.Fmt.{decimal}
use Rattle.std.specs.Cmp.Lexicographic.{bytes_decides}
use Rattle.std.specs.Char.{digit_value}
use Rattle.std.specs.Str.Parse.{AllDigits}
use Rattle.std.proofs.lemmas.Int.{ints}
use Rattle.std.proofs.lemmas.List.{append-nil}
use Rattle.std.proofs.lemmas.Bool.{cases_Bool, leb-true, ne_eqb, and_parts, and_right, not-true}
use Rattle.std.proofs.lemmas.Bool.Decides.{nat_tests}
use Rattle.std.proofs.lemmas.Fmt.{decimal_is_IsNumeral}
use Rattle.ioc_saved.specs.declared.value.SavedValue.{SavedValue}
use Rattle.ioc_saved.specs.declared.line.SavedLine.TheVariants.{Passed, Value, Bad}
use Rattle.ioc_saved.specs.declared.fault.SavedFault.{SavedFault}
use Rattle.ioc_saved.specs.declared.fault.SavedFault.TheVariants.{NoEnd, BadLine}
use Rattle.ioc_saved.specs.Words.{lacks, before, behind, lines_of, no_lines, last_of, last_byte}
use Rattle.ioc_saved.specs.Escapes.{escaped, limited}
use Rattle.ioc_saved.specs.Lines.{is_passed, is_long_as, is_record_name, is_field_name, is_saveable, row, name_in, text_in, value_in, saved_in, line_with, line_in}
use Rattle.ioc_saved.specs.Files.{head, value_line, end_line, file_of, is_end, onto_values, with_line, is_whole, values_of, values_in, AllSaveable}
use Rattle.ioc_saved.proofs.Cuts.{and_true, lacks_append, before_cut, behind_cut, lines_cut, lines_here, none_left, some_left, last_append, last_lacks, lacks_not, cut_line, has_lines}
use Rattle.ioc_saved.proofs.EscapesAgain.{within, escaped_read, escaped_lacks}

-- ---- Reading values one after the other

-- The values that were read before, and those that are still read.
abbrev pub with_front : List SavedValue → Result (List SavedValue) SavedFault → Result (List SavedValue) SavedFault
with_front front (Ok values) = Ok (front ++ values)
with_front front (Err e) = Err e

pub no_front : (read : Result (List SavedValue) SavedFault) → with_front [] read ≡ read
no_front (Ok values) = refl
no_front (Err e) = refl

pub regroup : (front : List SavedValue) (v : SavedValue) (read : Result (List SavedValue) SavedFault) → with_front front (onto_values v read) ≡ with_front (front ++ v ∷ []) read
regroup front v (Ok values) = ap (λ (l : List SavedValue). Ok l) (sym (append_assoc front (v ∷ []) values))
regroup front v (Err e) = refl

-- ---- What can be saved

record IsSaveable (v : SavedValue) : Type 0 where
  long_name : is_long_as 60 v.record_name ≡ true
  name_feed : lacks 10 v.record_name ≡ true
  name_space : lacks 32 v.record_name ≡ true
  name_dot : lacks 46 v.record_name ≡ true
  no_comment : is_passed v.record_name ≡ false
  long_field : is_long_as 8 v.field ≡ true
  field_feed : lacks 10 v.field ≡ true
  field_space : lacks 32 v.field ≡ true
  value : length v.value ≤ 120

parts : (v : SavedValue) → is_saveable v ≡ true → IsSaveable v
unfolding is_saveable
parts v h =
    let a = and_parts (is_record_name v.record_name) _ h in
    let b = and_parts (is_field_name v.field) _ a.1 in
    let n = and_parts (is_long_as 60 v.record_name) _ a.0 in
    let m = and_parts (lacks 10 v.record_name) _ n.1 in
    let o = and_parts (lacks 32 v.record_name) _ m.1 in
    let p = and_parts (lacks 46 v.record_name) _ o.1 in
    let f = and_parts (is_long_as 8 v.field) _ b.0 in
    let g = and_parts (lacks 10 v.field) _ f.1 in
    record {
      long_name = n.0;
      name_feed = m.0;
      name_space = o.0;
      name_dot = p.0;
      no_comment = not-true (is_passed v.record_name) p.1;
      long_field = f.0;
      field_feed = g.0;
      field_space = g.1;
      value = leb-true (length v.value) 120 b.1;
    }

-- ---- The line of a value

name_again : (limit : ℕ) (name : List ℕ) → is_long_as limit name ≡ true → name_in limit name ≡ Some name
name_again limit name h = rw h refl

text_again : (value : List ℕ) → length value ≤ 120 → text_in (escaped value) ≡ Some value
text_again value h = ap (limited 120) (escaped_read value) ∙ within 120 value h

row_lacks : (v : SavedValue) → IsSaveable v → lacks 10 (row v) ≡ true
unfolding row
row_lacks v h =
    lacks_append 10 (v.record_name ++ 46 ∷ v.field) (32 ∷ escaped v.value) (lacks_append 10 v.record_name (46 ∷ v.field) h.name_feed h.field_feed) (escaped_lacks v.value)

value_again : (v : SavedValue) → IsSaveable v → value_in (row v) ≡ Some v
unfolding row value_in
value_again v h =
    let names = v.record_name ++ 46 ∷ v.field in
    let no_space : lacks 32 names ≡ true = lacks_append 32 v.record_name (46 ∷ v.field) h.name_space h.field_space in
    rw (
      before_cut 32 names (escaped v.value) no_space,
      behind_cut 32 names (escaped v.value) no_space,
      before_cut 46 v.record_name v.field h.name_dot,
      behind_cut 46 v.record_name v.field h.name_dot,
      h.long_name,
      h.long_field,
      text_again v.value h.value,
    ) refl

-- The line of a value that can be saved is read as this value.
pub saved_again : (v : SavedValue) → is_saveable v ≡ true → saved_in (value_line v) ≡ Some v
unfolding saved_in
saved_again v h = let p = parts v h in ap value_in (before_cut 10 (row v) [] (row_lacks v p)) ∙ value_again v p

passed_by_first : (name rest : List ℕ) (limit : ℕ) → is_long_as limit name ≡ true → is_passed name ≡ false → is_passed (name ++ rest) ≡ false
passed_by_first [] rest limit h k = absurd cc
passed_by_first (b ∷ bs) rest limit h k = k

line_again : (v : SavedValue) → IsSaveable v → line_in (row v) ≡ Value v
unfolding line_in row
line_again v h =
    let whole : row v ≡ v.record_name ++ (46 ∷ v.field ++ 32 ∷ escaped v.value) = append_assoc v.record_name (46 ∷ v.field) (32 ∷ escaped v.value) in
    let no_comment : is_passed (row v) ≡ false = ap is_passed whole ∙ passed_by_first v.record_name (46 ∷ v.field ++ 32 ∷ escaped v.value) 60 h.long_name h.no_comment in
    rw no_comment (ap line_with (value_again v h))

-- ---- The lines of a file

abbrev end_row : List ℕ
end_row = codes "<END>"

abbrev rows : List SavedValue → List (List ℕ)
rows [] = end_row ∷ []
rows (v ∷ values) = row v ∷ rows values

one_line : (w rest : List ℕ) → (w ++ 10 ∷ []) ++ rest ≡ w ++ 10 ∷ rest
one_line w rest = append_assoc w (10 ∷ []) rest

body_rows : (values : List SavedValue) → AllSaveable values → lines_of (flat_map value_line values ++ end_line) ≡ rows values
body_rows [] h = refl
body_rows (v ∷ values) h =
    let rest = flat_map value_line values ++ end_line in
    let text : (value_line v ++ flat_map value_line values) ++ end_line ≡ row v ++ 10 ∷ rest = append_assoc (value_line v) (flat_map value_line values) end_line ∙ one_line (row v) rest in
    ap lines_of text ∙ lines_cut (row v) rest (row_lacks v (parts v h.0)) ∙ ap (λ (l : List (List ℕ)). row v ∷ l) (body_rows values h.1)

some_rows : (values : List SavedValue) → no_lines (rows values) ≡ false
some_rows [] = refl
some_rows (v ∷ values) = refl

last_row : (values : List SavedValue) → last_of (rows values) ≡ end_row
last_row [] = refl
last_row (v ∷ values) = rw (some_rows values) (last_row values)

rows_read : (number : ℕ) (values : List SavedValue) → AllSaveable values → values_of number (rows values) ≡ Ok values
rows_read number [] h = refl
rows_read number (v ∷ values) h =
    rw (some_rows values, line_again v (parts v h.0), rows_read (number + 1) values h.1) refl

-- ---- The head

goes_on : (b : ℕ) → 11 ≤ b → not (eqb b 10) ≡ true
goes_on b h = rw (ne_eqb b 10 (λ e. omega arith)) refl

digit_range : (c : ℕ) → digit_value c < 10 → 48 ≤ c
digit_range c h = grind (arith, nat_tests)

digits_lack : (cs : List ℕ) → AllDigits 10 cs → lacks 10 cs ≡ true
digits_lack [] h = refl
digits_lack (c ∷ cs) h = and_true (not (eqb c 10)) (lacks 10 cs) (goes_on c (omega (arith, digit_range c h.0))) (digits_lack cs h.1)

decimal_lacks : (n : ℕ) → n < 2 ^ 64 → lacks 10 (decimal n) ≡ true
decimal_lacks n h = digits_lack (decimal n) (decimal_is_IsNumeral n (omega (arith, ints))).0.1

abbrev title : ℕ → List ℕ
title place = codes "# Saved values of channels, as of the place " ++ decimal place ++ codes " of the journal"

title_lacks : (place : ℕ) → place < 2 ^ 64 → lacks 10 (title place) ≡ true
title_lacks place h =
    lacks_append 10 (codes "# Saved values of channels, as of the place " ++ decimal place) (codes " of the journal")
    (lacks_append 10 (codes "# Saved values of channels, as of the place ") (decimal place) refl (decimal_lacks place h)) refl

title_passed : (place : ℕ) → line_in (title place) ≡ Passed
unfolding line_in
title_passed place = refl

file_rows : (place : ℕ) (values : List SavedValue) → place < 2 ^ 64 → AllSaveable values → lines_of (file_of place values) ≡ title place ∷ rows values
unfolding head
file_rows place values h all =
    let rest = flat_map value_line values ++ end_line in
    ap lines_of (one_line (title place) rest) ∙ lines_cut (title place) rest (title_lacks place h) ∙ ap (λ (l : List (List ℕ)). title place ∷ l) (body_rows values all)

titled_last : (place : ℕ) (values : List SavedValue) → last_of (title place ∷ rows values) ≡ end_row
titled_last place values = rw (some_rows values) (last_row values)

titled_read : (place : ℕ) (values : List SavedValue) → AllSaveable values → values_of 1 (title place ∷ rows values) ≡ Ok values
titled_read place values h = rw (some_rows values, title_passed place) (rows_read 2 values h)

body_ends : (b : ℕ) (values : List SavedValue) → last_byte b (flat_map value_line values ++ end_line) ≡ 10
body_ends b [] = refl
body_ends b (v ∷ values) =
    ap (last_byte b) (append_assoc (value_line v) (flat_map value_line values) end_line) ∙ last_append b 10 (value_line v) (flat_map value_line values ++ end_line) (λ c. body_ends c values)

-- The file of values that can be saved is read as these values.
pub file_again : (place : ℕ) (values : List SavedValue) → place < 2 ^ 64 → AllSaveable values → values_in (file_of place values) ≡ Ok values
unfolding values_in
file_again place values h all =
    let e = file_rows place values h all in
    let ends : last_byte 0 (file_of place values) ≡ 10 = last_append 0 10 (head place) (flat_map value_line values ++ end_line) (λ c. body_ends c values) in
    rw (ends, e) (rw (titled_last place values) (titled_read place values all))

alike : (a b : List SavedValue) (x y : Result (List SavedValue) SavedFault) → x ≡ Ok a → y ≡ Ok b → x ≡ y → a ≡ b
alike a b x y h k is = cc

pub files_same : (place other_place : ℕ) (values others : List SavedValue) → place < 2 ^ 64 → other_place < 2 ^ 64 → AllSaveable values → AllSaveable others
    → file_of place values ≡ file_of other_place others → values ≡ others
files_same place other_place values others h k all other_all is =
    alike values others (values_in (file_of place values)) (values_in (file_of other_place others)) (file_again place values h all) (file_again other_place others k other_all) (ap values_in is)

-- ---- Reading one line after the other

values_step : (number : ℕ) (rest line after : List ℕ) → false ≡ eqb (length rest) 0 → line ≡ before 10 rest → after ≡ behind 10 rest → false ≡ eqb (length after) 0
    → values_of number (lines_of rest) ≡ with_line number (line_in line) (values_of (number + 1) (lines_of after))
values_step number rest line after h is next some =
    ap (values_of number) (lines_here rest h) ∙ rw (← next, ← is) (rw (some_left after some) refl)

pub values_here : (front : List SavedValue) (number : ℕ) (rest after : List ℕ) (total : Result (List SavedValue) SavedFault) → false ≡ eqb (length rest) 0
    → after ≡ behind 10 rest → true ≡ eqb (length after) 0 → with_front front (values_of number (lines_of rest)) ≡ total → total ≡ Ok front
values_here front number rest after total h next none so_far =
    let e : values_of number (lines_of rest) ≡ Ok [] = ap (values_of number) (lines_here rest h) ∙ rw (← next) (rw (none_left after none) refl) in
    sym so_far ∙ ap (with_front front) e ∙ ap (λ (l : List SavedValue). Ok l) (append-nil front)

pub values_bad : (front : List SavedValue) (number : ℕ) (rest line after : List ℕ) (total : Result (List SavedValue) SavedFault) → false ≡ eqb (length rest) 0
    → line ≡ before 10 rest → after ≡ behind 10 rest → false ≡ eqb (length after) 0 → Bad ≡ line_in line
    → with_front front (values_of number (lines_of rest)) ≡ total → total ≡ Err (BadLine number)
values_bad front number rest line after total h is next some bad so_far =
    sym so_far ∙ ap (with_front front) (values_step number rest line after h is next some) ∙ rw (← bad) refl

pub values_passed : (front : List SavedValue) (number : ℕ) (rest line after : List ℕ) (total : Result (List SavedValue) SavedFault) → false ≡ eqb (length rest) 0
    → line ≡ before 10 rest → after ≡ behind 10 rest → false ≡ eqb (length after) 0 → Passed ≡ line_in line
    → with_front front (values_of number (lines_of rest)) ≡ total → with_front front (values_of (number + 1) (lines_of after)) ≡ total
values_passed front number rest line after total h is next some passed so_far =
    let e : values_of number (lines_of rest) ≡ values_of (number + 1) (lines_of after) = values_step number rest line after h is next some ∙ rw (← passed) refl in
    sym (ap (with_front front) e) ∙ so_far

pub values_more : (front : List SavedValue) (number : ℕ) (rest line after : List ℕ) (v : SavedValue) (total : Result (List SavedValue) SavedFault) → false ≡ eqb (length rest) 0
    → line ≡ before 10 rest → after ≡ behind 10 rest → false ≡ eqb (length after) 0 → Value v ≡ line_in line
    → with_front front (values_of number (lines_of rest)) ≡ total → with_front (front ++ v ∷ []) (values_of (number + 1) (lines_of after)) ≡ total
values_more front number rest line after v total h is next some one so_far =
    let e : values_of number (lines_of rest) ≡ onto_values v (values_of (number + 1) (lines_of after)) = values_step number rest line after h is next some ∙ rw (← one) refl in
    sym (regroup front v (values_of (number + 1) (lines_of after))) ∙ sym (ap (with_front front) e) ∙ so_far

-- ---- The head, appended in parts

pub joined : (out a d b x y z end : List ℕ) → x ≡ out ++ a → y ≡ x ++ d → z ≡ y ++ b → end ≡ z ++ 10 ∷ [] → end ≡ out ++ (a ++ d ++ b ++ 10 ∷ [])
joined out a d b x y z end h k l m = rw (m, l, k, h) (simp append_assoc)

-- ---- A file that was cut short

no_bytes : (front rest : List ℕ) (next : ℕ) → [] ≡ front ++ next ∷ rest → ⊥
no_bytes [] rest next h = absurd (omega (arith, ap length h))
no_bytes (b ∷ bs) rest next h = absurd (omega (arith, ap length h))

row_dot : (v : SavedValue) → lacks 46 (row v) ≡ false
unfolding row
row_dot v = ap (lacks 46) (append_assoc v.record_name (46 ∷ v.field) (32 ∷ escaped v.value)) ∙ lacks_not 46 v.record_name (v.field ++ 32 ∷ escaped v.value)

end_no_dot : (line : List ℕ) → is_end line ≡ true → lacks 46 line ≡ true
end_no_dot line h = let e : line ≡ end_row = (bytes_decides line end_row).0 h in ap (lacks 46) e

not_end : (line : List ℕ) → lacks 46 line ≡ false → is_end line ≡ false
not_end line h =
    elim (cases_Bool (is_end line)) [
      | inl is ↦ let k = end_no_dot line is in absurd cc
      | inr other ↦ other
    ]

row_no_end : (v : SavedValue) → is_end (row v) ≡ false
row_no_end v = not_end (row v) (row_dot v)

not_whole : (text : List ℕ) → lacks 10 text ≡ true → is_whole text ≡ false
not_whole text h = rw (last_lacks text h) refl

-- Behind a line that isn't the last one nothing changes.
line_cut : (line front : List ℕ) → lacks 10 line ≡ true → is_end line ≡ false → is_whole front ≡ false → is_whole (line ++ 10 ∷ front) ≡ false
line_cut line [] h other whole = rw (lines_cut line [] h, other) (and_right _ _ refl)
line_cut line (b ∷ bs) h other whole =
    let ends : last_byte 0 (line ++ 10 ∷ b ∷ bs) ≡ last_byte b bs = last_append 0 (last_byte b bs) line (10 ∷ b ∷ bs) (λ c. refl) in
    rw (ends, lines_cut line (b ∷ bs) h, has_lines b bs) whole

body_cut : (values : List SavedValue) (front rest : List ℕ) (next : ℕ) → AllSaveable values → flat_map value_line values ++ end_line ≡ front ++ next ∷ rest → is_whole front ≡ false
body_cut [] front rest next h is = elim (cut_line end_row [] front rest next refl is) [
  | inl within ↦ not_whole front within
  | inr beyond ↦ let e : [] ≡ beyond.0 ++ next ∷ rest = beyond.1.1 in absurd (no_bytes beyond.0 rest next e)
]
body_cut (v ∷ values) front rest next h is =
    let behind_it = flat_map value_line values ++ end_line in
    let text : (value_line v ++ flat_map value_line values) ++ end_line ≡ row v ++ 10 ∷ behind_it = append_assoc (value_line v) (flat_map value_line values) end_line ∙ one_line (row v) behind_it in
    elim (cut_line (row v) behind_it front rest next (row_lacks v (parts v h.0)) (sym text ∙ is)) [
      | inl within ↦ not_whole front within
      | inr beyond ↦ rw beyond.1.0 (line_cut (row v) beyond.0 (row_lacks v (parts v h.0)) (row_no_end v) (body_cut values beyond.0 rest next h.1 beyond.1.1))
    ]

pub file_cut : (place : ℕ) (values : List SavedValue) (front rest : List ℕ) (next : ℕ) → place < 2 ^ 64 → AllSaveable values → file_of place values ≡ front ++ next ∷ rest
    → values_in front ≡ Err NoEnd
unfolding values_in head
file_cut place values front rest next h all is =
    let behind_it = flat_map value_line values ++ end_line in
    let whole : is_whole front ≡ false =
    elim (cut_line (title place) behind_it front rest next (title_lacks place h) (sym (one_line (title place) behind_it) ∙ is)) [
      | inl within ↦ not_whole front within
      | inr beyond ↦ rw beyond.1.0 (line_cut (title place) beyond.0 (title_lacks place h) refl (body_cut values beyond.0 rest next all beyond.1.1))
    ] in
    rw whole refl
