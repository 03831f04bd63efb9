-- What was read can be saved.
use Rattle.std.proofs.Common.{◌≡◌, ℕ, ◌+◌, Bool, true, false, cond, eqb, leb, not, List, [], ◌∷◌, length, Option, Some, None, Result, Ok, Err, IfOk, inl, inr, refl, subst}
use Rattle.std.specs.List.{AllByRecursion}
use Rattle.std.proofs.lemmas.Bool.{cases_Bool}
use Rattle.ioc_saved.specs.declared.value.SavedValue.{SavedValue}
use Rattle.ioc_saved.specs.declared.line.SavedLine.{SavedLine}
use Rattle.ioc_saved.specs.declared.line.SavedLine.TheVariants.{Passed, Value, Bad}
use Rattle.ioc_saved.specs.declared.fault.SavedFault.{SavedFault}
use Rattle.ioc_saved.specs.declared.escapes.Escape.TheVariants.{No}
use Rattle.ioc_saved.specs.Words.{lacks, before, behind, onto_first, lines_of, no_lines}
use Rattle.ioc_saved.specs.Escapes.{unescaped, limited}
use Rattle.ioc_saved.specs.Lines.{is_passed, is_long_as, is_record_name, is_field_name, is_saveable, ◌>>=◌, name_in, text_in, value_in, line_with, line_in}
use Rattle.ioc_saved.specs.Files.{with_line, values_of, Reads, EndsWell, AllSaveable}
use Rattle.ioc_saved.proofs.Cuts.{both, and_true}

-- ---- No line has a line feed

abbrev AllLack : List (List ℕ) → Type 0
AllLack lines = AllByRecursion (λ line. lacks 10 line ≡ true) lines

onto_lacks : (b : ℕ) (lines : List (List ℕ)) → eqb b 10 ≡ false → AllLack lines → AllLack (onto_first b lines)
onto_lacks b [] h all = (rw h refl, tt)
onto_lacks b (line ∷ lines) h all = (rw h all.0, all.1)

lines_lack : (text : List ℕ) → AllLack (lines_of text)
lines_lack [] = tt
lines_lack (b ∷ bs) =
    elim (cases_Bool (eqb b 10)) [
      | inl is ↦ rw is (refl, lines_lack bs)
      | inr other ↦ rw other (onto_lacks b (lines_of bs) other (lines_lack bs))
    ]

before_lacks : (c : ℕ) (w : List ℕ) → lacks c (before c w) ≡ true
before_lacks c [] = refl
before_lacks c (b ∷ bs) =
    elim (cases_Bool (eqb b c)) [
      | inl is ↦ rw is refl
      | inr other ↦ rw (other, other) (before_lacks c bs)
    ]

before_keeps : (c d : ℕ) (w : List ℕ) → lacks c w ≡ true → lacks c (before d w) ≡ true
before_keeps c d [] h = refl
before_keeps c d (b ∷ bs) h =
    let p = both (not (eqb b c)) (lacks c bs) h in
    elim (cases_Bool (eqb b d)) [
      | inl is ↦ rw is refl
      | inr other ↦ rw other (and_true (not (eqb b c)) (lacks c (before d bs)) p.0 (before_keeps c d bs p.1))
    ]

behind_keeps : (c d : ℕ) (w : List ℕ) → lacks c w ≡ true → lacks c (behind d w) ≡ true
behind_keeps c d [] h = refl
behind_keeps c d (b ∷ bs) h =
    let p = both (not (eqb b c)) (lacks c bs) h in
    elim (cases_Bool (eqb b d)) [
      | inl is ↦ rw is p.1
      | inr other ↦ rw other (behind_keeps c d bs p.1)
    ]

first_kept : (line : List ℕ) → is_passed line ≡ false → is_long_as 60 (before 46 (before 32 line)) ≡ true → is_passed (before 46 (before 32 line)) ≡ false
first_kept [] h long = absurd cc
first_kept (b ∷ bs) h long =
    elim (cases_Bool (eqb b 32)) [
      | inl is ↦ let k = rw is at long in absurd cc
      | inr other ↦ let k = rw other at long in
          elim (cases_Bool (eqb b 46)) [
            | inl dot ↦ let m = rw dot at k in absurd cc
            | inr no_dot ↦ rw (other, no_dot) h
          ]
    ]

-- ---- The value of a line can be saved

told : (b : Bool) (bytes x : List ℕ) → cond b (Some bytes) None ≡ Some x → (b ≡ true) × (bytes ≡ x)
told true bytes x h = (refl, cc)
told false bytes x h = absurd cc

bound : {A B : Type 0} (o : Option A) (f : A → Option B) (y : B) → (o >>= f) ≡ Some y → (x : A) × ((o ≡ Some x) × (f x ≡ Some y))
bound (Some x) f y h = (x, (refl, h))
bound None f y h = absurd cc

few : (read : Option (List ℕ)) (x : List ℕ) → limited 120 read ≡ Some x → leb (length x) 120 ≡ true
few None x h = absurd cc
few (Some bs) x h = let p = told (leb (length bs) 120) bs x h in rw (← p.1) p.0

abbrev third : List ℕ → List ℕ → List ℕ → Option SavedValue
third name field value = Some (record { record_name = name; field = field; value = value })

abbrev second : List ℕ → List ℕ → List ℕ → Option SavedValue
second line name field = text_in (behind 32 line) >>= third name field

abbrev first : List ℕ → List ℕ → Option SavedValue
first line name = name_in 8 (behind 46 (before 32 line)) >>= second line name

saveable : (name field value : List ℕ) → is_record_name name ≡ true → is_field_name field ≡ true → leb (length value) 120 ≡ true → is_saveable (record { record_name = name; field = field; value = value }) ≡ true
unfolding is_saveable
saveable name field value h k l = rw (h, k) l

value_saveable : (line : List ℕ) (v : SavedValue) → lacks 10 line ≡ true → is_passed line ≡ false → value_in line ≡ Some v → is_saveable v ≡ true
unfolding value_in
value_saveable line v feed no_comment h =
    let names = before 32 line in
    let n = bound (name_in 60 (before 46 names)) (first line) v h in
    let f = bound (name_in 8 (behind 46 names)) (second line n.0) v n.1.1 in
    let t = bound (text_in (behind 32 line)) (third n.0 f.0) v f.1.1 in
    let name = told (is_long_as 60 (before 46 names)) (before 46 names) n.0 n.1.0 in
    let field = told (is_long_as 8 (behind 46 names)) (behind 46 names) f.0 f.1.0 in
    let no_feed = before_keeps 10 32 line feed in
    let is_name : is_record_name (before 46 names) ≡ true =
    rw (name.0, before_keeps 10 46 names no_feed, before_keeps 32 46 names (before_lacks 32 line), before_lacks 46 names, first_kept line no_comment name.0) refl in
    let is_field : is_field_name (behind 46 names) ≡ true = rw (field.0, behind_keeps 10 46 names no_feed, behind_keeps 32 46 names (before_lacks 32 line)) refl in
    let whole = saveable n.0 f.0 t.0 (rw (← name.1) is_name) (rw (← field.1) is_field) (few (unescaped No (behind 32 line)) t.0 t.1.0) in
    let e : record { record_name = n.0; field = f.0; value = t.0 } ≡ v = cc in
    subst (λ (x : SavedValue). is_saveable x ≡ true) e whole

found : (read : Option SavedValue) (v : SavedValue) → line_with read ≡ Value v → read ≡ Some v
found None v h = absurd cc
found (Some x) v h = cc

line_saveable : (line : List ℕ) (v : SavedValue) → lacks 10 line ≡ true → line_in line ≡ Value v → is_saveable v ≡ true
unfolding line_in
line_saveable line v feed h =
    elim (cases_Bool (is_passed line)) [
      | inl is ↦ let k : Passed ≡ Value v = rw is at h in absurd cc
      | inr other ↦ let k : line_with (value_in line) ≡ Value v = rw other at h in value_saveable line v feed other (found (value_in line) v k)
    ]

-- ---- The values of a file can be saved

nothing_saved : (read : Result (List SavedValue) SavedFault) (values : List SavedValue) → read ≡ Ok [] → read ≡ Ok values → AllSaveable values
nothing_saved read values h k = let e : [] ≡ values = cc in subst AllSaveable e tt

with_saveable : (number : ℕ) (line : SavedLine) (read : Result (List SavedValue) SavedFault) (values : List SavedValue) → with_line number line read ≡ Ok values
    → ((v : SavedValue) → line ≡ Value v → is_saveable v ≡ true) → ((others : List SavedValue) → read ≡ Ok others → AllSaveable others) → AllSaveable values
with_saveable number Passed read values h one more = more values h
with_saveable number Bad read values h one more = absurd cc
with_saveable number (Value v) (Err e) values h one more = absurd cc
with_saveable number (Value v) (Ok others) values h one more = let e : v ∷ others ≡ values = cc in subst AllSaveable e (one v refl, more others refl)

lines_saveable : (number : ℕ) (lines : List (List ℕ)) (values : List SavedValue) → AllLack lines → values_of number lines ≡ Ok values → AllSaveable values
lines_saveable number [] values all h = nothing_saved (values_of number []) values refl h
lines_saveable number (line ∷ lines) values all h =
    elim (cases_Bool (no_lines lines)) [
      | inl none ↦ let k = rw none at h in nothing_saved (Ok []) values refl k
      | inr some ↦
          let k : with_line number (line_in line) (values_of (number + 1) lines) ≡ Ok values = rw some at h in
          with_saveable number (line_in line) (values_of (number + 1) lines) values k (λ v is. line_saveable line v all.0 is) (λ others is. lines_saveable (number + 1) lines others all.1 is)
    ]

pub values_saveable : (text : List ℕ) (values : List SavedValue) → values_of 1 (lines_of text) ≡ Ok values → AllSaveable values
values_saveable text values h = lines_saveable 1 (lines_of text) values (lines_lack text) h

-- ---- What was returned

pub saveable_if_ok : {X : Type 0} (view : X → List SavedValue) (result : Result X SavedFault) (text : List ℕ) → Reads view result (values_of 1 (lines_of text)) → IfOk result (λ x. AllSaveable (view x))
saveable_if_ok view (Ok x) text h = values_saveable text (view x) h
saveable_if_ok view (Err e) text h = tt

pub ended_if_ok : {X : Type 0} (result : Result X SavedFault) (text : List ℕ) → EndsWell text → IfOk result (λ x. EndsWell text)
ended_if_ok (Ok x) text h = h
ended_if_ok (Err e) text h = tt
