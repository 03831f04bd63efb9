-- Patterns by their parts.
use Rattle.std.proofs.Common.{◌≡◌, ◌∙◌, ℕ, ◌<◌, ◌≤◌, ◌+◌, Bool, true, false, cond, eqb, List, [], ◌∷◌, drop, length, refl, sym, ap, subst, arith}
use Rattle.std.specs.Prelude.{◌||◌, ◌&&◌}
use Rattle.std.proofs.lemmas.Bool.{eqb-true}
use Rattle.ioc_listing.specs.Patterns.{Beginning, Is-whole, Is-none, Is-star, first_fits, front_of, matches, next_front, some_end}

or_left : (x y : Bool) → x ≡ true → (x || y) ≡ true
or_left x y e = ap (λ t. t || y) e

or_right : (x y : Bool) → y ≡ true → (x || y) ≡ true
or_right true y e = refl
or_right false y e = e

and_second : (x y : Bool) → (x && y) ≡ true → y ≡ true
and_second true y e = e
and_second false y e = absurd cc

-- The whole is an end.
pub whole_is_end : (fits : List ℕ → Bool) (name : List ℕ) → fits name ≡ true → some_end fits name ≡ true
whole_is_end fits [] e = e
whole_is_end fits (b ∷ bs) e = or_left (fits (b ∷ bs)) (some_end fits bs) e

-- Behind a byte that is no star the rest fits.
rest_fits : (w d : ℕ) (ps ds : List ℕ) → eqb w 42 ≡ false → matches (w ∷ ps) (d ∷ ds) ≡ true → matches ps ds ≡ true
rest_fits w d ps ds plain e =
    let shown : matches (w ∷ ps) (d ∷ ds) ≡ first_fits w (matches ps) (d ∷ ds) = ap (λ c. cond c (some_end (matches ps) (d ∷ ds)) (first_fits w (matches ps) (d ∷ ds))) plain in
    and_second _ (matches ps ds) (sym shown ∙ e)

-- A byte that is no star stands for no empty name.
not_empty : (w : ℕ) (ps : List ℕ) → eqb w 42 ≡ false → matches (w ∷ ps) [] ≡ false
not_empty w ps plain = ap (λ c. cond c (some_end (matches ps) []) (first_fits w (matches ps) [])) plain

end_step : (x y z : Bool) (goal : Bool) → (x || y) ≡ true → (x ≡ true → goal ≡ true) → (y ≡ true → goal ≡ true) → goal ≡ true
end_step true y z goal e left right = left refl
end_step false y z goal e left right = right e

-- If an end fits a pattern, an end of the rest fits what is behind the pattern's first byte.
pub end_behind : (w c : ℕ) (ps cs : List ℕ) → eqb w 42 ≡ false → some_end (matches (w ∷ ps)) cs ≡ true → some_end (matches ps) cs ≡ true
end_behind w c ps [] plain e = absurd (let no : false ≡ true = sym (not_empty w ps plain) ∙ e in cc)
end_behind w c ps (d ∷ ds) plain e =
    end_step (matches (w ∷ ps) (d ∷ ds)) (some_end (matches (w ∷ ps)) ds) false (some_end (matches ps) (d ∷ ds)) e
    (λ first. or_right (matches ps (d ∷ ds)) (some_end (matches ps) ds) (whole_is_end (matches ps) ds (rest_fits w d ps ds plain first)))
    (λ later. or_right (matches ps (d ∷ ds)) (some_end (matches ps) ds) (end_behind w d ps ds plain later))

same_or : (x y z : Bool) → x ≡ z → (y ≡ true → z ≡ true) → (x || y) ≡ z
same_or true y z e more = e
same_or false true z e more = sym (more refl)
same_or false false z e more = e

first_byte : (w c : ℕ) (ps cs : List ℕ) → eqb w 42 ≡ false → (eqb w 63 || eqb w c) ≡ true → matches (w ∷ ps) (c ∷ cs) ≡ matches ps cs
first_byte w c ps cs plain fits =
    ap (λ t. cond t (some_end (matches ps) (c ∷ cs)) (first_fits w (matches ps) (c ∷ cs))) plain ∙ ap (λ t. t && matches ps cs) fits

other_byte : (w c : ℕ) (ps cs : List ℕ) → eqb w 42 ≡ false → (eqb w 63 || eqb w c) ≡ false → matches (w ∷ ps) (c ∷ cs) ≡ false
other_byte w c ps cs plain other =
    ap (λ t. cond t (some_end (matches ps) (c ∷ cs)) (first_fits w (matches ps) (c ∷ cs))) plain ∙ ap (λ t. t && matches ps cs) other

or_twice : (x y : Bool) → ((x || y) || y) ≡ (x || y)
or_twice true y = refl
or_twice false true = refl
or_twice false false = refl

-- An end of an end is an end.
end_twice : (fits : List ℕ → Bool) (name : List ℕ) → some_end (some_end fits) name ≡ some_end fits name
end_twice fits [] = refl
end_twice fits (b ∷ bs) = ap (λ t. (fits (b ∷ bs) || some_end fits bs) || t) (end_twice fits bs) ∙ or_twice (fits (b ∷ bs)) (some_end fits bs)

-- What is known of a pattern and a name by their beginning.
Known : Beginning → List ℕ → List ℕ → Type 0
Known Is-whole pattern name = matches pattern name ≡ true
Known Is-none pattern name = matches pattern name ≡ false
Known (Is-star behind rest) pattern name =
    (matches pattern name ≡ some_end (matches behind) rest) × (some_end (matches pattern) name ≡ some_end (matches behind) rest)
    × (length behind < length pattern) × (length rest ≤ length name)

-- One byte more before the star.
known_step : (f : Beginning) (w c : ℕ) (ps cs : List ℕ) → eqb w 42 ≡ false → (eqb w 63 || eqb w c) ≡ true → Known f ps cs → Known f (w ∷ ps) (c ∷ cs)
unfolding Known
known_step Is-whole w c ps cs plain fits is = first_byte w c ps cs plain fits ∙ is
known_step Is-none w c ps cs plain fits is = first_byte w c ps cs plain fits ∙ is
known_step (Is-star b n) w c ps cs plain fits is =
    let one : matches (w ∷ ps) (c ∷ cs) ≡ some_end (matches b) n = first_byte w c ps cs plain fits ∙ is.0 in (
      one,
      same_or (matches (w ∷ ps) (c ∷ cs)) (some_end (matches (w ∷ ps)) cs) (some_end (matches b) n) one
          (λ later. sym is.1 ∙ end_behind w c ps cs plain later),
      omega (arith, is.2),
      omega (arith, is.3),
    )

known_star : (ps name : List ℕ) → Known (Is-star ps name) (42 ∷ ps) name
unfolding Known
known_star ps name = (refl, end_twice (matches ps) name, omega arith, omega arith)

known_other : (t : Bool) (w c : ℕ) (ps cs : List ℕ) → eqb w 42 ≡ false → (eqb w 63 || eqb w c) ≡ t → Known (front_of ps cs) ps cs
    → Known (cond t (front_of ps cs) Is-none) (w ∷ ps) (c ∷ cs)
unfolding Known
known_other true w c ps cs plain fits is = known_step (front_of ps cs) w c ps cs plain fits is
known_other false w c ps cs plain other is = other_byte w c ps cs plain other

known_next : (t : Bool) (w : ℕ) (ps name : List ℕ) → eqb w 42 ≡ t → ((cs : List ℕ) → Known (front_of ps cs) ps cs)
    → Known (cond t (Is-star ps name) (next_front w (front_of ps) name)) (w ∷ ps) name
unfolding Known
known_next true w ps name star all =
    let is : w ≡ 42 = eqb-true w 42 star in
    rw is (known_star ps name)
known_next false w ps [] plain all = not_empty w ps plain
known_next false w ps (c ∷ cs) plain all = known_other (eqb w 63 || eqb w c) w c ps cs plain refl (all cs)

known : (pattern name : List ℕ) → Known (front_of pattern name) pattern name
unfolding Known
known [] [] = refl
known [] (b ∷ bs) = refl
known (w ∷ ps) name = known_next (eqb w 42) w ps name refl (known ps)

known_by : (pattern name : List ℕ) (f : Beginning) → front_of pattern name ≡ f → Known f pattern name
known_by pattern name f is = subst (λ g. Known g pattern name) is (known pattern name)

pub whole_fits : (pattern name : List ℕ) → front_of pattern name ≡ Is-whole → matches pattern name ≡ true
unfolding Known
whole_fits pattern name is = known_by pattern name Is-whole is

pub no_fits : (pattern name : List ℕ) → front_of pattern name ≡ Is-none → matches pattern name ≡ false
unfolding Known
no_fits pattern name is = known_by pattern name Is-none is

pub star_fits : (pattern name behind rest : List ℕ) → front_of pattern name ≡ Is-star behind rest
    → matches pattern name ≡ some_end (matches behind) rest
unfolding Known
star_fits pattern name behind rest is = (known_by pattern name (Is-star behind rest) is).0

pub whole_end : (pattern name : List ℕ) → front_of pattern name ≡ Is-whole → some_end (matches pattern) name ≡ true
whole_end pattern name is = whole_is_end (matches pattern) name (whole_fits pattern name is)

pub no_end : (pattern : List ℕ) (b : ℕ) (bs : List ℕ) → front_of pattern (b ∷ bs) ≡ Is-none
    → some_end (matches pattern) (b ∷ bs) ≡ some_end (matches pattern) bs
no_end pattern b bs is = ap (λ t. t || some_end (matches pattern) bs) (no_fits pattern (b ∷ bs) is)

-- The same, by the bytes behind the first.
pub no_end_behind : (pattern name : List ℕ) → front_of pattern name ≡ Is-none → 1 ≤ length name
    → some_end (matches pattern) (drop 1 name) ≡ some_end (matches pattern) name
no_end_behind pattern [] is some = absurd (omega (arith, some))
no_end_behind pattern (b ∷ bs) is some = sym (no_end pattern b bs is)

pub star_end : (pattern name behind rest : List ℕ) → front_of pattern name ≡ Is-star behind rest
    → some_end (matches pattern) name ≡ some_end (matches behind) rest
unfolding Known
star_end pattern name behind rest is = (known_by pattern name (Is-star behind rest) is).1

pub star_shorter : (pattern name behind rest : List ℕ) → front_of pattern name ≡ Is-star behind rest
    → length behind + length rest < length pattern + length name
unfolding Known
star_shorter pattern name behind rest is =
    let all = known_by pattern name (Is-star behind rest) is in
    omega (arith, all.2, all.3)
