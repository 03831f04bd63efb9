-- The texts of lines, one line at a time.
use Rattle.std.proofs.Common.{◌≡◌, ℕ, ◌+◌, ◌-◌, ◌<◌, Bool, true, false, cond, eqb, List, [], ◌∷◌, ◌++◌, length, nat_lt, Some, None, refl, sym, ap, ◌∙◌, append_assoc, append-nil, length-append, arith}
use Rattle.std.proofs.lemmas.Bool.{eqb-true, eqb-false}
use Rattle.ioc_dblex.specs.declared.texts.End.TheVariants.{Whole, BadMacro, TooLong}
use Rattle.ioc_dblex.specs.Lines.{lines_of, line_text}
use Rattle.ioc_dblex.specs.Macros.{Defined}
use Rattle.ioc_dblex.specs.Lexing.{begun_within}
use Rattle.ioc_dblex.specs.Texts.{parts_of, most_bytes, Expansion, onto_texts, last_text, expansion}
use Rattle.ioc_dblex.proofs.LineLemmas.{line_some}

-- Texts followed by an expansion.
abbrev pub after : List (List ℕ) → Expansion → Expansion
after front e = record { texts = front ++ e.texts; end = e.end }

pub done : (ds : List Defined) (front : List (List ℕ)) (room : ℕ) (rest : List ℕ) (total : Expansion) → eqb (length rest) 0 ≡ true → after front (expansion ds room (lines_of rest)) ≡ total → record { texts = front; end = Whole } ≡ total
done ds front room [] total e h = ap (λ (ts : List (List ℕ)). let x : Expansion = record { texts = ts; end = Whole } in x) (sym (append-nil front)) ∙ h
done ds front room (b ∷ bs) total e h = let none : length (b ∷ bs) ≡ 0 = eqb-true (length (b ∷ bs)) 0 e in absurd (omega arith)

pub begins : (ds : List Defined) (ns bs : List ℕ) (lines : List (List ℕ)) → ns ≡ [] → after (parts_of ns bs) (expansion ds most_bytes lines) ≡ expansion ds most_bytes lines
begins ds ns bs lines e = rw e refl

module _ (rest line behind : List ℕ) (some : eqb (length rest) 0 ≡ false) (parted : line ++ behind ≡ rest) (first : 0 < length rest → lines_of rest ≡ line ∷ lines_of behind) where
  some_bytes : 0 < length rest
  some_bytes = let no : length rest ≡ 0 → ⊥ = eqb-false (length rest) 0 some in omega (arith, no)

  off : lines_of rest ≡ line ∷ lines_of behind
  off = first some_bytes

  pub whole : length line + length behind ≡ length rest
  whole = sym (length-append line behind) ∙ ap length parted

  pub some_line : 0 < length line
  some_line = line_some rest line (lines_of behind) off

  module _ (ds : List Defined) (front : List (List ℕ)) (room : ℕ) (total : Expansion) (so_far : after front (expansion ds room (lines_of rest)) ≡ total) where
    split : after front (expansion ds room (line ∷ lines_of behind)) ≡ total
    split = ap (λ (ls : List (List ℕ)). after front (expansion ds room ls)) (sym off) ∙ so_far

    none_step : (t : Bool) (e : Expansion) → cond t (last_text room None) (onto_texts None e) ≡ record { texts = []; end = BadMacro }
    none_step true e = refl
    none_step false e = refl

    -- A line without a text ends the expansion.
    pub stops : line_text ds line ≡ None → record { texts = front; end = BadMacro } ≡ total
    stops e =
        let k : expansion ds room (line ∷ lines_of behind) ≡ record { texts = []; end = BadMacro } = rw e (none_step (nat_lt room (length line)) (expansion ds (room - length line) (lines_of behind))) in
        ap (λ (ts : List (List ℕ)). let x : Expansion = record { texts = ts; end = BadMacro } in x) (sym (append-nil front)) ∙ ap (after front) (sym k) ∙ split

    -- The line on which the limit is exceeded ends the expansion.
    pub passes : (text : List ℕ) → line_text ds line ≡ Some text → nat_lt room (length line) ≡ true → record { texts = front ++ begun_within room text ∷ []; end = TooLong } ≡ total
    passes text e p =
        let k : expansion ds room (line ∷ lines_of behind) ≡ record { texts = begun_within room text ∷ []; end = TooLong } = rw (p, e) refl in
        ap (after front) (sym k) ∙ split

    -- A line within the limit is followed by those after it.
    pub goes_on : (text : List ℕ) → line_text ds line ≡ Some text → nat_lt room (length line) ≡ false → after (front ++ text ∷ []) (expansion ds (room - length line) (lines_of behind)) ≡ total
    goes_on text e p =
        let left = expansion ds (room - length line) (lines_of behind) in
        let k : expansion ds room (line ∷ lines_of behind) ≡ record { texts = text ∷ left.texts; end = left.end } = rw (p, e) refl in
        ap (λ (ts : List (List ℕ)). let x : Expansion = record { texts = ts; end = left.end } in x) (append_assoc front (text ∷ []) left.texts) ∙ ap (after front) (sym k) ∙ split
