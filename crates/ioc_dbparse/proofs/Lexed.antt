-- Pieces with blanks, in terms of lines and tokens.
use Rattle.std.proofs.Common.{◌≡◌, ℕ, ◌+◌, Bool, true, false, cond, not, ◌&&◌, ◌||◌, eqb, List, [], ◌∷◌, ◌++◌, Option, Some, None, refl, sym, ap, append_assoc, ◌∙◌, inl, inr}
use Rattle.std.specs.List.{onto_first}
use Rattle.std.proofs.lemmas.Bool.{cases_Bool, eqb-true}
use Rattle.ioc_dblex.specs.declared.lines.Quoting.TheVariants.{Outside, Inside}
use Rattle.ioc_dblex.specs.Bytes.{is_word_byte}
use Rattle.ioc_dblex.specs.Lines.{quoting_after, begins_comment, uncommented, begins_with, without_end, lines_of, line_text}
use Rattle.ioc_dblex.specs.Lexing.{is_sign}
use Rattle.ioc_dblex.specs.Macros.{Defined, onto_text, replaced}
use Rattle.ioc_dbparse.specs.Spelling.{Each, is_space, is_plain, is_inner, escaped_of, Piece, Call, Mark, Text, with_gaps, comment_text, IsComment}

-- A byte of a class differs from every byte outside.
pub other_byte : (p : ℕ → Bool) (b c : ℕ) → p b ≡ true → p c ≡ false → eqb b c ≡ false
other_byte p b c is_in nope =
    elim (cases_Bool (eqb b c)) [
      | inl is ↦ absurd (let same : b ≡ c = eqb-true b c is in let wrong : p b ≡ false = rw same nope in let clash : true ≡ false = sym is_in ∙ wrong in cc)
      | inr other ↦ other
    ]

-- A byte of a class is neither of two bytes outside.
neither : (p : ℕ → Bool) (x y : ℕ) → p x ≡ false → p y ≡ false → (b : ℕ) → p b ≡ true → not ((eqb b x) || (eqb b y)) ≡ true
neither p x y nx ny b h = rw (other_byte p b x h nx, other_byte p b y h ny) refl

-- A piece that can be spelled.
abbrev pub Fine : List Piece → Type 0
Fine [] = Unit {0}
Fine (Call word ∷ ps) = (word ≡ [] → ⊥) × Each is_word_byte word × Fine ps
Fine (Mark b ∷ ps) = (is_sign b ≡ true) × Fine ps
Fine (Text text ∷ ps) = Each is_plain text × Fine ps

each_append : (p : ℕ → Bool) (xs ys : List ℕ) → Each p xs → Each p ys → Each p (xs ++ ys)
each_append p [] ys h k = k
each_append p (x ∷ xs) ys h k = (h.0, each_append p xs ys h.1 k)

each_map : (p q : ℕ → Bool) (xs : List ℕ) → ((b : ℕ) → p b ≡ true → q b ≡ true) → Each p xs → Each q xs
each_map p q [] f h = tt
each_map p q (x ∷ xs) f h = (f x h.0, each_map p q xs f h.1)

pub or_left : (s t : Bool) → (s || t) ≡ false → s ≡ false
or_left true t h = h
or_left false t h = refl

pub or_right : (s t : Bool) → (s || t) ≡ false → t ≡ false
or_right true t h = absurd (let clash : true ≡ false = h in cc)
or_right false t h = h

-- Lemmas that a line of pieces is plain.

escaped_step : (t : Bool) (b : ℕ) (bs : List ℕ) → is_plain b ≡ true → Each is_plain bs → Each is_plain (cond t (92 ∷ b ∷ bs) (b ∷ bs))
escaped_step true b bs h k = (refl, (h, k))
escaped_step false b bs h k = (h, k)

escaped_plain : (text : List ℕ) → Each is_plain text → Each is_plain (escaped_of text)
escaped_plain [] h = tt
escaped_plain (b ∷ bs) h = escaped_step ((eqb b 34) || (eqb b 92)) b (escaped_of bs) h.0 (escaped_plain bs h.1)

module _ (gaps : ℕ → List ℕ) (spaces : (i : ℕ) → Each is_space (gaps i)) where
  gap_plain : (i : ℕ) → Each is_plain (gaps i)
  gap_plain i = each_map is_space is_plain (gaps i) (neither is_space 10 36 refl refl) (spaces i)

  pub all_plain : (i : ℕ) (ps : List Piece) → Fine ps → Each is_plain (with_gaps gaps i ps [])
  unfolding is_word_byte is_sign
  all_plain i [] h = each_append is_plain (gaps i) [] (gap_plain i) tt
  all_plain i (Call word ∷ ps) h =
      each_append is_plain (gaps i) _ (gap_plain i)
      (each_append is_plain word _ (each_map is_word_byte is_plain word (neither is_word_byte 10 36 refl refl) h.1) (each_append is_plain (gaps (i + 1)) _ (gap_plain (i + 1)) (refl, all_plain (i + 2) ps h.2)))
  all_plain i (Mark b ∷ ps) h = each_append is_plain (gaps i) _ (gap_plain i) (neither is_sign 10 36 refl refl b h.0, all_plain (i + 1) ps h.1)
  all_plain i (Text text ∷ ps) h =
      each_append is_plain (gaps i) _ (gap_plain i) (refl, each_append is_plain (escaped_of text) _ (escaped_plain text h.0) (refl, all_plain (i + 1) ps h.1))

-- What follows the pieces follows their line.
after : (xs y z behind : List ℕ) → y ≡ z ++ behind → xs ++ y ≡ (xs ++ z) ++ behind
after xs y z behind e = ap (λ (l : List ℕ). xs ++ l) e ∙ sym (append_assoc xs z behind)

later : (b : ℕ) (y z behind : List ℕ) → y ≡ z ++ behind → b ∷ y ≡ (b ∷ z) ++ behind
later b y z behind e = ap (λ (l : List ℕ). b ∷ l) e

pub gaps_append : (gaps : ℕ → List ℕ) (i : ℕ) (ps : List Piece) (behind : List ℕ) → with_gaps gaps i ps behind ≡ with_gaps gaps i ps [] ++ behind
gaps_append gaps i [] behind = after (gaps i) behind [] behind refl
gaps_append gaps i (Call word ∷ ps) behind =
    after (gaps i) _ _ behind (after word _ _ behind (after (gaps (i + 1)) _ _ behind (later 40 _ _ behind (gaps_append gaps (i + 2) ps behind))))
gaps_append gaps i (Mark b ∷ ps) behind = after (gaps i) _ _ behind (later b _ _ behind (gaps_append gaps (i + 1) ps behind))
gaps_append gaps i (Text text ∷ ps) behind =
    after (gaps i) _ _ behind (later 34 _ _ behind (after (escaped_of text) _ _ behind (later 34 _ _ behind (gaps_append gaps (i + 1) ps behind))))

-- Lemmas about a line without line feeds.

abbrev pub is_unfed : ℕ → Bool
is_unfed b = not (eqb b 10)

plain_unfed : (b : ℕ) → is_plain b ≡ true → is_unfed b ≡ true
plain_unfed b h = rw (other_byte is_plain b 10 h refl) refl

inner_unfed : (b : ℕ) → is_inner b ≡ true → is_unfed b ≡ true
inner_unfed b h = rw (other_byte is_inner b 10 h refl) refl

comment_unfed : (c : Option (List ℕ)) → IsComment c → Each is_unfed (comment_text c)
comment_unfed None h = tt
comment_unfed (Some c) h = (refl, each_map is_inner is_unfed c inner_unfed h)

pub all_unfed : (gaps : ℕ → List ℕ) → ((i : ℕ) → Each is_space (gaps i)) → (ps : List Piece) → Fine ps → (c : Option (List ℕ)) → IsComment c → Each is_unfed (with_gaps gaps 0 ps (comment_text c))
all_unfed gaps spaces ps fine c h =
    rw (gaps_append gaps 0 ps (comment_text c))
    (each_append is_unfed (with_gaps gaps 0 ps []) (comment_text c) (each_map is_plain is_unfed _ plain_unfed (all_plain gaps spaces 0 ps fine)) (comment_unfed c h))

pub not_feed : (b : ℕ) → is_unfed b ≡ true → eqb b 10 ≡ false
not_feed b h = other_byte is_unfed b 10 h refl

not_dollar : (b : ℕ) → is_plain b ≡ true → eqb b 36 ≡ false
not_dollar b h = other_byte is_plain b 36 h refl

pub one_line : (b : ℕ) (bs : List ℕ) → Each is_unfed (b ∷ bs) → lines_of (b ∷ bs) ≡ (b ∷ bs) ∷ []
one_line b [] h = rw (not_feed b h.0) refl
one_line b (c ∷ cs) h = rw (not_feed b h.0) (ap (onto_first b) (one_line c cs h.1))

pub no_feed_next : (bs : List ℕ) → Each is_unfed bs → begins_with 10 bs ≡ false
no_feed_next [] h = refl
no_feed_next (b ∷ bs) h = not_feed b h.0

pub never : (t : Bool) → (t && false) ≡ false
never true = refl
never false = refl

no_end : (line : List ℕ) → Each is_unfed line → without_end line ≡ line
no_end [] h = refl
no_end (b ∷ bs) h = rw (not_feed b h.0, no_feed_next bs h.1, never (eqb b 13)) (ap (λ (l : List ℕ). b ∷ l) (no_end bs h.1))

-- Plain bytes have no macro.

pub no_macro : (macros : List Defined) (line : List ℕ) → Each is_plain line → replaced macros line ≡ Some line
no_macro macros [] h = refl
no_macro macros (b ∷ bs) h = rw (not_dollar b h.0) (ap (onto_text (b ∷ [])) (no_macro macros bs h.1))

-- Lemmas that pieces have no comment.

abbrev is_neutral : ℕ → Bool
is_neutral b = not ((eqb b 34) || (eqb b 35))

one_outside : (b : ℕ) (rest : List ℕ) → is_neutral b ≡ true → uncommented Outside (b ∷ rest) ≡ b ∷ uncommented Outside rest
unfolding begins_comment quoting_after
one_outside b rest h = rw (other_byte is_neutral b 34 h refl, other_byte is_neutral b 35 h refl) refl

run_outside : (bs rest : List ℕ) → Each is_neutral bs → uncommented Outside (bs ++ rest) ≡ bs ++ uncommented Outside rest
run_outside [] rest h = refl
run_outside (b ∷ bs) rest h = one_outside b (bs ++ rest) h.0 ∙ ap (λ (l : List ℕ). b ∷ l) (run_outside bs rest h.1)

inside_step : (t u : Bool) (b : ℕ) (text rest after : List ℕ) → eqb b 34 ≡ t → eqb b 92 ≡ u → uncommented Inside (text ++ rest) ≡ text ++ after
    → uncommented Inside (cond (t || u) (92 ∷ b ∷ text) (b ∷ text) ++ rest) ≡ cond (t || u) (92 ∷ b ∷ text) (b ∷ text) ++ after
unfolding begins_comment quoting_after
inside_step true u b text rest after e f k = ap (λ (l : List ℕ). 92 ∷ b ∷ l) k
inside_step false true b text rest after e f k = ap (λ (l : List ℕ). 92 ∷ b ∷ l) k
inside_step false false b text rest after e f k = rw (e, f) (ap (λ (l : List ℕ). b ∷ l) k)

closing : (rest : List ℕ) → uncommented Inside (34 ∷ rest) ≡ 34 ∷ uncommented Outside rest
unfolding begins_comment quoting_after
closing rest = refl

inside : (text rest : List ℕ) → uncommented Inside (escaped_of text ++ (34 ∷ rest)) ≡ escaped_of text ++ (34 ∷ uncommented Outside rest)
inside [] rest = closing rest
inside (b ∷ bs) rest = inside_step (eqb b 34) (eqb b 92) b (escaped_of bs) (34 ∷ rest) (34 ∷ uncommented Outside rest) refl refl (inside bs rest)

opening : (rest : List ℕ) → uncommented Outside (34 ∷ rest) ≡ 34 ∷ uncommented Inside rest
unfolding begins_comment quoting_after
opening rest = refl

module _ (gaps : ℕ → List ℕ) (spaces : (i : ℕ) → Each is_space (gaps i)) where
  gap_neutral : (i : ℕ) → Each is_neutral (gaps i)
  gap_neutral i = each_map is_space is_neutral (gaps i) (neither is_space 34 35 refl refl) (spaces i)

  behind : (i : ℕ) (x y : List ℕ) → uncommented Outside x ≡ y → uncommented Outside (gaps i ++ x) ≡ gaps i ++ y
  behind i x y e = run_outside (gaps i) x (gap_neutral i) ∙ ap (λ (l : List ℕ). gaps i ++ l) e

  pub no_comment : (i : ℕ) (ps : List Piece) (tail : List ℕ) → Fine ps → uncommented Outside (with_gaps gaps i ps tail) ≡ with_gaps gaps i ps (uncommented Outside tail)
  unfolding is_word_byte is_sign
  no_comment i [] tail h = run_outside (gaps i) tail (gap_neutral i)
  no_comment i (Call word ∷ ps) tail h =
      behind i _ _ (run_outside word _ (each_map is_word_byte is_neutral word (neither is_word_byte 34 35 refl refl) h.1)
      ∙ ap (λ (l : List ℕ). word ++ l) (behind (i + 1) _ _ (one_outside 40 _ refl ∙ ap (λ (l : List ℕ). 40 ∷ l) (no_comment (i + 2) ps tail h.2))))
  no_comment i (Mark b ∷ ps) tail h = behind i _ _ (one_outside b _ (neither is_sign 34 35 refl refl b h.0) ∙ ap (λ (l : List ℕ). b ∷ l) (no_comment (i + 1) ps tail h.1))
  no_comment i (Text text ∷ ps) tail h =
      behind i _ _ (opening _ ∙ ap (λ (l : List ℕ). 34 ∷ l) (inside text _ ∙ ap (λ (l : List ℕ). escaped_of text ++ (34 ∷ l)) (no_comment (i + 1) ps tail h.1)))

  comment_goes : (c : Option (List ℕ)) → uncommented Outside (comment_text c) ≡ []
  unfolding begins_comment
  comment_goes None = refl
  comment_goes (Some c) = refl

  -- The text of a line of pieces, however the line ends.
  pub line_text_is : (macros : List Defined) (line : List ℕ) (ps : List Piece) (c : Option (List ℕ)) → Fine ps → without_end line ≡ with_gaps gaps 0 ps (comment_text c) → line_text macros line ≡ Some (with_gaps gaps 0 ps [])
  unfolding line_text
  line_text_is macros line ps c h e =
      let whole : uncommented Outside (without_end line) ≡ with_gaps gaps 0 ps [] = ap (uncommented Outside) e ∙ no_comment 0 ps (comment_text c) h ∙ ap (with_gaps gaps 0 ps) (comment_goes c) in
      ap (replaced macros) whole ∙ no_macro macros (with_gaps gaps 0 ps []) (all_plain gaps spaces 0 ps h)

  -- The text of a line of pieces is the line.
  pub line_text_same : (macros : List Defined) (ps : List Piece) → Fine ps → line_text macros (with_gaps gaps 0 ps []) ≡ Some (with_gaps gaps 0 ps [])
  line_text_same macros ps h = line_text_is macros (with_gaps gaps 0 ps []) ps None h (no_end (with_gaps gaps 0 ps []) (all_unfed gaps spaces ps h None tt))
