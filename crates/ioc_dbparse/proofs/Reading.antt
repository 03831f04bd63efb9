-- The texts of spelled words, and the pieces that spell statements.
use Rattle.std.proofs.Common.{◌≡◌, ℕ, ◌+◌, ◌≤◌, Bool, true, false, cond, ◌||◌, eqb, List, [], ◌∷◌, length, refl, ap, arith, codes}
use Rattle.ioc_dblex.specs.Bytes.{escapes, is_word_byte}
use Rattle.ioc_dblex.specs.Lexing.{is_sign}
use Rattle.ioc_dblex.specs.Escapes.{escaped_byte, piece_of, unescaped_from}
use Rattle.ioc_dbparse.specs.Spelling.{Each, escaped_of, Entry, Field, Info, Second, Opening, Record, Grecord, Statement, Full, Bare, Alias, Piece, Mark, entries_pieces, opening_word, pieces_of, PlainEntries, PlainStatements}
use Rattle.ioc_dbparse.proofs.Lexed.{Fine}

-- Lemmas about the text of a spelled word.

again_step : (t u in_value : Bool) (b : ℕ) (text rest : List ℕ) → eqb b 34 ≡ t → eqb b 92 ≡ u → unescaped_from in_value false text ≡ rest
    → unescaped_from in_value false (cond (t || u) (92 ∷ b ∷ text) (b ∷ text)) ≡ b ∷ rest
unfolding piece_of escaped_byte escapes
again_step true u in_value b text rest e f k = rw e (ap (λ (l : List ℕ). b ∷ l) k)
again_step false true in_value b text rest e f k = rw (e, f) (ap (λ (l : List ℕ). b ∷ l) k)
again_step false false in_value b text rest e f k = rw f (ap (λ (l : List ℕ). b ∷ l) k)

pub again : (in_value : Bool) (text : List ℕ) → unescaped_from in_value false (escaped_of text) ≡ text
again in_value [] = refl
again in_value (b ∷ bs) = again_step (eqb b 34) (eqb b 92) in_value b (escaped_of bs) bs refl refl (again in_value bs)

-- Lemmas about the pieces of statements.

pub entries_count : (es : List Entry) (behind : List Piece) → length es + length behind ≤ length (entries_pieces es behind)
entries_count [] behind = omega arith
entries_count (Field f v ∷ es) behind = omega (arith, entries_count es behind)
entries_count (Info k v ∷ es) behind = omega (arith, entries_count es behind)
entries_count (Second a ∷ es) behind = omega (arith, entries_count es behind)

pub statements_count : (xs : List Statement) → length xs ≤ length (pieces_of xs)
statements_count [] = omega arith
statements_count (Full word type name es ∷ xs) = omega (arith, statements_count xs, entries_count es (Mark 125 ∷ pieces_of xs))
statements_count (Bare word type name ∷ xs) = omega (arith, statements_count xs)
statements_count (Alias name second ∷ xs) = omega (arith, statements_count xs)

-- Holds of a word that can be spelled.
abbrev Spells : List ℕ → Type 0
Spells word = (word ≡ [] → ⊥) × Each is_word_byte word

opening_fine : (word : Opening) → Spells (opening_word word)
unfolding is_word_byte
opening_fine Record = ((λ e. let clash : codes "record" ≡ [] = e in cc), (refl, (refl, (refl, (refl, (refl, (refl, tt)))))))
opening_fine Grecord = ((λ e. let clash : codes "grecord" ≡ [] = e in cc), (refl, (refl, (refl, (refl, (refl, (refl, (refl, tt))))))))

field_fine : Spells (codes "field")
unfolding is_word_byte
field_fine = ((λ e. let clash : codes "field" ≡ [] = e in cc), (refl, (refl, (refl, (refl, (refl, tt))))))

info_fine : Spells (codes "info")
unfolding is_word_byte
info_fine = ((λ e. let clash : codes "info" ≡ [] = e in cc), (refl, (refl, (refl, (refl, tt)))))

alias_fine : Spells (codes "alias")
unfolding is_word_byte
alias_fine = ((λ e. let clash : codes "alias" ≡ [] = e in cc), (refl, (refl, (refl, (refl, (refl, tt))))))

entries_fine : (es : List Entry) (behind : List Piece) → PlainEntries es → Fine behind → Fine (entries_pieces es behind)
unfolding is_sign
entries_fine [] behind h k = k
entries_fine (Field f v ∷ es) behind h k = (field_fine.0, field_fine.1, (h.0, (refl, (h.1, (refl, entries_fine es behind h.2 k)))))
entries_fine (Info f v ∷ es) behind h k = (info_fine.0, info_fine.1, (h.0, (refl, (h.1, (refl, entries_fine es behind h.2 k)))))
entries_fine (Second a ∷ es) behind h k = (alias_fine.0, alias_fine.1, (h.0, (refl, entries_fine es behind h.1 k)))

pub statements_fine : (xs : List Statement) → PlainStatements xs → Fine (pieces_of xs)
unfolding is_sign
statements_fine [] h = tt
statements_fine (Full word type name es ∷ xs) h =
    ((opening_fine word).0, (opening_fine word).1, (h.0, (refl, (h.1, (refl, (refl, entries_fine es (Mark 125 ∷ pieces_of xs) h.2 (refl, statements_fine xs h.3)))))))
statements_fine (Bare word type name ∷ xs) h = ((opening_fine word).0, (opening_fine word).1, (h.0, (refl, (h.1, (refl, statements_fine xs h.2)))))
statements_fine (Alias name second ∷ xs) h = (alias_fine.0, alias_fine.1, (h.0, (refl, (h.1, (refl, statements_fine xs h.2)))))
