-- A word is cut off at the byte that ends it.
use Rattle.std.proofs.Common.{◌≡◌, ℕ, Bool, true, false, cond, not, ◌&&◌, List, [], ◌∷◌, ◌++◌, refl, ap}
use Rattle.ioc_journal_lines.specs.Words.{ends_word, is_whole, word_of, after_word}

pub both : (a b : Bool) → (a && b) ≡ true → (a ≡ true) × (b ≡ true)
both true b h = (refl, h)
both false b h = absurd cc

pub and_true : (a b : Bool) → a ≡ true → b ≡ true → (a && b) ≡ true
and_true true b h k = k
and_true false b h k = absurd cc

pub negated : (a : Bool) → not a ≡ true → a ≡ false
negated true h = absurd cc
negated false h = refl

pub whole_append : (v w : List ℕ) → is_whole v ≡ true → is_whole w ≡ true → is_whole (v ++ w) ≡ true
whole_append [] w h k = k
whole_append (b ∷ bs) w h k =
    let p = both (not (ends_word b)) (is_whole bs) h in and_true (not (ends_word b)) (is_whole (bs ++ w)) p.0 (whole_append bs w p.1 k)

word_step : (e : Bool) (b : ℕ) (bs ws : List ℕ) → e ≡ false → ws ≡ bs → cond e [] (b ∷ ws) ≡ b ∷ bs
word_step true b bs ws h k = absurd cc
word_step false b bs ws h k = ap (λ (l : List ℕ). b ∷ l) k

word_end : (e : Bool) (b : ℕ) (ws : List ℕ) → e ≡ true → cond e [] (b ∷ ws) ≡ []
word_end true b ws h = refl
word_end false b ws h = absurd cc

after_step : (e : Bool) (bs rest ws : List ℕ) → e ≡ false → ws ≡ rest → cond e bs ws ≡ rest
after_step true bs rest ws h k = absurd cc
after_step false bs rest ws h k = k

after_end : (e : Bool) (bs ws : List ℕ) → e ≡ true → cond e bs ws ≡ bs
after_end true bs ws h = refl
after_end false bs ws h = absurd cc

pub word_cut : (w : List ℕ) (c : ℕ) (rest : List ℕ) → is_whole w ≡ true → ends_word c ≡ true → word_of (w ++ c ∷ rest) ≡ w
word_cut [] c rest h e = word_end (ends_word c) c (word_of rest) e
word_cut (b ∷ bs) c rest h e =
    let p = both (not (ends_word b)) (is_whole bs) h in word_step (ends_word b) b bs (word_of (bs ++ c ∷ rest)) (negated _ p.0) (word_cut bs c rest p.1 e)

pub after_cut : (w : List ℕ) (c : ℕ) (rest : List ℕ) → is_whole w ≡ true → ends_word c ≡ true → after_word (w ++ c ∷ rest) ≡ rest
after_cut [] c rest h e = after_end (ends_word c) rest (after_word rest) e
after_cut (b ∷ bs) c rest h e =
    let p = both (not (ends_word b)) (is_whole bs) h in after_step (ends_word b) (bs ++ c ∷ rest) rest (after_word (bs ++ c ∷ rest)) (negated _ p.0) (after_cut bs c rest p.1 e)
