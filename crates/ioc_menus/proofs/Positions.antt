-- Positions in a list of borrowed texts.
use Rattle.std.proofs.Common.{◌≡◌, ℕ, ◌+◌, not, cond, List, [], ◌∷◌, map, position, Bor, refl, ap}
use Rattle.std.proofs.lemmas.List.{length-map}
use Rattle.std.specs.List.{prefix_len}
use Rattle.std.specs.Str.{bytes_eq}

prefix_len-now : (text : List ℕ) (xs : List (Bor (List ℕ))) → prefix_len (λ x. not (bytes_eq x.now text)) xs ≡ prefix_len (λ x. not (bytes_eq x text)) (map (λ t. t.now) xs)
prefix_len-now text [] = refl
prefix_len-now text (x ∷ xs) = ap (λ n. cond (not (bytes_eq x.now text)) (1 + n) 0) (prefix_len-now text xs)

pub position-now : (text : List ℕ) (xs : List (Bor (List ℕ))) → position (λ x. bytes_eq x.now text) xs ≡ position (λ x. bytes_eq x text) (map (λ t. t.now) xs)
position-now text xs = rw (prefix_len-now text xs, length-map)
