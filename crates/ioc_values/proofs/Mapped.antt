-- The first element of a mapped list that passes a test.
use Rattle.std.proofs.Common.{◌≡◌, Bool, List, [], ◌∷◌, refl}
use Rattle.std.specs.Prelude.{map, not, position}
use Rattle.std.specs.List.{prefix_len}
use Rattle.std.proofs.lemmas.List.{length-map}

prefix_made : {A B : Type 0} (q : B → Bool) (f : A → B) (xs : List A) → prefix_len q (map f xs) ≡ prefix_len (λ x. q (f x)) xs
prefix_made q f [] = refl
prefix_made q f (x ∷ xs) = rw (prefix_made q f xs) refl

pub position_made : {A B : Type 0} (p : B → Bool) (f : A → B) (xs : List A) → position p (map f xs) ≡ position (λ x. p (f x)) xs
position_made p f xs = rw (prefix_made (λ y. not (p y)) f xs, length-map xs f) refl
