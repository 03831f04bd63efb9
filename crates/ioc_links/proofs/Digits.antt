-- Bytes in a class, in two texts one after the other.
use Rattle.std.proofs.Common.{◌≡◌, ℕ, Bool, ◌&&◌, List, [], ◌∷◌, ◌++◌, length, ◌<◌, sym, ap, ◌∙◌, arith}
use Rattle.std.proofs.lemmas.List.Folds.{list_all-append}
use Rattle.ioc_links.specs.declared.class.Class.{Class}
use Rattle.ioc_links.specs.Classes.{in_class, all_of}
use Rattle.ioc_links.specs.Grammar.{is_some_of}

-- If the first text has a byte, both are in the class if and only if each is.
pub some_both : (k : Class) (xs ys : List ℕ) (b : Bool) → 0 < length xs → b ≡ all_of k xs → is_some_of k (xs ++ ys) ≡ (b && all_of k ys)
some_both k [] ys b h e = absurd (omega arith)
some_both k (x ∷ xs) ys b h e = list_all-append (in_class k) (x ∷ xs) ys ∙ ap (λ t. t && all_of k ys) (sym e)
