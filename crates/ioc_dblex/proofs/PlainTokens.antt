-- Texts without a backslash.
use Rattle.std.proofs.Common.{◌≡◌, ℕ, Bool, true, false, List, [], ◌∷◌, refl, ap}
use Rattle.ioc_dblex.specs.Bytes.{escapes}
use Rattle.ioc_dblex.specs.Macros.{lacks}
use Rattle.ioc_dblex.proofs.Pieces.{lacks_first}
use Rattle.ioc_dblex.specs.Escapes.{piece_of, unescaped_from}

-- A text without a backslash has no escapes.
pub plain_said : (in_value : Bool) (bs : List ℕ) → lacks 92 bs ≡ true → bs ≡ unescaped_from in_value false bs
unfolding piece_of escapes
plain_said in_value [] h = refl
plain_said in_value (b ∷ bs) h =
    let k = lacks_first 92 b bs h in
    rw (k.0) (ap (λ (l : List ℕ). b ∷ l) (plain_said in_value bs k.1))
