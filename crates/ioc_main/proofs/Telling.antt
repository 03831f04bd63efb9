-- Something is printed for a line that puts.
use Rattle.std.proofs.Common.{◌≡◌, ℕ, false, List, Option, Some, None, refl}
use Rattle.ioc_commands.specs.Commands.{put_of, put_at, before, behind, is_silent}

at_speaks : (name : List ℕ) (field text : Option (List ℕ)) → is_silent (put_at name field text) ≡ false
at_speaks name None text = refl
at_speaks name (Some field) None = refl
at_speaks name (Some field) (Some text) = refl

pub put_speaks : (words : List ℕ) → is_silent (put_of false (before 32 words) (behind 32 words)) ≡ false
put_speaks words = at_speaks (before 46 (before 32 words)) (behind 46 (before 32 words)) (behind 32 words)
