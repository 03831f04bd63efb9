-- Lines that are recognized by their first bytes.
use Rattle.std.proofs.Common.{◌≡◌, ℕ, false, List, ◌++◌, refl}
use Rattle.std.specs.Prelude.{codes}
use Rattle.ioc_commands.specs.Commands.{worded, get_of, put_of, process_of, before, behind}

pub get_line : (words : List ℕ) → worded (codes "get " ++ words) ≡ get_of false (before 32 words) (behind 32 words)
get_line words = refl

pub put_line : (words : List ℕ) → worded (codes "put " ++ words) ≡ put_of false (before 32 words) (behind 32 words)
put_line words = refl

pub process_line : (words : List ℕ) → worded (codes "process " ++ words) ≡ process_of (before 32 words) (behind 32 words)
process_line words = refl
