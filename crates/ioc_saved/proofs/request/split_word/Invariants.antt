use Rattle.std.proofs.Common.{◌≡◌, ◌≤◌, ◌++◌, length, take, drop}
use Rattle.ioc_saved.specs.Requests.{word_of, behind_word}
use Rattle.ioc_saved.proofs.request.split_word.Given as goal

abbrev pub invariant-loop-rest : goal.invariant-loop-rest
invariant-loop-rest l =
    (l.rest ≡ drop l.count l.bytes) × (l.count ≤ length l.bytes) × (take l.count l.bytes ++ word_of l.rest ≡ word_of l.bytes) × (behind_word l.rest ≡ behind_word l.bytes)

abbrev pub decreases-loop-rest : goal.decreases-loop-rest
decreases-loop-rest l = length l.rest
