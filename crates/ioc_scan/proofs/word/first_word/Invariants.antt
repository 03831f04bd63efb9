use Rattle.std.proofs.Common.{◌≡◌, ◌++◌, take, drop}
use Rattle.ioc_scan.specs.Places.{first_word}
use Rattle.ioc_scan.proofs.word.first_word.Given as goal

abbrev pub invariant-loop-i : goal.invariant-loop-i
invariant-loop-i l = first_word l.text ≡ take l.i l.text ++ first_word (drop l.i l.text)
