use Rattle.std.proofs.Common.{◌≡◌, ◌++◌, ◌∷◌, length, take}
use Rattle.std.specs.Prelude.{decimal}
use Rattle.std.specs.List.{flat_map}
use Rattle.ioc_journal_file.specs.Form.{answer_text}
use Rattle.ioc_journal_file.proofs.line.add_answers.Given as goal

abbrev pub invariant-loop-answer : goal.invariant-loop-answer
invariant-loop-answer l =
    l.out.items ≡ l.fn.out.items ++ decimal (length l.answers) ++ flat_map (λ answer. 9 ∷ answer_text answer) (take l.answer-index l.answers)
