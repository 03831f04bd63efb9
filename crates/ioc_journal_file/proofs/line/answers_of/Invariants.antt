use Rattle.std.proofs.Common.{◌≡◌, ◌-◌}
use Rattle.ioc_journal_file.specs.Parts.{answers_of}
use Rattle.ioc_journal_file.proofs.Lines.{with_front}
use Rattle.ioc_journal_file.proofs.line.answers_of.Given as goal

abbrev pub invariant-loop : goal.invariant-loop
invariant-loop l = with_front l.answers.items (answers_of (l.count - l.counter) l.rest) ≡ answers_of l.count l.bytes
