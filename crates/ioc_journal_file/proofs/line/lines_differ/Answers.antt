use Rattle.ioc_journal_file.proofs.Lines.{lines_same}
use Rattle.ioc_journal_file.proofs.line.lines_differ.Goals as goal

pub returns : goal.returns
returns c = λ mark other_mark call other_call answers other_answers h k is. lines_same mark other_mark call other_call answers other_answers h k is
