use Rattle.ioc_journal_file.proofs.Breaks.{ends_once}
use Rattle.ioc_journal_file.proofs.line.lines_end_once.Goals as goal

pub returns : goal.returns
returns c = λ mark call answers h. ends_once mark call answers h
