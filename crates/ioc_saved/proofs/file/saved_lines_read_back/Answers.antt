use Rattle.ioc_saved.proofs.FilesAgain.{saved_again}
use Rattle.ioc_saved.proofs.file.saved_lines_read_back.Goals as goal

pub returns : goal.returns
returns c = λ saved h. saved_again saved h
