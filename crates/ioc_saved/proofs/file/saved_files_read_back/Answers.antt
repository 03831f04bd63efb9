use Rattle.ioc_saved.proofs.FilesAgain.{file_again}
use Rattle.ioc_saved.proofs.file.saved_files_read_back.Goals as goal

pub returns : goal.returns
returns c = λ place values h all. file_again place values h all
