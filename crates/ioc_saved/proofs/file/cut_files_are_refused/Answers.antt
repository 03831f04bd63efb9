use Rattle.ioc_saved.proofs.FilesAgain.{file_cut}
use Rattle.ioc_saved.proofs.file.cut_files_are_refused.Goals as goal

pub returns : goal.returns
returns c = λ place values front rest next h all is. file_cut place values front rest next h all is
