use Rattle.ioc_saved.proofs.FilesAgain.{files_same}
use Rattle.ioc_saved.proofs.file.saved_files_differ.Goals as goal

pub returns : goal.returns
returns c = λ place other_place values others h k all other_all is. files_same place other_place values others h k all other_all is
