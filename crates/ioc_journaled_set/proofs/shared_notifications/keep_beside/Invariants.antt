use Rattle.crossbeam_utils.specs.Seq.{cell_view}
use Rattle.ioc_journal.specs.Account.{puts_key}
use Rattle.ioc_journaled_set.proofs.shared_notifications.keep_beside.Given as goal

abbrev pub ghosts-append_two : goal.ghosts-append_two
ghosts-append_two g a = record { keys = (cell_view a.one.now).owns; rest = puts_key }
