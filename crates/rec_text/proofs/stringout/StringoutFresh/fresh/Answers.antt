use Rattle.rec_text.specs.Stringout.{new_stringout}
use Rattle.rec_text.specs.StringoutLaws.{stringout_new}
use Rattle.rec_text.proofs.stringout.StringoutFresh.fresh.Goals as goal

pub returns-clause-defaults : goal.returns-clause-defaults
unfolding new_stringout
returns-clause-defaults c = rw (c.new.ensures, c.new-2.ensures, c.new-3.ensures) stringout_new
