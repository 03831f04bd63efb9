use Rattle.rec_sel.specs.Sel.{new_sel}
use Rattle.rec_sel.specs.SelLaws.{sel_new}
use Rattle.rec_sel.proofs.sel.SelFresh.fresh.Goals as goal

pub returns-clause-defaults : goal.returns-clause-defaults
unfolding new_sel
returns-clause-defaults c = rw (c.new.ensures, c.new-3.ensures, c.new-2.ensures, c.no_number.ensures, c.empty.ensures) sel_new
