use Rattle.rec_analog.specs.Input.{new_ai}
use Rattle.rec_analog.specs.InputLaws.{ai_new}
use Rattle.rec_analog.proofs.input.AiFresh.fresh.Goals as goal

pub returns-clause-defaults : goal.returns-clause-defaults
unfolding new_ai
returns-clause-defaults c = rw (c.new.ensures, c.new-2.ensures, c.new-3.ensures, c.from.ensures) ai_new
