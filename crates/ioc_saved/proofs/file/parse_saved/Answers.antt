use Rattle.std.proofs.Common.{sym}
use Rattle.ioc_saved.proofs.Ends.{ends_well}
use Rattle.ioc_saved.proofs.SavedAgain.{saveable_if_ok, ended_if_ok}
use Rattle.ioc_saved.proofs.file.parse_saved.Goals as goal

pub returns-clause-ended : goal.returns-clause-ended
returns-clause-ended c = ended_if_ok c.values_of.result c.args.text.now (ends_well c.args.text.now (sym c.if-not-is_whole.ensures))

pub returns-clause-saveable : goal.returns-clause-saveable
returns-clause-saveable c = saveable_if_ok (λ values. values.items) c.values_of.result c.args.text.now c.values_of.ensures
