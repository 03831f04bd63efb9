use Rattle.std.proofs.Common.{◌∙◌}
use Rattle.ioc_journal_audit.proofs.Words.{words-decide}
use Rattle.ioc_journal_audit.proofs.same.are_same_errors.Goals as goal

pub returns : goal.returns
returns c = words-decide c.args.one c.args.other _ _ _ (c.as_bytes.ensures.value ∙ c.words.ensures) (c.as_bytes-2.ensures.value ∙ c.words-2.ensures) c.eq.ensures
