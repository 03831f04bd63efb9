use Rattle.std.proofs.Common.{ap, arith}
use Rattle.ioc_journal.specs.declared.cell.View.{View}
use Rattle.ioc_engine_core.proofs.Keys.{no_desks_with}
use Rattle.ioc_engine_core.proofs.starting.new_lists.Goals as goal

pub claim_key-pass-requires-clause-fresh : goal.claim_key-pass-requires-clause-fresh
claim_key-pass-requires-clause-fresh g c has = let record_key = c.requires.born (2, 0) has in absurd (omega (arith, record_key))

pub returns-in_err-puts-clause-born : goal.returns-in_err-puts-clause-born
returns-in_err-puts-clause-born g c = no_desks_with _ _ c.requires.born (ap (λ (v : View). v.born) c.claim_key-pass.ensures.kept.1)

pub returns-in_err-queues-clause-born : goal.returns-in_err-queues-clause-born
returns-in_err-queues-clause-born g c = no_desks_with _ _ c.requires.born (ap (λ (v : View). v.born) c.claim_key-pass.ensures.kept.1)

pub returns-clause-born : goal.returns-clause-born
returns-clause-born g c = no_desks_with _ _ c.requires.born (ap (λ (v : View). v.born) c.claim_key-pass.ensures.kept.1)
