use Rattle.ioc_dbparse.proofs.Loop.{gives_then}
use Rattle.ioc_dbparse.proofs.Shrinking.{turns_suffice}
use Rattle.ioc_dbparse.proofs.statements.fill.Goals as goal

pub returns : goal.returns
returns g c =
    rw (← turns_suffice g.B.Builder.rules c.args.last c.args.builder.now c.args.tokens.now c.args.turns c.requires)
    (gives_then _ (λ read. read.0) _ _ c.statements_at.ensures)
