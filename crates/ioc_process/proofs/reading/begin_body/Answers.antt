use Rattle.std.proofs.Common.{ap, ◌∙◌, sym}
use Rattle.ioc_process.specs.Processing.{processed}
use Rattle.ioc_process.proofs.Needs.{body-nothing}
use Rattle.ioc_process.proofs.reading.begin_body.Goals as goal

pub returns-in-Nothing-clause-turn : goal.returns-in-Nothing-clause-turn
returns-in-Nothing-clause-turn g c = λ answers begins.
    ap (λ d. processed d) (body-nothing g.S.Record.RecordKind.rules g.met.S.Record.RecordKind.lawful answers _ _ (sym c.need.ensures ∙ c.in-Nothing.is))
    ∙ c.finish_body.ensures.turn answers begins
