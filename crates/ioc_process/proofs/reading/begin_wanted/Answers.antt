use Rattle.std.proofs.Common.{ap, ◌∙◌, sym}
use Rattle.ioc_dbcommon.specs.declared.body.Want.TheVariants.{ReadLink}
use Rattle.ioc_process.specs.Processing.{input, processed}
use Rattle.ioc_process.specs.Bodies.{input_stands}
use Rattle.ioc_process.proofs.FrameSteps.{body-input}
use Rattle.ioc_process.proofs.Needs.{needs-link}
use Rattle.ioc_process.proofs.reading.begin_wanted.Goals as goal

pub begin_reading-requires : goal.begin_reading-requires
begin_reading-requires g c = record {
  ready = c.requires.ready;
  standing =
      input_stands g.S.Record.RecordKind.rules g.met.S.Record.RecordKind.lawful _ _ _ c.requires.ready.closed
      (needs-link _ c.requires.wants ∙ ap ReadLink (sym c.wanted_link-link.ensures));
}

pub returns-clause-turn : goal.returns-clause-turn
unfolding input
returns-clause-turn g c = λ answers begins.
    ap (λ d. processed d) (body-input g.S.Record.RecordKind.rules g.met.S.Record.RecordKind.lawful answers _ _ _ (needs-link _ c.requires.wants ∙ ap ReadLink (sym c.wanted_link-link.ensures)))
    ∙ c.begin_reading.ensures.turn answers begins
