use Rattle.rec_text.specs.TextBody.{new_text_body}
use Rattle.rec_text.specs.TextBodyLaws.{text_body_new}
use Rattle.rec_text.proofs.text_body.TextBodyFresh.fresh.Goals as goal

pub returns-clause-defaults : goal.returns-clause-defaults
unfolding new_text_body
returns-clause-defaults g c = rw (c.new-text.ensures, c.kind-kind.ensures) (text_body_new g.K.TextKind.text g.met.K.TextKind.lawful)
