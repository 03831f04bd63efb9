use Rattle.std.proofs.Common.{ap, sym, ◌∙◌}
use Rattle.ioc_dblex.specs.SeenLines.{texts}
use Rattle.ioc_dblex.specs.Signs.{takes_sign}
use Rattle.ioc_dblex.proofs.Signs.{takes_here, takes_none}
use Rattle.ioc_dblex.proofs.tokens.take_sign_at.Goals as goal

pub returns-in_default-clause-takes : goal.returns-in_default-clause-takes
returns-in_default-clause-takes c =
    let f = c.find.new.place in
    takes_none f.line c.args.b f.rest.now f.behind.lengths.now f.behind.bytes.now f.end c.find.ensures.solid c.find.ensures.last (sym c.in_default.ensures) ∙ ap (takes_sign c.args.b) c.find.ensures.same

pub returns-clause-takes : goal.returns-clause-takes
returns-clause-takes c =
    let f = c.find.new.place in
    takes_here f.line c.args.b f.rest.now c.in-Some.behind.now (texts f.behind) f.end c.find.ensures.solid (sym c.in-Some.ensures) ∙ ap (takes_sign c.args.b) c.find.ensures.same
