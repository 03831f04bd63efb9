use Rattle.std.proofs.Common.{sym, ◌∙◌}
use Rattle.ioc_dblex.specs.SeenLines.{texts}
use Rattle.ioc_dblex.proofs.Advance.{takes_end, takes_fault, takes_one}
use Rattle.ioc_dblex.proofs.tokens.advance.Goals as goal

pub returns-in_default-clause-takes : goal.returns-in_default-clause-takes
returns-in_default-clause-takes c =
    let f = c.find.new.place in
    takes_end f.line f.rest.now f.behind.lengths.now f.behind.bytes.now f.end _ _ _ c.in_default.ensures c.find.ensures.last c.find.ensures.same c.end_token-token.ensures c.stop.ensures.tokens

pub returns-then-is_fault-clause-takes : goal.returns-then-is_fault-clause-takes
returns-then-is_fault-clause-takes c =
    let f = c.find.new.place in
    takes_fault f.line f.rest.now (texts f.behind) f.end _ _ _ c.find.ensures.solid c.in-Some.ensures (sym c.is_fault.ensures ∙ c.if-is_fault.true) c.find.ensures.same c.stop-then-is_fault.ensures.tokens

pub returns-clause-takes : goal.returns-clause-takes
returns-clause-takes c =
    let f = c.find.new.place in
    takes_one f.line f.rest.now (texts f.behind) f.end _ _ c.find.ensures.solid c.in-Some.ensures (sym c.is_fault.ensures ∙ c.if-is_fault.false) c.find.ensures.same
