use Rattle.ioc_calc.proofs.Compiled.{compiled}
use Rattle.ioc_calc.proofs.Refused.{refused_none, can_run_of}
use Rattle.ioc_calc.proofs.compiling.parsed.Goals as goal

pub program-requires : goal.program-requires
program-requires c = can_run_of _ _ _ c.new-parser.ensures.rest c.new-parser.ensures.steps c.new-parser.ensures.numbers c.requires
    c.in-Ok.ensures

pub returns-in-Ok : goal.returns-in-Ok
returns-in-Ok c = record {
  ok = compiled 80 _ _ _ _ c.new-parser.ensures.rest c.new-parser.ensures.steps c.new-parser.ensures.numbers c.in-Ok.ensures
      c.program.ensures;
  err = tt;
}

pub returns-in-Err : goal.returns-in-Err
returns-in-Err c = record {
  ok = tt;
  err = refused_none _ _ c.new-parser.ensures.rest c.new-parser.ensures.steps c.new-parser.ensures.numbers c.requires c.in-Err.ensures;
}
