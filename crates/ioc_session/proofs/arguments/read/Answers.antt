use Rattle.std.proofs.Common.{rules, codes}
use Rattle.ioc_command_line.proofs.Matching.{first_some}
use Rattle.ioc_session.proofs.arguments.read.Goals as goal

pub returns : goal.returns
returns c = record {
  files = record {
    first = first_some c.args.matches.now (codes "DB") c.get_str.result c.in-Some.database c.get_str.ensures c.in-Some.is;
    second = first_some c.args.matches.now (codes "SCRIPT") c.get_str-2.result c.in-Some-get_str.other c.get_str-2.ensures c.in-Some-get_str.is;
    defines = c.in_ok-macros.ensures.ok;
  };
  tested = c.is_given.ensures;
  echo = c.is_given-2.ensures;
  explained = c.is_given-3.ensures;
  traced = c.is_given-4.ensures;
  prompt = search rules;
}
