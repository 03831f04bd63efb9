use Rattle.std.proofs.Common.{rules}
use Rattle.ioc_arguments.proofs.Asking.{first_some}
use Rattle.ioc_arguments.proofs.arguments.number_in.Goals as goal

pub returns-in-Ok : goal.returns-in-Ok
returns-in-Ok c = record {
  word = c.in-Some.text.now;
  given = first_some c.args.matches.now c.args.id.now c.get_str.result c.in-Some.text c.get_str.ensures c.in-Some.is;
  value = search rules;
  least = search rules;
  largest = search rules;
}
