use Rattle.std.proofs.Common.{codes}
use Rattle.ioc_arguments.proofs.Asking.{first_is, first_some}
use Rattle.ioc_arguments.proofs.arguments.read.Goals as goal

pub returns : goal.returns
returns c = record {
  database = first_some c.args.matches.now (codes "DB") c.get_str.result c.in-Some.database c.get_str.ensures c.in-Some.is;
  mode = c.in_ok-mode.ensures;
  devices = c.in_ok-devices.ensures;
  workers = c.in_ok-workers.ensures;
  journal = first_is c.args.matches.now (codes "journal") c.get_str-2.result c.get_str-2.ensures;
  journal_size = c.in_ok-journal_size.ensures;
  overwrites = c.is_given.ensures;
  seals = c.is_given-2.ensures;
  syncs = c.is_given-3.ensures;
  save = c.in_ok-save.ensures;
  restore = first_is c.args.matches.now (codes "restore") c.get_str-3.result c.get_str-3.ensures;
  macros = c.in_ok-macros.ensures.ok;
}
