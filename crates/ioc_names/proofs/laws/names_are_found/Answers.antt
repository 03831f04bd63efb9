use Rattle.std.specs.Ordering.{nat_cmp}
use Rattle.std.specs.Cmp.Lexicographic.{slice_cmp}
use Rattle.std.specs.FinMap.{get-empty}
use Rattle.ioc_names.proofs.NameLaws.{get-insert-same, get-insert-other}
use Rattle.ioc_names.proofs.laws.names_are_found.Goals as goal

pub returns-clause-entered : goal.returns-clause-entered
returns-clause-entered c = (
  get-insert-same c.args.names.now.numbers c.args.name.now c.args.names.now.count,
  get-insert-same c.args.names.now.numbers c.args.name.now c.args.number,
)

pub returns-clause-others : goal.returns-clause-others
returns-clause-others c = λ differ. (
  get-insert-other c.args.names.now.numbers c.args.name.now c.args.names.now.count c.args.other.now differ,
  get-insert-other c.args.names.now.numbers c.args.name.now c.args.number c.args.other.now differ,
)

pub returns-clause-none : goal.returns-clause-none
returns-clause-none c = get-empty (slice_cmp nat_cmp) c.args.other.now
