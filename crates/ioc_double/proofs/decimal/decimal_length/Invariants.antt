use Rattle.std.proofs.Common.{◌≤◌}
use Rattle.ioc_double.specs.Reading.{place}
use Rattle.ioc_double.proofs.Longest.{HasRead}
use Rattle.ioc_double.proofs.decimal.decimal_length.Given as goal

abbrev pub invariant-loop-index : goal.invariant-loop-index
invariant-loop-index l = record {
  read : HasRead l.bytes l.index (place l.reading) l.longest;
  within : l.longest ≤ l.index;
}
