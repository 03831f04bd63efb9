use Rattle.std.proofs.Common.{arith, rules}
use Rattle.std.proofs.lemmas.Fmt.{length-decimal-le}
use Rattle.ioc_journal_file.proofs.numbers.write_before.Goals as goal

pub write_digits-requires : goal.write_digits-requires
write_digits-requires c = (omega (arith, length-decimal-le 20 c.args.number (omega arith) (omega arith) c.ranges.number.fits, c.requires.room), search rules)

pub returns-clause-start : goal.returns-clause-start
returns-clause-start c =
    let few = length-decimal-le 20 c.args.number (omega arith) (omega arith) c.ranges.number.fits in
    (omega (arith, c.write_digits.ensures.start), omega (arith, c.write_digits.ensures.start, few))
