use Rattle.std.proofs.Common.{rules}
use Rattle.ioc_journal.proofs.pass.cut.Goals as goal

pub split_pass-requires : goal.split_pass-requires
split_pass-requires g c = (search rules, (search rules, (c.requires.table, c.requires.rule)))

pub returns : goal.returns
returns g c =
    let s = c.split_pass.ensures in
    record { kept = (s.kept.0.0, s.kept.1); given = (s.given.0, s.given.2, s.given.1) }
