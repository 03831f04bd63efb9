use Rattle.std.proofs.Common.{◌≡◌, nat_eq, rules}
use Rattle.std.specs.Cmp.Lexicographic.{pointwise}
use Rattle.indexmap.specs.IndexMap.{insert_entry}
use Rattle.ioc_names.proofs.Tables.{from_entries-insert_entry}
use Rattle.ioc_names.proofs.names.enter.Goals as goal

pub returns-clause-ok : goal.returns-clause-ok
returns-clause-ok c =
    let e : c.insert.new.self.entries ≡ insert_entry (pointwise nat_eq) c.args.numbers.now.entries c.args.name c.args.number = search rules in
    from_entries-insert_entry c.args.numbers.now c.insert.new.self.entries c.args.name c.args.number c.requires e
