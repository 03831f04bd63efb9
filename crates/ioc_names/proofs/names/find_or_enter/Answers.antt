use Rattle.std.proofs.Common.{◌≡◌, ◌∙◌, sym, nat_eq, rules, Some, None}
use Rattle.std.specs.Cmp.Lexicographic.{pointwise}
use Rattle.std.specs.Map.{lookup}
use Rattle.ioc_names.proofs.Tables.{lookup-get, from_entries-insert_entry}
use Rattle.ioc_names.proofs.names.find_or_enter.Goals as goal

pub returns-in-Occupied-clause-found : goal.returns-in-Occupied-clause-found
returns-in-Occupied-clause-found c =
    let e : Some c.get.result.now ≡ lookup (pointwise nat_eq c.args.name) c.args.numbers.now.entries = search rules in
    e ∙ lookup-get c.args.name c.args.numbers.now.entries

pub returns-in-Vacant-clause-found : goal.returns-in-Vacant-clause-found
returns-in-Vacant-clause-found c =
    let e : None ≡ lookup (pointwise nat_eq c.args.name) c.args.numbers.now.entries = search rules in
    e ∙ lookup-get c.args.name c.args.numbers.now.entries

pub returns-in-Vacant-clause-ok : goal.returns-in-Vacant-clause-ok
returns-in-Vacant-clause-ok c =
    let e : None ≡ lookup (pointwise nat_eq c.args.name) c.args.numbers.now.entries = search rules in
    from_entries-insert_entry c.args.numbers.now _ c.args.name c.args.number (sym (e ∙ lookup-get c.args.name c.args.numbers.now.entries)) (search rules)
