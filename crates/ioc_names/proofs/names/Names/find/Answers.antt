use Rattle.std.proofs.Common.{◌≡◌, nat_eq, rules, subst, ap, ◌∙◌}
use Rattle.std.specs.Cmp.Lexicographic.{pointwise}
use Rattle.std.specs.Map.{lookup}
use Rattle.ioc_names.specs.NameTable.{NameTable, IsNameTable, number_of}
use Rattle.ioc_names.proofs.Tables.{lookup-get, number-known}
use Rattle.ioc_names.proofs.names.Names.find.Goals as goal

pub returns-clause-value : goal.returns-clause-value
returns-clause-value c =
    let e : c.copied.result ≡ lookup (pointwise nat_eq c.args.name.now) c.self.inside.numbers.entries = search rules in
    e ∙ lookup-get c.args.name.now c.self.inside.numbers.entries ∙ ap (λ t. number_of t c.args.name.now) c.self.view_is

pub returns-clause-known : goal.returns-clause-known
returns-clause-known c =
    let P : NameTable → Type 0 = λ t. IsNameTable t.numbers t.count in
    number-known c.args.self.now.numbers c.args.self.now.count (subst P c.self.view_is c.self.invariant) c.args.name.now c.copied.result (returns-clause-value c)
