use Rattle.std.proofs.Common.{◌≡◌, ◌∙◌, sym, ap, true, not, nat_eq, rules}
use Rattle.std.specs.Cmp.Lexicographic.{pointwise}
use Rattle.std.specs.Str.{bytes_eq}
use Rattle.std.proofs.lemmas.Slice.Eq.{bytes_eq-Decides}
use Rattle.ioc_fields.proofs.Home.{none_named, one_named, other_named}
use Rattle.ioc_fields.proofs.names.named.Goals as goal

pub returns-in_default : goal.returns-in_default
returns-in_default c = none_named c.args.name.now (sym c.candidate.ensures ∙ c.in_default.is)

pub returns-then-not-is_same : goal.returns-then-not-is_same
returns-then-not-is_same c =
    other_named c.args.name.now c.in-Some.field (cc)
    (λ e.
    let same : bytes_eq c.as_bytes.result.now c.args.name.now ≡ true = (bytes_eq-Decides c.as_bytes.result.now c.args.name.now).1 (c.as_bytes.ensures.value ∙ c.name_of.ensures ∙ e) in
    let is : pointwise nat_eq c.as_bytes.result.now c.args.name.now ≡ true = same in
    let not_other = ap not is in
    cc)

pub returns : goal.returns
returns c =
    let same : bytes_eq c.as_bytes.result.now c.args.name.now ≡ true = search rules in
    one_named c.args.name.now c.in-Some.field (cc)
    (sym (c.as_bytes.ensures.value ∙ c.name_of.ensures) ∙ (bytes_eq-Decides c.as_bytes.result.now c.args.name.now).0 same)
