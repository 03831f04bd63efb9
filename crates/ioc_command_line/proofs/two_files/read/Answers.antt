use Rattle.std.proofs.Common.{rules, ◌≡◌, ◌∙◌, ℕ, List, Option, None, ap, refl, inl, inr, codes}
use Rattle.std.specs.Prelude.{option_map}
use Rattle.std.specs.Borrow.{Bor}
use Rattle.ioc_command_line.proofs.Matching.{first_is}
use Rattle.ioc_command_line.proofs.two_files.read.Goals as goal

abbrev text_of : Option (Bor (List ℕ)) → Option (List ℕ)
text_of = option_map (λ s. s.now)

pub returns-in_default-clause-err : goal.returns-in_default-clause-err
returns-in_default-clause-err c =
    let none : c.get_str.result ≡ None = search rules in
    inr (refl, inl (first_is c.args.matches.now (codes "DB") c.get_str.result c.get_str.ensures ∙ ap text_of none))

pub returns-in_default-get_str-clause-err : goal.returns-in_default-get_str-clause-err
returns-in_default-get_str-clause-err c =
    let none : c.get_str-2.result ≡ None = search rules in
    inr (refl, inr (first_is c.args.matches.now c.args.other.now c.get_str-2.result c.get_str-2.ensures ∙ ap text_of none))

pub returns-clause-ok : goal.returns-clause-ok
returns-clause-ok c = record {
  first = first_is c.args.matches.now (codes "DB") c.get_str.result c.get_str.ensures ∙ ap text_of c.in-Some.is;
  second = first_is c.args.matches.now c.args.other.now c.get_str-2.result c.get_str-2.ensures ∙ ap text_of c.in-Some-get_str.is;
  defines = c.in_ok-macros.ensures.ok;
}
