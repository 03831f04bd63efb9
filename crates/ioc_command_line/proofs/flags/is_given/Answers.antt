use Rattle.std.proofs.Common.{rules, ◌≡◌, ◌∙◌, Option, None, Some, ap, sym}
use Rattle.std.specs.Prelude.{option_map}
use Rattle.ioc_command_line.proofs.Matching.{first_is, first_some}
use Rattle.ioc_command_line.specs.Flags.{is_true}
use Rattle.ioc_command_line.proofs.flags.is_given.Goals as goal

pub returns-in-Some : goal.returns-in-Some
returns-in-Some c =
    let same : c.eq.result ≡ is_true (Some c.in-Some.word.now) = search rules in
    same ∙ sym (ap is_true (first_some c.args.matches.now c.args.name.now c.get_str.result c.in-Some.word c.get_str.ensures c.in-Some.is))

pub returns-in-None : goal.returns-in-None
returns-in-None c =
    sym (ap is_true (first_is c.args.matches.now c.args.name.now c.get_str.result c.get_str.ensures ∙ ap (option_map (λ s. s.now)) c.in-None.is))
