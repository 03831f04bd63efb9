use Rattle.std.proofs.Common.{rules, ◌≡◌, ◌∙◌, true, false, ap, codes, sym}
use Rattle.ioc_arguments.proofs.Asking.{first_is, text_of}
use Rattle.ioc_arguments.proofs.arguments.mode_in.Goals as goal

pub returns-in-None-true-false : goal.returns-in-None-true-false
returns-in-None-true-false c =
    let console : c.is_given-has_console.result ≡ true = search rules in
    let live : c.is_given-is_live.result ≡ false = search rules in (
      first_is c.args.matches.now (codes "ticks") c.get_str.result c.get_str.ensures ∙ ap text_of c.in-None-true-false.is-0,
      sym c.is_given-has_console.ensures ∙ console,
      sym c.is_given-is_live.ensures ∙ live,
    )

pub returns-in-None-false-true : goal.returns-in-None-false-true
returns-in-None-false-true c =
    let console : c.is_given-has_console.result ≡ false = search rules in
    let live : c.is_given-is_live.result ≡ true = search rules in (
      first_is c.args.matches.now (codes "ticks") c.get_str.result c.get_str.ensures ∙ ap text_of c.in-None-false-true.is-0,
      sym c.is_given-has_console.ensures ∙ console,
      sym c.is_given-is_live.ensures ∙ live,
    )
