use Rattle.std.proofs.Common.{codes, ◌∙◌, ap}
use Rattle.ioc_arguments.proofs.Asking.{first_is, first_some, text_of}
use Rattle.ioc_arguments.proofs.arguments.save_in.Goals as goal

pub returns-in-None-None-None : goal.returns-in-None-None-None
returns-in-None-None-None c = (
  first_is c.args.matches.now (codes "save") c.get_str-request.result c.get_str-request.ensures ∙ ap text_of c.in-None-None-None.is-0,
  (
    first_is c.args.matches.now (codes "save-to") c.get_str-file.result c.get_str-file.ensures ∙ ap text_of c.in-None-None-None.is-1,
    first_is c.args.matches.now (codes "save-every") c.get_str-every.result c.get_str-every.ensures ∙ ap text_of c.in-None-None-None.is-2,
  ),
)

pub returns-in_ok-seconds-in-Some-Some-default : goal.returns-in_ok-seconds-in-Some-Some-default
returns-in_ok-seconds-in-Some-Some-default c =
    let given = c.in-Some-Some-default in (
      c.in_ok-must_be_live-in-Some-Some-default.ensures,
      (
        first_some c.args.matches.now (codes "save") c.get_str-request.result given.request c.get_str-request.ensures given.is-0,
        (
          first_some c.args.matches.now (codes "save-to") c.get_str-file.result given.file c.get_str-file.ensures given.is-1,
          c.in_ok-seconds-in-Some-Some-default.ensures,
        ),
      ),
    )
