use Rattle.std.proofs.Common.{List, map}
use Rattle.std.proofs.lemmas.Result.{IfOk-weaker}
use Rattle.std.specs.String.{string_bytes}
use Rattle.clap.specs.Words.{Text}
use Rattle.ioc_arguments.proofs.Asking.{asked_by_words}
use Rattle.ioc_arguments.proofs.arguments.ioc_args.Goals as goal

pub returns-clause-asked : goal.returns-clause-asked
returns-clause-asked c =
    let words : List Text = map string_bytes c.args.words.now in
    IfOk-weaker c.read.result _ _
    (λ args asked. asked_by_words _ words c.in_ok-matches.matches args c.in_ok-command.ensures c.in_ok-matches.ensures.ok asked)
    c.read.ensures
