use Rattle.std.proofs.Common.{List, map, subst}
use Rattle.std.proofs.lemmas.Result.{IfErr-weaker, IfOk-weaker}
use Rattle.std.specs.String.{string_bytes}
use Rattle.clap.specs.Words.{HasMatchesOf, Text}
use Rattle.ioc_command_line.specs.CommandLine.{two_files_app}
use Rattle.ioc_command_line.proofs.Matching.{reads_words, refuses_rows}
use Rattle.ioc_command_line.proofs.two_files.TwoFiles.from_words.Goals as goal

pub returns-clause-ok : goal.returns-clause-ok
returns-clause-ok c =
    let app = two_files_app c.args.program.now.name.now c.args.other.now in
    let words : List Text = map string_bytes c.args.words.now in
    let has = subst (λ a. HasMatchesOf a words c.in_ok-matches.matches) c.in_ok-command.ensures c.in_ok-matches.ensures.ok in
    IfOk-weaker c.read.result _ _ (λ files reads. reads_words app words c.args.other.now c.in_ok-matches.matches files has reads) c.read.ensures.ok

pub returns-clause-err : goal.returns-clause-err
returns-clause-err c =
    let app = two_files_app c.args.program.now.name.now c.args.other.now in
    let words : List Text = map string_bytes c.args.words.now in
    let has = subst (λ a. HasMatchesOf a words c.in_ok-matches.matches) c.in_ok-command.ensures c.in_ok-matches.ensures.ok in
    IfErr-weaker c.read.result _ _ (λ stop refused. refuses_rows app words c.args.other.now c.in_ok-matches.matches stop has refused) c.read.ensures.err
