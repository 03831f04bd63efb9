use Rattle.std.proofs.lemmas.Result.{IfOk-weaker}
use Rattle.ioc_command_line.proofs.Matching.{more}
use Rattle.ioc_arguments.specs.Arguments.{ioc_words}
use Rattle.ioc_arguments.proofs.arguments.command.Goals as goal

pub returns : goal.returns
unfolding ioc_words
returns c =
    let one = more _ _ _ _ _ (c.in_ok-arg.ensures.shape c.file_argument.ensures.local) c.command.ensures c.file_argument.ensures.rule in
    let two = more _ _ _ _ _ (c.in_ok-arg-2.ensures.shape c.ticks_option.ensures.local) one c.ticks_option.ensures.rule in
    let three = more _ _ _ _ _ (c.in_ok-arg-3.ensures.shape c.flag.ensures.local) two c.flag.ensures.rule in
    let four = more _ _ _ _ _ (c.in_ok-arg-4.ensures.shape c.flag-2.ensures.local) three c.flag-2.ensures.rule in
    let five = more _ _ _ _ _ (c.in_ok-arg-5.ensures.shape c.word_option.ensures.local) four c.word_option.ensures.rule in
    let six = more _ _ _ _ _ (c.in_ok-arg-6.ensures.shape c.workers_option.ensures.local) five c.workers_option.ensures.rule in
    let seven = more _ _ _ _ _ (c.in_ok-arg-7.ensures.shape c.word_option-2.ensures.local) six c.word_option-2.ensures.rule in
    let eight = more _ _ _ _ _ (c.in_ok-arg-8.ensures.shape c.size_option.ensures.local) seven c.size_option.ensures.rule in
    let nine = more _ _ _ _ _ (c.in_ok-arg-9.ensures.shape c.flag-3.ensures.local) eight c.flag-3.ensures.rule in
    let ten = more _ _ _ _ _ (c.in_ok-arg-10.ensures.shape c.flag-4.ensures.local) nine c.flag-4.ensures.rule in
    let eleven = more _ _ _ _ _ (c.in_ok-arg-11.ensures.shape c.flag-5.ensures.local) ten c.flag-5.ensures.rule in
    let twelve = more _ _ _ _ _ (c.in_ok-arg-12.ensures.shape c.word_option-3.ensures.local) eleven c.word_option-3.ensures.rule in
    let thirteen = more _ _ _ _ _ (c.in_ok-arg-13.ensures.shape c.word_option-4.ensures.local) twelve c.word_option-4.ensures.rule in
    let fourteen = more _ _ _ _ _ (c.in_ok-arg-14.ensures.shape c.save_every_option.ensures.local) thirteen c.save_every_option.ensures.rule in
    let fifteen = more _ _ _ _ _ (c.in_ok-arg-15.ensures.shape c.word_option-5.ensures.local) fourteen c.word_option-5.ensures.rule in
    let sixteen = more _ _ _ _ _ (c.in_ok-arg-16.ensures.shape c.definitions_argument.ensures.local) fifteen c.definitions_argument.ensures.rule in
    IfOk-weaker c.arg-17.result _ _ (λ _ adds. more _ _ _ _ _ (adds.shape c.macros_option.ensures.local) sixteen c.macros_option.ensures.rule) c.arg-17.ensures
