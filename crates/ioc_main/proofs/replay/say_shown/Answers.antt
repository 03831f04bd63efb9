use Rattle.std.specs.Prelude.{codes}
use Rattle.rec_types.specs.Record.{record_rules}
use Rattle.ioc_record.specs.Values.{text_of}
use Rattle.ioc_main.proofs.Getting.{shown_behind}
use Rattle.ioc_main.proofs.replay.say_shown.Goals as goal

pub returns : goal.returns
returns c =
    shown_behind c.args.replies.now c.extend.new.self c.add_text.new.out c.push.new.self (codes "= ") (text_of record_rules c.args.item.now c.args.field) c.extend.ensures c.add_text.ensures.added c.push.ensures
