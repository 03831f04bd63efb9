use Rattle.std.proofs.Common.{refl}
use Rattle.ioc_process.specs.Keeping.{has_run_kept}
use Rattle.ioc_events.proofs.events.do_alone.Goals as goal

pub returns-in-Cancel-clause-done : goal.returns-in-Cancel-clause-done
returns-in-Cancel-clause-done g c = λ answers begins. rw (c.in-Cancel.is, c.cancel.ensures.done answers) (record { world = refl; reply = refl; tally = refl })

pub returns-in-Cancel-clause-run : goal.returns-in-Cancel-clause-run
returns-in-Cancel-clause-run g c = has_run_kept g.S.Record.RecordKind.rules c.cancel.ensures.keeps c.cancel.ensures.given c.requires.empty
