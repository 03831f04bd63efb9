use Rattle.ioc_journaled_set.proofs.Serving.{ordinary_on}
use Rattle.ioc_journaled_set.proofs.journaled_set.JournaledSet.serve_unwatched.Goals as goal

pub serve_counted-requires-clause-on_record : goal.serve_counted-requires-clause-on_record
serve_counted-requires-clause-on_record g c = ordinary_on c.args.event.now c.requires.ordinary
