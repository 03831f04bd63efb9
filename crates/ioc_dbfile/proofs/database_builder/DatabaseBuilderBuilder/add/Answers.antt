use Rattle.rec_types.specs.Record.{record_rules, new_record}
use Rattle.ioc_dbfile.proofs.Idling.{all-append, new-idle}
use Rattle.ioc_dbfile.proofs.database_builder.DatabaseBuilderBuilder.add.Goals as goal

pub invariant_of-self-in-Now : goal.invariant_of-self-in-Now
invariant_of-self-in-Now c =
    rw c.in_ok-push_new-in-Now.ensures.ok (all-append record_rules c.self.inside.records.items (new_record c.args.record_type c.in-Some.short) c.self.invariant (new-idle c.args.record_type c.in-Some.short))
