use Rattle.std.proofs.Common.{sym, ◌∙◌}
use Rattle.ioc_record.specs.Given.{input_given}
use Rattle.ioc_store.specs.Worlds.{has-put}
use Rattle.ioc_events.proofs.Putting.{put-missing, put-refused, put-goes_on, put-done, put-run}
use Rattle.ioc_events.proofs.alone.put.Goals as goal

pub returns-then-not-has : goal.returns-then-not-has
returns-then-not-has g c =
    let is = put-missing g.S.Record.RecordKind.rules (g.S.Store.world c.args.store.now) c.args.number c.args.field (input_given c.args.given) c.args.tally.now c.requires (sym c.has.ensures ∙ c.if-not-has.true) in
    record { done = is.0; run = is.1 }

pub rescan-requires : goal.rescan-requires
rescan-requires g c = rw c.in-Ok.ensures.stored (has-put g.S.Record.RecordKind.rules (g.S.Store.world c.args.store.now) c.args.number c.args.number _ (sym c.has.ensures ∙ c.if-not-has.false))

pub process_after_put-requires : goal.process_after_put-requires
process_after_put-requires g c =
    rw (c.rescan.ensures.world, c.in-Ok.ensures.stored)
    (put-goes_on g.S.Record.RecordKind.rules (g.S.Store.world c.args.store.now) c.args.number c.args.field (input_given c.args.given) g.met.S.Record.RecordKind.lawful _ (sym c.has.ensures ∙ c.if-not-has.false) c.in-Ok.ensures.ok c.requires)

pub returns-in-Ok-clause-done : goal.returns-in-Ok-clause-done
returns-in-Ok-clause-done g c = λ answers begins.
    rw c.of.ensures (put-done g.S.Record.RecordKind.rules (g.S.Store.world c.args.store.now) c.args.number c.args.field (input_given c.args.given) g.met.S.Record.RecordKind.lawful _ (sym c.has.ensures ∙ c.if-not-has.false) c.in-Ok.ensures.ok answers _ _ _ _ (rw (c.rescan.ensures.world, c.in-Ok.ensures.stored) at (c.process_after_put.ensures.after answers begins)))

pub returns-in-Ok-clause-run : goal.returns-in-Ok-clause-run
returns-in-Ok-clause-run g c =
    put-run g.S.Record.RecordKind.rules (g.S.Store.world c.args.store.now) c.args.number c.args.field (input_given c.args.given) g.met.S.Record.RecordKind.lawful _ (sym c.has.ensures ∙ c.if-not-has.false) c.in-Ok.ensures.ok
    (rw (c.rescan.ensures.world, c.in-Ok.ensures.stored, c.rescan.ensures.given, c.in-Ok.ensures.given) at c.process_after_put.ensures.run)

pub returns-in-Err : goal.returns-in-Err
returns-in-Err g c =
    let is = put-refused g.S.Record.RecordKind.rules (g.S.Store.world c.args.store.now) c.args.number c.args.field (input_given c.args.given) c.args.tally.now c.in-Err.refused c.requires (sym c.has.ensures ∙ c.if-not-has.false) c.in-Err.ensures.err in
    rw (c.in-Err.ensures.same, c.in-Err.ensures.given) (record { done = is.0; run = is.1 })
