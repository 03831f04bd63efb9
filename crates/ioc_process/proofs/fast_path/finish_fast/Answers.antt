use Rattle.std.proofs.Common.{◌∙◌, sym, ap}
use Rattle.ioc_store.specs.World.{put}
use Rattle.ioc_store.specs.Showing.{showing}
use Rattle.ioc_process.proofs.OneLook.{showing_at, showing_on, showing_still, showing_has, rested_quietly}
use Rattle.ioc_process.proofs.fast_path.finish_fast.Goals as goal

pub returns-in-Named-clause-named : goal.returns-in-Named-clause-named
returns-in-Named-clause-named g c =
    sym (rw (c.in-Named.is, c.moment-moment.ensures, c.record_mut.ensures.value, ← showing_at _ (g.S.Store.world c.args.store.now) c.args.number) at c.show_record.ensures).1

pub returns-in-Done-clause-named : goal.returns-in-Done-clause-named
returns-in-Done-clause-named g c =
    sym (rw (c.in-Done.is, c.moment-moment.ensures, c.record_mut.ensures.value, ← showing_at _ (g.S.Store.world c.args.store.now) c.args.number) at c.show_record.ensures).1

pub returns-in-Rests-clause-named : goal.returns-in-Rests-clause-named
returns-in-Rests-clause-named g c =
    sym (rw (c.in-Rests.is, c.moment-moment.ensures, c.record_mut.ensures.value, ← showing_at _ (g.S.Store.world c.args.store.now) c.args.number) at c.show_record.ensures).1

pub returns-in-Named-clause-world : goal.returns-in-Named-clause-world
returns-in-Named-clause-world g c =
    let k = g.S.Record.RecordKind.rules in
    let w = g.S.Store.world c.args.store.now in
    let s = c.args.number in
    let is = rw (c.in-Named.is, c.moment-moment.ensures, c.record_mut.ensures.value, ← showing_at k w s) at c.show_record.ensures in
    g.met.S.Store.with_record_world c.args.store.now s _ c.requires ∙ showing_still k w s _ is.0

pub returns-in-Done-clause-world : goal.returns-in-Done-clause-world
returns-in-Done-clause-world g c =
    let k = g.S.Record.RecordKind.rules in
    let w = g.S.Store.world c.args.store.now in
    let s = c.args.number in
    let is = rw (c.in-Done.is, c.moment-moment.ensures, c.record_mut.ensures.value, ← showing_at k w s) at c.show_record.ensures in
    g.met.S.Store.with_record_world c.args.store.now s _ c.requires ∙ sym (showing_on k w s _) ∙ ap (put (showing k w s) s) is.0 ∙ rested_quietly k (showing k w s) s is.2 is.3

pub finish_request-requires : goal.finish_request-requires
finish_request-requires g c =
    let k = g.S.Record.RecordKind.rules in
    let w = g.S.Store.world c.args.store.now in
    let s = c.args.number in
    let is = rw (c.in-Rests.is, c.moment-moment.ensures, c.record_mut.ensures.value, ← showing_at k w s) at c.show_record.ensures in
    rw (g.met.S.Store.with_record_world c.args.store.now s _ c.requires, showing_still k w s _ is.0) (showing_has k w s c.requires)

pub returns-in-Rests-clause-world : goal.returns-in-Rests-clause-world
returns-in-Rests-clause-world g c =
    let k = g.S.Record.RecordKind.rules in
    let w = g.S.Store.world c.args.store.now in
    let s = c.args.number in
    let is = rw (c.in-Rests.is, c.moment-moment.ensures, c.record_mut.ensures.value, ← showing_at k w s) at c.show_record.ensures in
    rw (g.met.S.Store.with_record_world c.args.store.now s _ c.requires, showing_still k w s _ is.0) at c.finish_request.ensures.world
