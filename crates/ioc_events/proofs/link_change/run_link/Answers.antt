use Rattle.std.proofs.Common.{sym, ◌∙◌}
use Rattle.ioc_store.specs.Worlds.{has-put}
use Rattle.ioc_events.proofs.link_change.run_link.Goals as goal

pub rewire-requires : goal.rewire-requires
rewire-requires g c = rw c.set_link.ensures.world (has-put g.S.Record.RecordKind.rules (g.S.Store.world c.args.store.now) c.args.number c.args.number _ (sym c.has.ensures ∙ c.if-not-has.false))
