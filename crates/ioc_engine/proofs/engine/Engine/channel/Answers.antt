use Rattle.std.proofs.Common.{ℕ, ap, ◌∙◌, subst}
use Rattle.ioc_engine.specs.declared.lookup.Lookup.{Lookup}
use Rattle.ioc_engine.specs.Channels.{channel_of}
use Rattle.ioc_engine.specs.Types.{AreTypesOf}
use Rattle.ioc_engine.proofs.LoadedTypes.{channel_known}
use Rattle.ioc_engine.proofs.engine.Engine.channel.Goals as goal

pub returns-clause-known : goal.returns-clause-known
returns-clause-known g c =
    let self = c.args.self.now in
    let look = self.lookup in
    let types = subst (λ (n : ℕ). AreTypesOf g.B.JournalName.base n look.types.items) self.counted c.get.ensures.types in
    channel_known g.B.JournalName.base self.core.count look.types.items types look.names c.args.text.now c.channel.result (c.channel.ensures ∙ ap (λ (l : Lookup). channel_of l.names l.types.items c.args.text.now) c.get.ensures.table)
