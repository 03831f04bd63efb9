use Rattle.ioc_set.specs.SetStore.{world_of}
use Rattle.ioc_set.proofs.PartLaws.{parts, comes_to}
use Rattle.ioc_set.proofs.lock_set.LockSet.part.Goals as goal

pub returns-clause-apart : goal.returns-clause-apart
returns-clause-apart g c =
    parts g.K.RecordKind.rules c.args.self.now c.args.change.moment c.args.change.number c.args.change.field c.args.change.link g.met.K.RecordKind.lawful
    c.split.new.self c.in_ok-rest.rest c.rescan.new.self c.in_ok-rest.ensures.apart c.device_text-before.result c.device_text-before.ensures (world_of c.rescan.new.buffers.store)
    c.rescan.ensures.left c.rescan.ensures.held

pub returns-clause-left : goal.returns-clause-left
returns-clause-left g c =
    comes_to g.K.RecordKind.rules c.args.self.now c.args.change.moment c.args.change.number c.args.change.field c.args.change.link g.met.K.RecordKind.lawful
    c.split.new.self c.in_ok-rest.rest c.rescan.new.self c.in_ok-rest.ensures.apart c.device_text-before.result c.device_text-before.ensures (world_of c.rescan.new.buffers.store)
    c.rescan.ensures.left c.rescan.ensures.held
