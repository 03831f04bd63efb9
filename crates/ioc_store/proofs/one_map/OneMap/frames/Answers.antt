use Rattle.std.proofs.Common.{arith}
use Rattle.ioc_store.specs.OneMapLaws.{len-numbered}
use Rattle.ioc_store.proofs.one_map.OneMap.frames.Goals as goal

pub returns-clause-room : goal.returns-clause-room
returns-clause-room g c = omega (arith, len-numbered c.args.self.now.records.items, c.in_ok-frames.ensures.exact, c.len.ensures, c.args.self.now.records.ok.0)
