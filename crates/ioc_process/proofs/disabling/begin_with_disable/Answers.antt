use Rattle.ioc_process.specs.Bodies.{disable_stands}
use Rattle.ioc_process.proofs.disabling.begin_with_disable.Goals as goal

pub read_disable-requires : goal.read_disable-requires
read_disable-requires g c = record {
  ready = c.requires.ready;
  standing = rw (c.in_use-link.ensures, c.common.ensures) (disable_stands g.S.Record.RecordKind.rules g.met.S.Record.RecordKind.lawful _ c.args.number c.requires.ready.closed);
}

pub returns-clause-turn : goal.returns-clause-turn
returns-clause-turn g c = λ answers begins.
    rw (rw c.common.ensures at c.in_use-link.ensures) at (c.read_disable.ensures.turn answers begins)
