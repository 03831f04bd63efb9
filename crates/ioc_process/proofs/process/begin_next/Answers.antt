use Rattle.std.proofs.Common.{ap, ◌∙◌, sym}
use Rattle.std.specs.Option.{option_copied}
use Rattle.ioc_process.specs.Frames.{called_by}
use Rattle.ioc_process.proofs.FrameTurns.{last_is, one_stands}
use Rattle.ioc_process.proofs.process.begin_next.Goals as goal

pub begin_called-requires : goal.begin_called-requires
begin_called-requires g c =
    let at = rw c.deref.ensures.value at (sym c.last.ensures.value ∙ ap option_copied c.in-Some.is) in
    let stands = one_stands (g.S.Store.world c.args.store.now) c.args.frames.now.items _ c.in-Some.frame.now c.requires.stands at in
    record { there = rw c.requested-target.ensures stands.requested_there; source_there = stands.source_there; closed = c.requires.closed; room = c.requires.room }

pub returns-clause-turn : goal.returns-clause-turn
returns-clause-turn g c = λ answers begins.
    let at = rw c.deref.ensures.value at (sym c.last.ensures.value ∙ ap option_copied c.in-Some.is) in
    ap (λ frame. called_by g.S.Record.RecordKind.rules answers (g.S.Store.world c.args.store.now) frame) (last_is c.args.frames.now.items c.in-Some.frame.now at)
    ∙ (rw c.requested-target.ensures at (c.begin_called.ensures.turn answers begins))
