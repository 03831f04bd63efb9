use Rattle.std.proofs.Common.{◌≡◌, ℕ, false, ap, sym, ◌∙◌, arith}
use Rattle.ioc_values.specs.declared.value.Value.{Value}
use Rattle.ioc_dbcommon.specs.declared.link_field.StandingLink.{StandingLink}
use Rattle.ioc_record.specs.RecordRules.{RecordRules}
use Rattle.ioc_record.specs.Laws.{IsLawful}
use Rattle.ioc_store.specs.World.{World, Has, common_at, IsClosed}
use Rattle.ioc_ledger.specs.Requests.{None}
use Rattle.ioc_store.specs.Given.{Answers}
use Rattle.ioc_process.specs.Processing.{Done, request, processed, finished, wrote}
use Rattle.ioc_process.specs.Frames.{then_finished}
use Rattle.ioc_process.specs.Depth.{wrote-stays}
use Rattle.ioc_process.specs.Keeping.{wrote-keeps}
use Rattle.ioc_process.proofs.Writing.{written-vain, written-alone, written-requests}
use Rattle.ioc_process.proofs.FrameSteps.{then_finished-none, writing-calls}
use Rattle.ioc_process.proofs.FrameTurns.{turn_pushed, opens_pushed}
use Rattle.ioc_process.proofs.Ready.{StaysReady, ready_by, is_ready, turns_ready, takes_ready, turns_pushed}
use Rattle.ioc_process.proofs.finishing.write_record.Goals as goal

module _ {R : Type 0} (k : RecordRules R) (lawful : IsLawful k) where
  -- A write leaves the writing record ready.
  wrote-ready : {w v : World R} {s : ℕ} (t : StandingLink) (x : Value) → v ≡ (wrote k w s t x).world → Has w s → IsClosed k w → (common_at k w s).active ≡ false → Has w t.number
      → StaysReady k w v s 0
  wrote-ready {w = w} {s = s} t x is there closed inactive standing =
      ready_by k lawful is (wrote-keeps k lawful w closed s there t standing x) (wrote-stays k lawful w s t x) there closed inactive

  -- A write that requests nothing is followed by the end of the body.
  finishes-alone : (answers : Answers) (s : ℕ) {w : World R} {written : Done R} → written ≡ record { world = w; requests = None }
      → processed (then_finished k answers s written) ≡ processed (finished k (request k answers) w s)
  finishes-alone answers s {w = w} is = ap (λ d. processed (then_finished k answers s d)) is ∙ ap (λ d. processed d) (then_finished-none k lawful answers w s)

pub finish_with_fault-requires : goal.finish_with_fault-requires
finish_with_fault-requires g c =
    let ready = wrote-ready _ g.met.S.Record.RecordKind.lawful c.args.target c.args.value c.write_value.ensures.world c.requires.ready.there c.requires.ready.closed c.requires.ready.is_idle c.requires.standing in
    record { ready = is_ready _ ready c.requires.ready.room }

pub returns-in-InVain-clause-turn : goal.returns-in-InVain-clause-turn
returns-in-InVain-clause-turn g c = λ answers.
    let k = g.S.Record.RecordKind.rules in
    let done = wrote k (g.S.Store.world c.args.store.now) c.args.number c.args.target c.args.value in
    finishes-alone k g.met.S.Record.RecordKind.lawful answers c.args.number (written-vain k (request k answers) done c.args.number c.args.target (sym c.write_value.ensures.written ∙ c.in-InVain.is))
    ∙ (rw c.write_value.ensures.world at (c.finish_with_fault.ensures.turn answers))

pub finish-requires : goal.finish-requires
finish-requires g c =
    let ready = wrote-ready _ g.met.S.Record.RecordKind.lawful c.args.target c.args.value c.write_value.ensures.world c.requires.ready.there c.requires.ready.closed c.requires.ready.is_idle c.requires.standing in
    record { ready = is_ready _ ready c.requires.ready.room }

pub returns-in-InVain-clause-takes : goal.returns-in-InVain-clause-takes
returns-in-InVain-clause-takes g c =
    takes_ready _ (wrote-ready _ g.met.S.Record.RecordKind.lawful c.args.target c.args.value c.write_value.ensures.world c.requires.ready.there c.requires.ready.closed c.requires.ready.is_idle c.requires.standing) (omega arith) c.finish_with_fault.ensures.takes

pub open_frame-requires-clause-there : goal.open_frame-requires-clause-there
open_frame-requires-clause-there g c =
    (wrote-ready _ g.met.S.Record.RecordKind.lawful c.args.target c.args.value c.write_value.ensures.world c.requires.ready.there c.requires.ready.closed c.requires.ready.is_idle c.requires.standing).there

pub returns-in-Alone-clause-turn : goal.returns-in-Alone-clause-turn
returns-in-Alone-clause-turn g c = λ answers.
    let k = g.S.Record.RecordKind.rules in
    let done = wrote k (g.S.Store.world c.args.store.now) c.args.number c.args.target c.args.value in
    finishes-alone k g.met.S.Record.RecordKind.lawful answers c.args.number (written-alone k (request k answers) done c.args.number c.args.target (sym c.write_value.ensures.written ∙ c.in-Alone.is))
    ∙ (rw c.write_value.ensures.world at (c.finish.ensures.turn answers))

pub returns-in-AndRequests-clause-turn : goal.returns-in-AndRequests-clause-turn
returns-in-AndRequests-clause-turn g c = λ answers.
    let k = g.S.Record.RecordKind.rules in
    let lawful = g.met.S.Record.RecordKind.lawful in
    let w = g.S.Store.world c.args.store.now in
    let inactive = (wrote-stays k lawful w c.args.number c.args.target c.args.value).active ∙ c.requires.ready.is_idle in
    rw (c.open_frame.ensures.items, turn_pushed, c.open_frame.ensures.world, c.write_value.ensures.world)
    (ap (λ d. processed (then_finished k answers c.args.number d)) (written-requests k (request k answers) (wrote k w c.args.number c.args.target c.args.value) c.args.number c.args.target (sym c.write_value.ensures.written ∙ c.in-AndRequests.is))
    ∙ writing-calls k lawful answers (wrote k w c.args.number c.args.target c.args.value).world c.args.number c.args.target.number inactive)

pub returns-in-Alone-clause-takes : goal.returns-in-Alone-clause-takes
returns-in-Alone-clause-takes g c =
    takes_ready _ (wrote-ready _ g.met.S.Record.RecordKind.lawful c.args.target c.args.value c.write_value.ensures.world c.requires.ready.there c.requires.ready.closed c.requires.ready.is_idle c.requires.standing) (omega arith) c.finish.ensures.takes

pub returns-in-AndRequests-clause-takes : goal.returns-in-AndRequests-clause-takes
returns-in-AndRequests-clause-takes g c =
    let lawful = g.met.S.Record.RecordKind.lawful in
    let ready = wrote-ready _ lawful c.args.target c.args.value c.write_value.ensures.world c.requires.ready.there c.requires.ready.closed c.requires.ready.is_idle c.requires.standing in
    record {
      turns = turns_ready _ {most = 2} ready (omega arith) (turns_pushed _ lawful _ _ c.open_frame.ensures.world c.open_frame.ensures.items ready.there (ready.keeps.has _ c.requires.standing) ready.is_idle (omega arith));
      opens = opens_pushed _ _ _ c.open_frame.ensures.items;
      room = c.open_frame.ensures.room;
    }
