use Rattle.std.proofs.Common.{◌≡◌, ℕ, Bool, true, refl, ap, ◌∙◌, arith}
use Rattle.ioc_dbcommon.specs.Steps.{with_active}
use Rattle.ioc_ledger.specs.declared.outcome.Outcome.TheVariants.{Processed}
use Rattle.ioc_record.specs.RecordRules.{RecordRules}
use Rattle.ioc_store.specs.declared.frames.ResumePoint.{ResumePoint}
use Rattle.ioc_store.specs.World.{World, changed}
use Rattle.ioc_process.specs.Frames.{is_done_at, went_on, after_turn}
use Rattle.ioc_process.specs.Keeping.{keeps-active, keeps_on}
use Rattle.ioc_process.specs.Answering.{begins_same}
use Rattle.ioc_process.proofs.FrameSteps.{rested-keeps, twice-rested}
use Rattle.ioc_process.proofs.Ready.{ready_again, is_ready, turns_ready}
use Rattle.ioc_process.proofs.Turning.{turns_ended}
use Rattle.ioc_process.proofs.process.go_on.Goals as goal

-- The record is active again as its point says.
back : {R : Type 0} (k : RecordRules R) (w : World R) (s : ℕ) {v : World R} {active : Bool} {place point : ResumePoint} → v ≡ changed k w s (with_active active) → active ≡ is_done_at place → place ≡ point
    → v ≡ changed k w s (with_active (is_done_at point))
back k w s is done at = is ∙ ap (λ (b : Bool). changed k w s (with_active b)) (done ∙ ap is_done_at at)

pub take_disable-requires : goal.take_disable-requires
take_disable-requires g c =
    let again = back _ _ _ c.set_active.ensures.world c.is_done_at.ensures c.in-ReadingDisable.is in
    let ready = ready_again _ g.met.S.Record.RecordKind.lawful again c.requires.stands.source_there c.requires.closed in
    record { ready = is_ready _ ready c.requires.room; standing = ready.keeps.has _ (rw c.in-ReadingDisable.is at c.requires.stands.requested_there) }

pub returns-in-ReadingDisable : goal.returns-in-ReadingDisable
unfolding went_on
returns-in-ReadingDisable g c =
    let again = back _ _ _ c.set_active.ensures.world c.is_done_at.ensures c.in-ReadingDisable.is in
    let ready = ready_again _ g.met.S.Record.RecordKind.lawful again c.requires.stands.source_there c.requires.closed in
    let turns = turns_ready _ ready (omega arith) c.take_disable.ensures.takes.turns in
    record { turn = λ answers begins. rw (c.in-ReadingDisable.is, ← again) (c.take_disable.ensures.turn answers begins); given = rw c.set_active.ensures.given at c.take_disable.ensures.given; turns = rw c.in-ReadingDisable.is turns; opens = c.take_disable.ensures.takes.opens; room = c.take_disable.ensures.takes.room }

pub take_value-requires : goal.take_value-requires
take_value-requires g c =
    let again = back _ _ _ c.set_active.ensures.world c.is_done_at.ensures c.in-Reading.is in
    let ready = ready_again _ g.met.S.Record.RecordKind.lawful again c.requires.stands.source_there c.requires.closed in
    record { ready = is_ready _ ready c.requires.room; standing = ready.keeps.has _ (rw c.in-Reading.is at c.requires.stands.requested_there) }

pub returns-in-Reading : goal.returns-in-Reading
unfolding went_on
returns-in-Reading g c =
    let again = back _ _ _ c.set_active.ensures.world c.is_done_at.ensures c.in-Reading.is in
    let ready = ready_again _ g.met.S.Record.RecordKind.lawful again c.requires.stands.source_there c.requires.closed in
    let turns = turns_ready _ ready (omega arith) c.take_value.ensures.takes.turns in
    record { turn = λ answers begins. rw (c.in-Reading.is, ← again) (c.take_value.ensures.turn answers begins); given = rw c.set_active.ensures.given at c.take_value.ensures.given; turns = rw c.in-Reading.is turns; opens = c.take_value.ensures.takes.opens; room = c.take_value.ensures.takes.room }

pub choose-requires : goal.choose-requires
choose-requires g c =
    let again = back _ _ _ c.set_active.ensures.world c.is_done_at.ensures c.in-Choosing.is in
    let ready = ready_again _ g.met.S.Record.RecordKind.lawful again c.requires.stands.source_there c.requires.closed in
    record { ready = is_ready _ ready c.requires.room; standing = ready.keeps.has _ (rw c.in-Choosing.is at c.requires.stands.requested_there) }

pub returns-in-Choosing : goal.returns-in-Choosing
unfolding went_on
returns-in-Choosing g c =
    let again = back _ _ _ c.set_active.ensures.world c.is_done_at.ensures c.in-Choosing.is in
    let ready = ready_again _ g.met.S.Record.RecordKind.lawful again c.requires.stands.source_there c.requires.closed in
    let turns = turns_ready _ ready (omega arith) c.choose.ensures.takes.turns in
    record { turn = λ answers begins. rw (c.in-Choosing.is, ← again) (c.choose.ensures.turn answers begins); given = rw c.set_active.ensures.given at c.choose.ensures.given; turns = rw c.in-Choosing.is turns; opens = c.choose.ensures.takes.opens; room = c.choose.ensures.takes.room }

pub go_on_reading-requires : goal.go_on_reading-requires
go_on_reading-requires g c =
    let again = back _ _ _ c.set_active.ensures.world c.is_done_at.ensures c.in-ReadingEach.is in
    let ready = ready_again _ g.met.S.Record.RecordKind.lawful again c.requires.stands.source_there c.requires.closed in
    record { ready = is_ready _ ready c.requires.room; standing = ready.keeps.has _ (rw c.in-ReadingEach.is at c.requires.stands.requested_there) }

pub returns-in-ReadingEach : goal.returns-in-ReadingEach
unfolding went_on
returns-in-ReadingEach g c =
    let again = back _ _ _ c.set_active.ensures.world c.is_done_at.ensures c.in-ReadingEach.is in
    let ready = ready_again _ g.met.S.Record.RecordKind.lawful again c.requires.stands.source_there c.requires.closed in
    let turns = turns_ready _ ready (omega arith) c.go_on_reading.ensures.takes.turns in
    record { turn = λ answers begins. rw (c.in-ReadingEach.is, ← again) (c.go_on_reading.ensures.turn answers begins); given = rw c.set_active.ensures.given at c.go_on_reading.ensures.given; turns = rw c.in-ReadingEach.is turns; opens = c.go_on_reading.ensures.takes.opens; room = c.go_on_reading.ensures.takes.room }

pub finish-requires : goal.finish-requires
finish-requires g c =
    let again = back _ _ _ c.set_active.ensures.world c.is_done_at.ensures c.in-Writing.is in
    let ready = ready_again _ g.met.S.Record.RecordKind.lawful again c.requires.stands.source_there c.requires.closed in
    record { ready = is_ready _ ready c.requires.room }

pub returns-in-Writing : goal.returns-in-Writing
unfolding went_on
returns-in-Writing g c =
    let again = back _ _ _ c.set_active.ensures.world c.is_done_at.ensures c.in-Writing.is in
    let ready = ready_again _ g.met.S.Record.RecordKind.lawful again c.requires.stands.source_there c.requires.closed in
    let turns = turns_ready _ ready (omega arith) c.finish.ensures.takes.turns in
    record { turn = λ answers begins. rw (c.in-Writing.is, ← again) (c.finish.ensures.turn answers); given = begins_same (c.finish.ensures.given ∙ c.set_active.ensures.given); turns = rw c.in-Writing.is turns; opens = c.finish.ensures.takes.opens; room = c.finish.ensures.takes.room }

pub follow_each-requires : goal.follow_each-requires
follow_each-requires g c =
    let again = back _ _ _ c.set_active.ensures.world c.is_done_at.ensures c.in-FollowingEach.is in
    let ready = ready_again _ g.met.S.Record.RecordKind.lawful again c.requires.stands.source_there c.requires.closed in
    record { ready = is_ready _ ready c.requires.room }

pub returns-in-FollowingEach : goal.returns-in-FollowingEach
unfolding went_on
returns-in-FollowingEach g c =
    let again = back _ _ _ c.set_active.ensures.world c.is_done_at.ensures c.in-FollowingEach.is in
    let ready = ready_again _ g.met.S.Record.RecordKind.lawful again c.requires.stands.source_there c.requires.closed in
    let turns = turns_ready _ ready (omega arith) c.follow_each.ensures.takes.turns in
    record { turn = λ answers begins. rw (c.in-FollowingEach.is, ← again) (c.follow_each.ensures.turn answers); given = begins_same (c.follow_each.ensures.given ∙ c.set_active.ensures.given); turns = rw c.in-FollowingEach.is turns; opens = c.follow_each.ensures.takes.opens; room = c.follow_each.ensures.takes.room }

pub finish_request-requires : goal.finish_request-requires
finish_request-requires g c =
    let again = back _ _ _ c.set_active.ensures.world c.is_done_at.ensures c.in-Following.is in
    rw again ((keeps-active _ g.met.S.Record.RecordKind.lawful (g.S.Store.world c.args.store.now) c.args.frame.source c.requires.stands.source_there true).has _ c.requires.stands.source_there)

pub returns-in-Following-clause-turn : goal.returns-in-Following-clause-turn
unfolding went_on after_turn
returns-in-Following-clause-turn g c = λ answers begins.
    let again = back _ _ _ c.set_active.ensures.world c.is_done_at.ensures c.in-Following.is in
    rw (c.in-Following.is, c.finish_request.ensures.world, again) refl

pub returns-in-Following-clause-given : goal.returns-in-Following-clause-given
returns-in-Following-clause-given g c = begins_same (c.finish_request.ensures.given ∙ c.set_active.ensures.given)

pub returns-in-Following-clause-turns : goal.returns-in-Following-clause-turns
returns-in-Following-clause-turns g c =
    let k = g.S.Record.RecordKind.rules in
    let lawful = g.met.S.Record.RecordKind.lawful in
    let w = g.S.Store.world c.args.store.now in
    let first = keeps-active k lawful w c.args.frame.source c.requires.stands.source_there true in
    let again = back _ _ _ c.set_active.ensures.world c.is_done_at.ensures c.in-Following.is in
    rw (c.finish_request.ensures.world, again)
    (turns_ended k (keeps_on k first (rested-keeps k lawful _ c.args.frame.source (first.has _ c.requires.stands.source_there))) (omega (arith, twice-rested k lawful w c.args.frame.source)) Processed)
