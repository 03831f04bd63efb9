use Rattle.std.proofs.Common.{◌≡◌, ℕ, false, refl, sym, ap, ◌∙◌, arith}
use Rattle.ioc_dbcommon.specs.Steps.{unblocked}
use Rattle.ioc_dbcommon.specs.declared.body.Got.TheVariants as got
use Rattle.ioc_dbcommon.specs.declared.body.Need.{Need}
use Rattle.ioc_dbcommon.specs.declared.body.Need.TheVariants as need
use Rattle.ioc_record.specs.RecordRules.{RecordRules}
use Rattle.ioc_record.specs.Laws.{IsLawful}
use Rattle.ioc_store.specs.Given.{Answers}
use Rattle.ioc_store.specs.World.{World, Has, at, common_at, changed, put, Keeps, IsClosed}
use Rattle.ioc_process.specs.Answering.{begins_same}
use Rattle.ioc_process.specs.Bodies.{output_stands}
use Rattle.ioc_process.specs.Depth.{stays_on, stays-changed, taken-stays}
use Rattle.ioc_process.specs.Keeping.{keeps-changed, keeps-taken, keeps_on}
use Rattle.ioc_process.specs.Looks.{Begins}
use Rattle.ioc_process.specs.Processing.{processed, request, body, completed, begun_idle}
use Rattle.ioc_process.proofs.FrameTurns.{opens_none}
use Rattle.ioc_process.proofs.FrameSteps.{begun-reads, begun-judged, judged-on, completed-taken}
use Rattle.ioc_process.proofs.Needs.{body-nothing, completed-nothing}
use Rattle.ioc_process.proofs.Ready.{StaysReady, ready_by, is_ready, turns_ready}
use Rattle.ioc_process.proofs.process.begin_idle.Goals as goal

module _ {R : Type 0} (k : RecordRules R) (lawful : IsLawful k) (w : World R) (s : ℕ) where
  -- The record was found idle.
  abbrev found : World R
  found = changed k w s unblocked

  -- The record has taken an empty input.
  abbrev took : World R
  took = put found s (k.taken (at k found s) got.Nothing)

  module _ (there : Has w s) (closed : IsClosed k w) (inactive : (common_at k w s).active ≡ false) where
    found-keeps : Keeps k w found
    found-keeps = keeps-changed k lawful w s there unblocked (λ _. (refl, refl))

    took-keeps : Keeps k found took
    took-keeps = keeps-taken k lawful found s (found-keeps.has _ there) got.Nothing

    found-ready : {v : World R} → v ≡ found → StaysReady k w v s 0
    found-ready is = ready_by k lawful is found-keeps (stays-changed k lawful w s unblocked refl) there closed inactive

    took-ready : {v : World R} → v ≡ took → StaysReady k w v s 0
    took-ready is =
        let stays = stays_on k (stays-changed k lawful w s unblocked refl) (taken-stays k lawful found s got.Nothing) in
        ready_by k lawful is (keeps_on k found-keeps took-keeps) stays there closed inactive

  -- If SDIS is no link and the record isn't disabled, its body begins.
  begun-body : (answers : Answers) {need : Need} → Begins k (at k found s) need → begun_idle k answers (request k answers) w s ≡ processed (body k answers (request k answers) found s)
  begun-body answers begins = begun-judged k lawful answers w found s refl begins.unused ∙ judged-on k lawful answers found s begins.on

  begun-nothing : (answers : Answers) → Begins k (at k found s) need.Nothing → begun_idle k answers (request k answers) w s ≡ processed (completed k answers (request k answers) found s got.Nothing)
  begun-nothing answers begins = begun-body answers begins ∙ ap (λ d. processed d) (body-nothing k lawful answers found s begins.needs)

pub begin_with_disable-requires : goal.begin_with_disable-requires
begin_with_disable-requires g c =
    let ready = found-ready _ g.met.S.Record.RecordKind.lawful _ _ c.requires.there c.requires.closed c.requires.is_idle (rw c.in-ReadsDisable.is at c.begin_fast.ensures.opened).0 in
    record { ready = is_ready _ ready c.requires.room }

pub begin_wanted-requires : goal.begin_wanted-requires
begin_wanted-requires g c =
    let is = rw c.in-ReadsLink.is at c.begin_fast.ensures.opened in
    let ready = found-ready _ g.met.S.Record.RecordKind.lawful _ _ c.requires.there c.requires.closed c.requires.is_idle is.0 in
    record { ready = is_ready _ ready c.requires.room; wants = rw is.0 is.1.needs }

pub leave_alone-requires : goal.leave_alone-requires
leave_alone-requires g c =
    let is = rw c.in-Disabled.is at c.begin_fast.ensures.opened in
    let ready = found-ready _ g.met.S.Record.RecordKind.lawful _ _ c.requires.there c.requires.closed c.requires.is_idle is.0 in
    record { there = ready.there; off = rw is.0 is.2 }

pub begin_asking-requires : goal.begin_asking-requires
begin_asking-requires g c =
    let is = rw c.in-ReadsDevice.is at c.begin_fast.ensures.opened in
    let ready = found-ready _ g.met.S.Record.RecordKind.lawful _ _ c.requires.there c.requires.closed c.requires.is_idle is.0 in
    record { ready = is_ready _ ready c.requires.room; wants = rw is.0 is.1.needs }

pub begin_inputs-requires : goal.begin_inputs-requires
begin_inputs-requires g c =
    let is = rw c.in-ReadsInputs.is at c.begin_fast.ensures.opened in
    let ready = found-ready _ g.met.S.Record.RecordKind.lawful _ _ c.requires.there c.requires.closed c.requires.is_idle is.0 in
    record { ready = is_ready _ ready c.requires.room; wants = rw is.0 is.1.needs }

pub finish-requires : goal.finish-requires
finish-requires g c =
    let ready = took-ready _ g.met.S.Record.RecordKind.lawful _ _ c.requires.there c.requires.closed c.requires.is_idle (rw c.in-Took.is at c.begin_fast.ensures.opened).0 in
    record { ready = is_ready _ ready c.requires.room }

pub returns-in-ReadsLink : goal.returns-in-ReadsLink
returns-in-ReadsLink g c =
    let lawful = g.met.S.Record.RecordKind.lawful in
    let is = rw c.in-ReadsLink.is at c.begin_fast.ensures.opened in
    let turns = turns_ready _ (found-ready _ lawful _ _ c.requires.there c.requires.closed c.requires.is_idle is.0) (omega arith) c.begin_wanted.ensures.takes.turns in
    record { turn = λ answers begins. begun-body _ lawful _ _ answers is.1 ∙ rw is.0 at (c.begin_wanted.ensures.turn answers begins); given = rw c.begin_fast.ensures.given at c.begin_wanted.ensures.given; takes = record { turns = turns; opens = c.begin_wanted.ensures.takes.opens; room = c.begin_wanted.ensures.takes.room } }

pub put_out-requires : goal.put_out-requires
put_out-requires g c =
    let lawful = g.met.S.Record.RecordKind.lawful in
    let is = rw c.in-PutsOut.is at c.begin_fast.ensures.opened in
    let ready = took-ready _ lawful _ _ c.requires.there c.requires.closed c.requires.is_idle is.0 in
    let stands = output_stands _ lawful _ c.args.number got.Nothing (found-ready _ lawful _ _ c.requires.there c.requires.closed c.requires.is_idle refl).closed in
    record {
      ready = is_ready _ ready c.requires.room;
      standing = λ t v wanted. rw is.0 ((took-keeps _ lawful _ _ c.requires.there c.requires.closed c.requires.is_idle).has _ (stands t v (sym is.2 ∙ wanted)));
    }

pub returns-in-ReadsDevice : goal.returns-in-ReadsDevice
returns-in-ReadsDevice g c =
    let lawful = g.met.S.Record.RecordKind.lawful in
    let is = rw c.in-ReadsDevice.is at c.begin_fast.ensures.opened in
    let turns = turns_ready _ (found-ready _ lawful _ _ c.requires.there c.requires.closed c.requires.is_idle is.0) (omega arith) c.begin_asking.ensures.takes.turns in
    record { turn = λ answers begins. begun-body _ lawful _ _ answers is.1 ∙ rw is.0 at (c.begin_asking.ensures.turn answers begins); given = rw c.begin_fast.ensures.given at c.begin_asking.ensures.given; takes = record { turns = turns; opens = c.begin_asking.ensures.takes.opens; room = c.begin_asking.ensures.takes.room } }

pub returns-in-ReadsInputs : goal.returns-in-ReadsInputs
returns-in-ReadsInputs g c =
    let lawful = g.met.S.Record.RecordKind.lawful in
    let is = rw c.in-ReadsInputs.is at c.begin_fast.ensures.opened in
    let turns = turns_ready _ (found-ready _ lawful _ _ c.requires.there c.requires.closed c.requires.is_idle is.0) (omega arith) c.begin_inputs.ensures.takes.turns in
    record { turn = λ answers begins. begun-body _ lawful _ _ answers is.1 ∙ rw is.0 at (c.begin_inputs.ensures.turn answers begins); given = rw c.begin_fast.ensures.given at c.begin_inputs.ensures.given; takes = record { turns = turns; opens = c.begin_inputs.ensures.takes.opens; room = c.begin_inputs.ensures.takes.room } }

pub returns-in-ReadsDisable : goal.returns-in-ReadsDisable
returns-in-ReadsDisable g c =
    let lawful = g.met.S.Record.RecordKind.lawful in
    let is = rw c.in-ReadsDisable.is at c.begin_fast.ensures.opened in
    let turns = turns_ready _ (found-ready _ lawful _ _ c.requires.there c.requires.closed c.requires.is_idle is.0) (omega arith) c.begin_with_disable.ensures.takes.turns in
    record { turn = λ answers begins. begun-reads _ lawful answers _ _ _ _ is.0 refl ∙ c.begin_with_disable.ensures.turn answers begins; given = rw c.begin_fast.ensures.given at c.begin_with_disable.ensures.given; takes = record { turns = turns; opens = c.begin_with_disable.ensures.takes.opens; room = c.begin_with_disable.ensures.takes.room } }

pub returns-in-Disabled-clause-turn : goal.returns-in-Disabled-clause-turn
returns-in-Disabled-clause-turn g c = λ answers begins.
    let is = rw c.in-Disabled.is at c.begin_fast.ensures.opened in
    begun-judged _ g.met.S.Record.RecordKind.lawful answers _ _ _ refl is.1 ∙ rw c.leave_alone.ensures.ends (rw is.0 at (c.leave_alone.ensures.turn answers))

pub returns-in-Disabled-clause-given : goal.returns-in-Disabled-clause-given
returns-in-Disabled-clause-given g c = begins_same (c.leave_alone.ensures.given ∙ c.begin_fast.ensures.given)

pub returns-in-Disabled-clause-takes : goal.returns-in-Disabled-clause-takes
returns-in-Disabled-clause-takes g c =
    let is = rw c.in-Disabled.is at c.begin_fast.ensures.opened in
    rw c.leave_alone.ensures.ends (record {
      turns = turns_ready _ (found-ready _ g.met.S.Record.RecordKind.lawful _ _ c.requires.there c.requires.closed c.requires.is_idle is.0) (omega arith) c.leave_alone.ensures.turns;
      opens = opens_none _ _ _ refl;
      room = refl;
    })

pub returns-in-Took : goal.returns-in-Took
returns-in-Took g c =
    let lawful = g.met.S.Record.RecordKind.lawful in
    let is = rw c.in-Took.is at c.begin_fast.ensures.opened in
    let turns = turns_ready _ (took-ready _ lawful _ _ c.requires.there c.requires.closed c.requires.is_idle is.0) (omega arith) c.finish.ensures.takes.turns in
    record { turn = λ answers begins. begun-nothing _ lawful _ _ answers is.1 ∙ completed-nothing _ lawful answers _ _ got.Nothing is.2 (rw is.0 at (c.finish.ensures.turn answers)); given = begins_same (c.finish.ensures.given ∙ c.begin_fast.ensures.given); takes = record { turns = turns; opens = c.finish.ensures.takes.opens; room = c.finish.ensures.takes.room } }

pub returns-in-PutsOut : goal.returns-in-PutsOut
returns-in-PutsOut g c =
    let lawful = g.met.S.Record.RecordKind.lawful in
    let is = rw c.in-PutsOut.is at c.begin_fast.ensures.opened in
    let turns = turns_ready _ (took-ready _ lawful _ _ c.requires.there c.requires.closed c.requires.is_idle is.0) (omega arith) c.put_out.ensures.takes.turns in
    record { turn = λ answers begins. begun-nothing _ lawful _ _ answers is.1 ∙ completed-taken _ lawful answers _ _ got.Nothing _ (sym is.2) (rw is.0 at (c.put_out.ensures.turn answers begins)); given = rw c.begin_fast.ensures.given at c.put_out.ensures.given; takes = record { turns = turns; opens = c.put_out.ensures.takes.opens; room = c.put_out.ensures.takes.room } }
