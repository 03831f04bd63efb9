use Rattle.std.proofs.Common.{◌≡◌, ℕ, false, arith}
use Rattle.ioc_dbcommon.specs.Steps.{disable_kind}
use Rattle.ioc_dbcommon.specs.declared.link_field.StandingLink.{StandingLink}
use Rattle.ioc_record.specs.RecordRules.{RecordRules}
use Rattle.ioc_record.specs.Laws.{IsLawful}
use Rattle.ioc_store.specs.Rests.{disable_came}
use Rattle.ioc_store.specs.World.{World, Has, common_at, IsClosed}
use Rattle.ioc_process.specs.Processing.{read_at}
use Rattle.ioc_process.specs.Depth.{stays_on, disable_came-stays}
use Rattle.ioc_process.specs.Keeping.{keeps_on, disable_came-keeps}
use Rattle.ioc_process.proofs.FrameSteps.{read_at-stays, read_at-keeps, came_read, came-judged}
use Rattle.ioc_process.proofs.Ready.{StaysReady, ready_by, is_ready, takes_ready}
use Rattle.ioc_process.proofs.disabling.take_disable.Goals as goal

module _ {R : Type 0} (k : RecordRules R) (lawful : IsLawful k) (w : World R) (s : ℕ) (t : StandingLink) where
  -- SDIS has taken what was read, and the record is ready.
  taken-ready : {v : World R} → let read = read_at k (λ _. disable_kind) w s t in v ≡ disable_came k read.world s read.came
      → IsClosed k w → Has w s → (common_at k w s).active ≡ false → Has w t.number → StaysReady k w v s 0
  taken-ready is closed there inactive standing =
      let read = read_at k (λ _. disable_kind) w s t in
      let first = read_at-keeps k lawful (λ _. disable_kind) w s t closed there standing in
      let keeps = keeps_on k first (disable_came-keeps k lawful read.world s (first.has _ there) read.came) in
      let stays = stays_on k (read_at-stays k lawful (λ _. disable_kind) w s t) (disable_came-stays k lawful read.world s read.came) in
      ready_by k lawful is keeps stays there closed inactive

pub take_disable_input-requires : goal.take_disable_input-requires
take_disable_input-requires g c =
    let k = g.S.Record.RecordKind.rules in
    let lawful = g.met.S.Record.RecordKind.lawful in
    let w = g.S.Store.world c.args.store.now in
    let came = came_read k lawful (λ _. disable_kind) w _ c.args.number c.args.target _ _ c.disable_kind.ensures c.read_value-got.ensures.read in
    rw came.world ((read_at-keeps k lawful (λ _. disable_kind) w c.args.number c.args.target c.requires.ready.closed c.requires.ready.there c.requires.standing).has _ c.requires.ready.there)

pub judge-requires : goal.judge-requires
judge-requires g c =
    let k = g.S.Record.RecordKind.rules in
    let lawful = g.met.S.Record.RecordKind.lawful in
    let came = came_read k lawful (λ _. disable_kind) (g.S.Store.world c.args.store.now) _ c.args.number c.args.target _ _ c.disable_kind.ensures c.read_value-got.ensures.read in
    let taken = rw (came.world, came.came) at c.take_disable_input.ensures.world in
    let ready = taken-ready k lawful _ c.args.number c.args.target taken c.requires.ready.closed c.requires.ready.there c.requires.ready.is_idle c.requires.standing in
    record { ready = is_ready k ready c.requires.ready.room }

pub returns-clause-turn : goal.returns-clause-turn
returns-clause-turn g c = λ answers begins.
    let k = g.S.Record.RecordKind.rules in
    let w = g.S.Store.world c.args.store.now in
    let read = read_at k (λ _. disable_kind) w c.args.number c.args.target in
    let came = came_read k g.met.S.Record.RecordKind.lawful (λ _. disable_kind) w _ c.args.number c.args.target _ _ c.disable_kind.ensures c.read_value-got.ensures.read in
    came-judged k g.met.S.Record.RecordKind.lawful answers _ c.args.number _ read _ came (rw c.take_disable_input.ensures.world at (c.judge.ensures.turn answers begins))

pub returns-clause-given : goal.returns-clause-given
returns-clause-given g c = rw (c.take_disable_input.ensures.given, c.read_value-got.ensures.given) at c.judge.ensures.given

pub returns-clause-takes : goal.returns-clause-takes
returns-clause-takes g c =
    let lawful = g.met.S.Record.RecordKind.lawful in
    let came = came_read _ lawful (λ _. disable_kind) (g.S.Store.world c.args.store.now) _ c.args.number c.args.target _ _ c.disable_kind.ensures c.read_value-got.ensures.read in
    let taken = rw (came.world, came.came) at c.take_disable_input.ensures.world in
    takes_ready _ (taken-ready _ lawful _ c.args.number c.args.target taken c.requires.ready.closed c.requires.ready.there c.requires.ready.is_idle c.requires.standing) (omega arith) c.judge.ensures.takes
