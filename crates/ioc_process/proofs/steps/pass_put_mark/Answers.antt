use Rattle.std.proofs.Common.{Bool, true, false, ◌≡◌, ap, ◌∙◌, refl}
use Rattle.ioc_dbcommon.specs.declared.common.Common.{Common}
use Rattle.ioc_dbcommon.specs.Steps.{with_put_mark}
use Rattle.ioc_store.specs.World.{put, at, changed}
use Rattle.ioc_store.specs.Marks.{put_mark_passed}
use Rattle.ioc_process.proofs.steps.pass_put_mark.Goals as goal

passed-idle : (by_put : Bool) (c : Common) → c.active ≡ false → with_put_mark by_put c ≡ put_mark_passed by_put c
unfolding put_mark_passed
passed-idle by_put c is = rw is refl

passed-active : (by_put : Bool) (c : Common) → c.active ≡ true → c ≡ put_mark_passed by_put c
unfolding put_mark_passed
passed-active by_put c is = rw is refl

pub returns-then-not-common-clause-world : goal.returns-then-not-common-clause-world
unfolding changed
returns-then-not-common-clause-world g c =
    g.met.S.Store.with_record_world c.args.store.now c.args.number _ c.requires
    ∙ ap (λ it. put (g.S.Store.world c.args.store.now) c.args.number (g.S.Record.RecordKind.rules.with_common (at g.S.Record.RecordKind.rules (g.S.Store.world c.args.store.now) c.args.number) it))
    (passed-idle c.args.by_put _ c.if-not-common.true ∙ ap (put_mark_passed c.args.by_put) c.common_mut-common.ensures.value)

pub returns-else-not-common-clause-world : goal.returns-else-not-common-clause-world
unfolding changed
returns-else-not-common-clause-world g c =
    g.met.S.Store.with_record_world c.args.store.now c.args.number _ c.requires
    ∙ ap (λ it. put (g.S.Store.world c.args.store.now) c.args.number (g.S.Record.RecordKind.rules.with_common (at g.S.Record.RecordKind.rules (g.S.Store.world c.args.store.now) c.args.number) it))
    (passed-active c.args.by_put _ c.if-not-common.false ∙ ap (put_mark_passed c.args.by_put) c.common_mut-common.ensures.value)
