use Rattle.std.proofs.Common.{◌≡◌, ◌∙◌, ◌+◌, ◌<◌, ◌≤◌, ℕ, Some, None, drop, ap, sym, subst, arith}
use Rattle.std.specs.FinMap.{entries}
use Rattle.ioc_dbcommon.specs.declared.common.Common.{Common}
use Rattle.ioc_record.specs.RecordRules.{RecordRules}
use Rattle.ioc_set_records.specs.Contents.{Records}
use Rattle.ioc_store.specs.World.{total}
use Rattle.ioc_set.specs.Awaiting.{one_if_awaits, awaited}
use Rattle.ioc_set.proofs.Entries.{key_there, none-past}
use Rattle.ioc_set.proofs.Awaits.{awaits-on, awaits-past}
use Rattle.ioc_set.proofs.awaited.count_awaited.Goals as goal
use Rattle.ioc_set.proofs.awaited.count_awaited.Goals.{in-Some+in-Some-pending, in-Some+in_default-pending, in_default}

-- Past the last record nothing is left to count.
all_counted : {R : Type 0} (k : RecordRules R) (rs : Records R) (count i : ℕ) → total (one_if_awaits k) (drop i (entries rs)) ≡ 0
    → count + total (one_if_awaits k) (drop i (entries rs)) ≡ total (one_if_awaits k) (entries rs) → count ≡ awaited k rs
unfolding awaited
all_counted k rs count i none all = omega (arith, none, all)

pub record-requires : goal.record-requires
record-requires g c = key_there g.K.RecordKind.rules c.args.members.now.records c.loop-place.place c.in-Some.number (sym c.number_at.ensures ∙ c.in-Some.is)

pub loop-place-preserved : goal.loop-place-preserved
loop-place-preserved g c =
    elim c.match-number_at.branch [
      | in-Some+in-Some-pending w ↦
          awaits-on g.K.RecordKind.rules c.args.members.now.records c.loop-place.place w.in-Some.number c.loop-place.count c.match-number_at.count (sym c.number_at.ensures ∙ w.in-Some.is) (Some w.in-Some-pending.field-0)
          (sym (ap (λ (x : Common). x.pending) (w.common-common.ensures ∙ ap g.K.RecordKind.rules.common w.record.ensures)) ∙ w.in-Some-pending.is) (omega (arith, w.count-is)) c.loop-place.invariant
      | in-Some+in_default-pending w ↦
          awaits-on g.K.RecordKind.rules c.args.members.now.records c.loop-place.place w.in-Some.number c.loop-place.count c.match-number_at.count (sym c.number_at.ensures ∙ w.in-Some.is) None
          (sym (ap (λ (x : Common). x.pending) (w.common-common.ensures ∙ ap g.K.RecordKind.rules.common w.record.ensures)) ∙ w.in_default-pending.is) (omega (arith, w.count-is)) c.loop-place.invariant
      | in_default w ↦
          absurd (none-past g.K.RecordKind.rules c.args.members.now.records c.loop-place.place (sym c.number_at.ensures ∙ w.in_default.is) (subst (λ (n : ℕ). c.loop-place.place < n) c.len-place-end.ensures c.loop-place-test.true))
    ]

pub returns : goal.returns
returns g c =
    let k = g.K.RecordKind.rules in
    let rs = c.args.members.now.records in
    all_counted k rs c.loop-place.count c.loop-place.place (awaits-past k rs c.loop-place.place (subst (λ (n : ℕ). n ≤ c.loop-place.place) c.len-place-end.ensures c.loop-place-test.false)) c.loop-place.invariant.0
