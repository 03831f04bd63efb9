use Rattle.std.proofs.Common.{◌∙◌, ℕ, Some, None, ap, sym, subst}
use Rattle.ioc_notify.specs.declared.live_numbers.Live.{Live}
use Rattle.ioc_dbcommon.specs.declared.common.Common.{Common}
use Rattle.ioc_store.specs.declared.notifications.Notifications.{Notifications}
use Rattle.std.proofs.Common.{List}
use Rattle.std.specs.FinMap.{entries}
use Rattle.ioc_set.specs.Recounting.{gained_by}
use Rattle.std.proofs.Common.{drop, ◌+◌, ◌<◌, ◌≤◌}
use Rattle.ioc_set.proofs.Entries.{key_there, gained-at, none-past, gained-past}
use Rattle.ioc_set.proofs.recount.count_records.Goals as goal
use Rattle.ioc_set.proofs.recount.count_records.Goals.{in-Some+in-Some-notification, in-Some+in_default-notification, in_default}

pub record-requires : goal.record-requires
record-requires g c = key_there g.K.RecordKind.rules c.args.members.now.records c.loop-place.place c.in-Some.number (sym c.number_at.ensures ∙ c.in-Some.is)

pub loop-place-preserved : goal.loop-place-preserved
loop-place-preserved g c =
    let k = g.K.RecordKind.rules in
    let rs = c.args.members.now.records in
    let i = c.loop-place.place in
    let so_far = c.loop-place.invariant in
    elim c.match-number_at.branch [
      | in-Some+in-Some-notification w ↦
          let has = sym (ap (λ (x : Common). x.notification) (w.common-common.ensures ∙ ap k.common w.record.ensures)) ∙ w.in-Some-notification.is in
          let next = gained-at k rs i w.in-Some.number (sym c.number_at.ensures ∙ w.in-Some.is) (Some w.in-Some-notification.notification) c.loop-place.into.live.live has in
          let live = ap (λ (n : Notifications). n.live.live) w.into-is ∙ w.take_on.ensures.live in (
            ap (λ (ls : List Live). gained_by k (drop (i + 1) (entries rs)) ls) live ∙ sym next ∙ so_far.0,
            (ap (λ (n : Notifications). n.ended.items) w.into-is ∙ w.take_on.ensures.ended ∙ so_far.1.0, ap (λ (n : Notifications). n.waiting) w.into-is ∙ w.take_on.ensures.waiting ∙ so_far.1.1),
          )
      | in-Some+in_default-notification w ↦
          let has = sym (ap (λ (x : Common). x.notification) (w.common-common.ensures ∙ ap k.common w.record.ensures)) ∙ w.in_default-notification.is in
          let next = gained-at k rs i w.in-Some.number (sym c.number_at.ensures ∙ w.in-Some.is) None c.loop-place.into.live.live has in (
            ap (λ (n : Notifications). gained_by k (drop (i + 1) (entries rs)) n.live.live) w.into-is ∙ sym next ∙ so_far.0,
            (ap (λ (n : Notifications). n.ended.items) w.into-is ∙ so_far.1.0, ap (λ (n : Notifications). n.waiting) w.into-is ∙ so_far.1.1),
          )
      | in_default w ↦ absurd (none-past k rs i (sym c.number_at.ensures ∙ w.in_default.is) (subst (λ (n : ℕ). i < n) c.len-place-end.ensures c.loop-place-test.true))
    ]

pub returns-clause-live : goal.returns-clause-live
returns-clause-live g c =
    gained-past g.K.RecordKind.rules c.args.members.now.records c.loop-place.place c.loop-place.into.live.live (subst (λ (n : ℕ). n ≤ c.loop-place.place) c.len-place-end.ensures c.loop-place-test.false)
    ∙ c.loop-place.invariant.0
