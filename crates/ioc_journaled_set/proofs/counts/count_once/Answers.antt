use Rattle.std.proofs.Common.{◌≡◌, List, ◌<◌, ◌+◌, [], ◌∷◌, ◌++◌, take, length, sym, ap, ◌∙◌, arith, rules}
use Rattle.std.proofs.lemmas.List.{take_more}
use Rattle.ioc_store.specs.declared.outbox.OutboxItem.{OutboxItem}
use Rattle.ioc_journal.specs.Counting.{once_in}
use Rattle.ioc_journaled_set.proofs.Sending.{one_more_once, none_more_once}
use Rattle.ioc_journaled_set.proofs.counts.count_once.Goals.{in-Once, in_default}
use Rattle.ioc_journaled_set.proofs.counts.count_once.Goals as goal

pub loop-item-preserved : goal.loop-item-preserved
loop-item-preserved c =
    let items = c.args.items.now in
    let i = c.loop-item.item-index in
    let x = c.item-item.result in
    let within : i < length items = search rules in
    let longer : take (i + 1) items ≡ take i items ++ x ∷ [] = take_more items i x within ∙ ap (λ y. take i items ++ y ∷ []) (sym c.item-item.is) in
    elim c.match-item.branch [
      | in-Once w ↦
          let before = c.loop-item.invariant in
          let more = one_more_once (take i items) w.in-Once.field-0 in
          let all = ap (λ (xs : List OutboxItem). length (once_in xs)) (longer ∙ ap (λ y. take i items ++ y ∷ []) w.in-Once.is) in
          let now = w.count-is in
          let is = before.is in
          let few = before.few in
          record { is = omega (arith, more, all, now, is); few = omega (arith, now, few) }
      | in_default w ↦
          let before = c.loop-item.invariant in
          let same = none_more_once (take i items) x w.in_default.not-Once in
          let all = ap (λ (xs : List OutboxItem). length (once_in xs)) longer in
          let now = w.count-is in
          let is = before.is in
          let few = before.few in
          record { is = omega (arith, same, all, now, is); few = omega (arith, now, few) }
    ]
