-- The count of a put with notification fits in 64 bits.
use Rattle.std.proofs.Common.{ℕ, ◌≤◌, Bool, true, false, cond, List, [], ◌∷◌, length, arith}
use Rattle.std.specs.FinMap.{entries}
use Rattle.std.specs.FinMap.{len-entries}
use Rattle.ioc_record.specs.RecordRules.{RecordRules}
use Rattle.ioc_store.specs.World.{total, is_notification}
use Rattle.ioc_events.specs.Holding.{one_if_has, holders}
use Rattle.ioc_journal.specs.Laws.{HoldersAreFew}

one-least : (b : Bool) → cond b 1 0 ≤ 1
one-least true = omega arith
one-least false = omega arith

module _ {R : Type 0} (k : RecordRules R) where
  each-least : (n : ℕ) (es : List (ℕ × R)) → total (one_if_has k n) es ≤ length es
  each-least n [] = omega arith
  each-least n (e ∷ es) =
      let here = one-least (is_notification n (k.common e.1).notification) in
      let rest = each-least n es in
      omega (arith, here, rest)

  pub holders-few : HoldersAreFew k
  unfolding holders
  holders-few w counted n =
      let has = counted.counted.counted n in
      let records = each-least n (entries w.records) in
      let all = len-entries w.records in
      let once = counted.counted.waits_once n in
      let few = counted.few in
      omega (arith, has, records, all, once, few)
