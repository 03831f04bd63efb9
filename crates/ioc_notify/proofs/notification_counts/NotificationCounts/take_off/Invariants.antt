use Rattle.std.proofs.Common.{◌≡◌, ℕ, ◌+◌, ◌≤◌, take, length}
use Rattle.std.specs.Vec.{vec_capacity}
use Rattle.ioc_notify.specs.Counts.{IsTable, holders_in}
use Rattle.ioc_notify.proofs.notification_counts.NotificationCounts.take_off.Given as goal

-- The counts of the puts so far are subtracted.
abbrev pub invariant-loop-live : goal.invariant-loop-live
invariant-loop-live l = record {
  table : IsTable l.self-inside.items.items;
  counts : (n : ℕ) → holders_in n l.self-inside.items.items + holders_in n (take l.live-index l.puts) ≡ holders_in n l.fn.self.live;
  fewer : length l.self-inside.items.items ≤ length l.fn.self.live;
  room : vec_capacity l.self-inside.items ≡ l.fn.self.room;
}
