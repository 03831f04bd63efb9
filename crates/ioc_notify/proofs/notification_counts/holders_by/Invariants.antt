use Rattle.std.proofs.Common.{◌≡◌, drop}
use Rattle.ioc_notify.specs.Living.{holders_of}
use Rattle.ioc_notify.proofs.notification_counts.holders_by.Given as goal

abbrev pub invariant-loop-line : goal.invariant-loop-line
invariant-loop-line l = holders_of l.number (drop l.line-index l.items) ≡ holders_of l.number l.items
