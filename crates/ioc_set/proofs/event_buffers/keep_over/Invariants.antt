use Rattle.std.proofs.Common.{◌≡◌, ◌≤◌, take, vec_len}
use Rattle.std.specs.Prelude.{not, vec_capacity}
use Rattle.std.specs.List.{filter}
use Rattle.ioc_notify.specs.Living.{is_live}
use Rattle.ioc_set.proofs.event_buffers.keep_over.Given as goal

-- The list has those of the ones visited so far that aren't live, and has room for the others.
abbrev pub invariant-loop-number : goal.invariant-loop-number
invariant-loop-number l =
    (l.over.items ≡ filter (λ n. not (is_live n l.all.live)) (take l.number-index l.ended))
    × ((vec_len l.over ≤ l.number-index) × (vec_capacity l.over ≡ vec_capacity l.fn.over))
