use Rattle.std.proofs.Common.{◌≡◌, ◌+◌, ◌≤◌, ◌++◌, length, drop, vec_len}
use Rattle.std.specs.Prelude.{vec_capacity}
use Rattle.ioc_store.specs.Given.{answers_of}
use Rattle.ioc_store.proofs.calls.Calls.copy_answers.Given as goal

-- The list together with the answers of the remaining calls is the final list.
abbrev pub invariant-loop-call : goal.invariant-loop-call
invariant-loop-call l = record {
  adds : l.to.items ++ answers_of (drop l.call-index l.call-items) ≡ l.fn.to.items ++ answers_of l.call-items;
  room : vec_len l.to + length (drop l.call-index l.call-items) ≤ vec_capacity l.to;
}
