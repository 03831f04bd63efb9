use Rattle.std.proofs.Common.{◌≡◌, ℕ, ◌≤◌, ◌<◌, Option}
use Rattle.std.specs.Prelude.{slice_index_or}
use Rattle.ioc_ledger.specs.Shared.{ShareView}
use Rattle.ioc_set.specs.SetState.{SetState}
use Rattle.ioc_journaled_set.specs.Holding.{HeldView, held_view, seen_by}
use Rattle.ioc_journal.specs.Account.{Pass}
use Rattle.ioc_journaled_set.proofs.giving_up.take_back_all.Given as goal

abbrev pub invariant-loop-i : goal.invariant-loop-i
invariant-loop-i g l = record {
  done : (j : ℕ) (d : HeldView g.row.K.Denot g.row.D.Denot) (e : SetState g.row.K.Denot g.row.D.Denot) (f : Option Pass) → j < l.i
      → slice_index_or l.held j d ≡ held_view (slice_index_or l.fn.sets j e) (seen_by (slice_index_or l.fn.passes j f));
  sets : (j : ℕ) (e : SetState g.row.K.Denot g.row.D.Denot) → l.i ≤ j → slice_index_or l.sets j e ≡ slice_index_or l.fn.sets j e;
  shares : (j : ℕ) (f : Option ShareView) → l.i ≤ j → slice_index_or l.shares j f ≡ slice_index_or l.fn.shares j f;
  passes : (j : ℕ) (f : Option Pass) → l.i ≤ j → slice_index_or l.passes j f ≡ slice_index_or l.fn.passes j f;
}
