use Rattle.std.proofs.Common.{◌≡◌, ℕ, ◌<◌, ◌≤◌}
use Rattle.std.specs.Prelude.{slice_index_or}
use Rattle.ioc_set.specs.SetState.{SetState}
use Rattle.ioc_journaled_set.specs.GiveUpLaws.{GivesUp}
use Rattle.ioc_journaled_set.proofs.together.cancelling.cancel_all.Given as goal

abbrev pub invariant-loop-i : goal.invariant-loop-i
invariant-loop-i g l = record {
  done : (j : ℕ) (d : SetState g.row.K.Denot g.row.D.Denot) → j < l.i → GivesUp g.K.RecordKind.rules l.most l.moment l.number (slice_index_or l.fn.sets j d) (slice_index_or l.sets j d);
  rest : (j : ℕ) (d : SetState g.row.K.Denot g.row.D.Denot) → l.i ≤ j → slice_index_or l.sets j d ≡ slice_index_or l.fn.sets j d;
}
