use Rattle.std.proofs.Common.{◌≡◌, ℕ, ◌<◌, ◌≤◌, length, []}
use Rattle.std.specs.Prelude.{slice_index_or}
use Rattle.ioc_journal.specs.Key.{Has}
use Rattle.ioc_journal.specs.Line.{holder}
use Rattle.ioc_journal.specs.Legal.{notifications_key}
use Rattle.ioc_journal.specs.Covering.{Cover}
use Rattle.ioc_set.specs.SetState.{SetState, now_of}
use Rattle.ioc_journaled_set.specs.Passes.{Slot, view_of, keys_of, other_keys, IsDealt}
use Rattle.ioc_journal.specs.Account.{puts_key}
use Rattle.ioc_journaled_set.proofs.together.dealing.deal_all.Given as goal

abbrev pub invariant-loop-i : goal.invariant-loop-i
invariant-loop-i g l = record {
  table : l.keeper.table_id ≡ l.fn.keeper.table_id;
  holds : view_of l.keeper ≡ holder (view_of l.fn.keeper).seen (view_of l.keeper).owns;
  key : Has notifications_key (view_of l.keeper).owns;
  covers : (j : ℕ) (d : SetState g.row.K.Denot g.row.D.Denot) → l.i ≤ j → j < length l.sets → Cover (view_of l.keeper).owns (now_of (slice_index_or l.sets j d));
  dealt : (j : ℕ) (d : SetState g.row.K.Denot g.row.D.Denot) (e : Slot) → j < l.i → IsDealt l.fn.keeper.table_id (view_of l.fn.keeper).seen (slice_index_or l.sets j d) (slice_index_or l.passes j e);
}

abbrev pub ghosts-give_records : goal.ghosts-give_records
ghosts-give_records g a = record { keys = keys_of a.set.now; rest = other_keys a.set.now (view_of a.keeper.now).owns }

abbrev pub ghosts-keep_puts : goal.ghosts-keep_puts
ghosts-keep_puts g a = record { keys = puts_key; rest = [] }
