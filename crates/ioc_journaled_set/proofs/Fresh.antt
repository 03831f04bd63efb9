-- What was told of watched records stays what they are: of sets of which none is watched, and when one is watched, told or watched no
-- more.
use Rattle.std.proofs.Common.{◌≡◌, ℕ, zero, suc, ◌<◌, Bool, true, false, List, [], ◌∷◌, ◌++◌, length, map, get_or, Option, Some, ap, sym, subst, refl, ◌∙◌, arith}
use Rattle.std.specs.Prelude.{All, IsTrue, not, if◌then◌else◌}
use Rattle.std.specs.FinMap.{contains_key}
use Rattle.std.proofs.lemmas.Bool.{eqb-true}
use Rattle.std.proofs.lemmas.List.Elements.{All-append, All-filter, All-map}
use Rattle.ioc_record.specs.RecordRules.{RecordRules}
use Rattle.ioc_set_records.specs.Contents.{Records, record_at}
use Rattle.ioc_store.specs.World.{World}
use Rattle.ioc_journal.specs.declared.entry.Note.{Note}
use Rattle.ioc_journal.specs.Legal.{map_of}
use Rattle.atomic_table.specs.Seated.{TableId}
use Rattle.crossbeam_utils.specs.Seq.{cell_view}
use Rattle.ioc_journal.specs.declared.cell.View.{View}
use Rattle.ioc_journal.specs.Covering.{Holds, Cover}
use Rattle.ioc_journal.specs.Account.{Pass, IsHolder, AreRecords}
use Rattle.ioc_set.specs.SetState.{SetState, now_of}
use Rattle.ioc_journaled_set.specs.Holding.{IsHeld}
use Rattle.ioc_watched.specs.Watched.{WatchedRecord, IsFresh, AreFresh, is_number, told_now, unwatched, newly_watched}

module _ {R : Type 0} (k : RecordRules R) (base : World R) where
  pub none_fresh : (rs : Records R) (ws : List WatchedRecord) → ws ≡ [] → AreFresh k base rs ws
  none_fresh rs ws none i d within = absurd (let count = ap length none in omega arith)

  module _ (rs : Records R) (ws : List WatchedRecord) (n : ℕ) (seen : List Note) (fresh : AreFresh k base rs ws) where
    of_one : (w : WatchedRecord) → IsFresh k base rs w → (i : ℕ) (d : WatchedRecord) → i < 1 → IsFresh k base rs (get_or (w ∷ []) i d)
    of_one w is zero d within = is
    of_one w is (suc i) d within = absurd (omega arith)

    pub newly_watched_fresh : IsTrue (contains_key rs n) → AreFresh k base rs (ws ++ newly_watched n seen ∷ [])
    newly_watched_fresh here =
        let none : true ≡ false → record_at k (map_of k base seen).records n ≡ record_at k rs n = λ e. cc in
        All-append (IsFresh k base rs) ws (newly_watched n seen ∷ []) fresh (of_one (newly_watched n seen) (record { here = here; fresh = none }))

    pub unwatched_fresh : AreFresh k base rs (unwatched n ws)
    unwatched_fresh = All-filter (λ (w : WatchedRecord). not (is_number n w)) (IsFresh k base rs) ws fresh

    told_one : record_at k (map_of k base seen).records n ≡ record_at k rs n → (w : WatchedRecord) → IsFresh k base rs w → (b : Bool) → is_number n w ≡ b
        → IsFresh k base rs (if b then record { number = w.number; told = seen; is_marked = false } else w)
    told_one same w is true its = record {
      here = is.here;
      fresh = λ _. subst (λ (m : ℕ). record_at k (map_of k base seen).records m ≡ record_at k rs m) (sym (eqb-true w.number n its)) same;
    }
    told_one same w is false its = is

    pub told_fresh : record_at k (map_of k base seen).records n ≡ record_at k rs n → AreFresh k base rs (map (told_now n seen) ws)
    told_fresh same = All-map (IsFresh k base rs) (told_now n seen) ws (λ i d within. told_one same (get_or ws i d) (fresh i d within) (is_number n (get_or ws i d)) refl)

-- A set is held with a pass that has seen and owns the same.
module _ {R D : Type 0} (k : RecordRules R) (base : World R) (had : ℕ → Option D → Type 0) (table : TableId) (h : SetState R D) where
  pub held_again : (p q : Pass) → IsHeld k base had table (Some p) h → q.table_id ≡ p.table_id → cell_view {V = View} q ≡ cell_view {V = View} p → IsHeld k base had table (Some q) h
  held_again p q held id view = record {
    owner = record {
      same = id ∙ held.owner.same;
      holder = subst (λ (v : View). IsHolder v) (sym view) held.owner.holder;
      records = subst (λ (v : View). AreRecords v.owns) (sym view) held.owner.records;
      covers = subst (λ (v : View). Cover v.owns (now_of h)) (sym view) held.owner.covers;
    };
    holds = subst (λ (v : View). Holds k (map_of k base v.seen) (now_of h)) (sym view) held.holds;
    devices = held.devices;
  }
