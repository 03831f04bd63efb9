use Rattle.std.proofs.Common.{List, sym, ap, ◌∙◌, subst}
use Rattle.std.specs.Prelude.{ℕ, All, IsSome, ◌≡◌, ◌<◌, ◌↔◌}
use Rattle.std.specs.FinMap.{get, keys}
use Rattle.ioc_graph.specs.Paths.{Connected}
use Rattle.ioc_set_records.specs.Joined.{links_of, Joined}
use Rattle.ioc_journal.specs.declared.entry.Note.{Note}
use Rattle.ioc_topology.specs.Gathered.{HoldEach}
use Rattle.ioc_set.specs.SetState.{SetState}
use Rattle.ioc_journaled_set.specs.Holding.{HeldView, KeepsDevices, numbers_of}
use Rattle.ioc_journaled_set.specs.SameDevice.{IsDeviceOf}
use Rattle.ioc_journal.specs.Account.{IsAccount}
use Rattle.ioc_journal.specs.Places.{JournalOf}
use Rattle.ioc_journal.specs.Legal.{map_of}
use Rattle.ioc_journaled_set.specs.Copies.{IsIn}
use Rattle.ioc_journal.specs.Counting.{counts_of}
use Rattle.ioc_engine_core.specs.Ended.{ShareASet}
use Rattle.ioc_engine_core.specs.EngineView.{EngineView}
use Rattle.ioc_engine_core.specs.Loading.{IsSpare}
use Rattle.ioc_engine_core.proofs.Counts.{counts_alike}
use Rattle.ioc_engine_core.proofs.Ending.{still_hold_each, still_in}
use Rattle.ioc_watched.specs.Watched.{AreFresh}
use Rattle.ioc_engine_core.proofs.SharedSets.{are_joined, share_a_set}
use Rattle.ioc_engine_core.proofs.engine.EngineCore.stop.Goals as goal

pub returns-clause-end : goal.returns-clause-end
returns-clause-end g c =
    let k = g.K.RecordKind.rules in
    let base = g.B.JournalName.base in
    let e = c.settle-ended.ensures in
    let list = c.gather-gathered.result.sets.items in
    let count : c.self.inside.sets ≡ c.args.self.count = ap (λ (v : EngineView). v.count) c.self.view_is in
    let all = subst (λ (n : ℕ). HoldEach numbers_of list n) count c.gather-gathered.ensures.all in
    let filled = ap (λ (j : JournalOf Note). j.filled) c.new.ensures ∙ ap (λ (j : JournalOf Note). j.filled) e.journal in
    let sets = c.settle-ended.result.items in
    let called = c.into_parts-cell.result.1.filled in
    let each = still_hold_each (λ (h : HeldView g.row.K.Denot g.row.D.Denot). h.set) (λ (h : SetState g.row.K.Denot g.row.D.Denot). keys h.records) list sets e.sets c.args.self.count all in
    let in_all = still_in (map_of k base called) _ sets e.sets e.are_in in
    let kept = (c.lists_leave_sound.ensures.after base called c.is_legal.ensures.sound).1 in
    let known : (n : ℕ) → IsSome (get (map_of k base called).records n) → n < c.args.self.count = λ n has. subst (λ (m : ℕ). n < m) count (c.self.invariant.0 n (kept.only n has)) in
    record {
      each = each;
      sound = e.sound;
      devices = subst (λ (l : List (HeldView g.row.K.Denot g.row.D.Denot)). All (λ (h : HeldView g.row.K.Denot g.row.D.Denot). KeepsDevices (IsDeviceOf g.D.Device.gives g.B.SetsName.devices) h.set) l) c.as_slice.ensures.value c.all_keep_devices.ensures;
      fresh = subst (λ (l : List (HeldView g.row.K.Denot g.row.D.Denot)). All (λ (h : HeldView g.row.K.Denot g.row.D.Denot). AreFresh k base h.set.records h.watched) l) c.as_slice-2.ensures.value c.all_end_as_told.ensures;
      in_all = subst (λ (l : List Note). All (IsIn (map_of k base l)) c.settle-ended.result.items) (sym filled) in_all;
      legal = subst (λ (l : List Note). IsAccount k base l) (sym filled) c.is_legal.ensures.account;
      joined = λ p q below_p below_q. subst (λ (l : List Note). ShareASet sets p q ↔ Connected (Joined (links_of k (map_of k base l).records)) p q) (sym filled) (
        are_joined k base (map_of k base called) sets c.args.self.count e.sound in_all each known p q,
        share_a_set k base (map_of k base called) sets c.args.self.count e.sound in_all each known p q below_p,
      );
    }

pub settle-ended-requires-clause-all : goal.settle-ended-requires-clause-all
settle-ended-requires-clause-all g c =
    let is_spare = subst (λ (n : ℕ). IsSpare c.into_share-spare.result n) c.self.invariant.1 c.into_share-spare.ensures in
    (c.self.inside.sets, is_spare, c.gather-gathered.ensures.all, c.self.invariant.0)

pub returns-clause-tally : goal.returns-clause-tally
returns-clause-tally g c =
    let k = g.K.RecordKind.rules in
    let base = g.B.JournalName.base in
    let e = c.settle-ended.ensures in
    let filled = ap (λ (j : JournalOf Note). j.filled) c.new.ensures ∙ ap (λ (j : JournalOf Note). j.filled) e.journal in
    counts_alike _ c.settle-ended.result.items e.sets ∙ e.tally ∙ ap (λ (l : List Note). counts_of k base l) (sym filled)
