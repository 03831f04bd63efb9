use Rattle.std.proofs.Common.{◌≡◌, ◌≤◌, ℕ, false, List, [], ◌++◌, Option, Some, refl, sym, ap, ◌∙◌, subst}
use Rattle.std.specs.Prelude.{Contains, IsSome, is_some}
use Rattle.std.specs.FinMap.{get, len}
use Rattle.crossbeam_utils.specs.Seq.{cell_view}
use Rattle.ioc_dbcommon.specs.declared.link_field.LinkField.{LinkField}
use Rattle.ioc_dbcommon.specs.Links.{use_of, named_by}
use Rattle.ioc_record.specs.Values.{stops_put}
use Rattle.ioc_set_records.specs.Joined.{HasLink}
use Rattle.ioc_store.specs.World.{World, common_at}
use Rattle.ioc_journal.specs.Covering.{Holds, Cover}
use Rattle.ioc_journal.specs.Counting.{BothMaySend, sent_counts}
use Rattle.ioc_journal.specs.Legal.{map_of, IsLegal, IsSound}
use Rattle.ioc_journal.specs.Line.{Continues}
use Rattle.ioc_journal.specs.Key.{Key}
use Rattle.ioc_journal.specs.Laws.{GoesOn}
use Rattle.ioc_journal.specs.LinkChange.{TakesLink, link_note}
use Rattle.ioc_journal.specs.Account.{IsHolder, AreRecords, BothMayFollow, HasCalled, AddedByBoth, Pass}
use Rattle.ioc_journal.specs.declared.entry.Note.{Note}
use Rattle.ioc_journal.specs.declared.cell.View.{View}
use Rattle.ioc_set.specs.SetState.{now_of}
use Rattle.ioc_watched.specs.Watched.{watched_by}
use Rattle.ioc_journaled_set.proofs.Fresh.{none_fresh}
use Rattle.ioc_journaled_set.specs.Holding.{HeldView, held_view, watching, IsHeld}
use Rattle.ioc_journaled_set.specs.LinkChanges.{link_change, Parts}
use Rattle.ioc_set.specs.SetStore.{world_of}
use Rattle.ioc_journaled_set.specs.SameDevice.{IsDeviceOf}
use Rattle.ioc_ledger.specs.declared.tally.Tally.{Tally}
use Rattle.ioc_ledger.specs.Shared.{ShareView, share_view}
use Rattle.ioc_set.specs.Linking.{link_change_of}
use Rattle.ioc_journaled_set.proofs.Shares.{has_share, share_is}
use Rattle.ioc_journaled_set.proofs.Counting.{some_len}
use Rattle.ioc_journaled_set.proofs.LinkShares.{change_len, fewer_parts, started_before, rest_awaits, share_stays, share_leaves}
use Rattle.ioc_journaled_set.proofs.Dealing.{dealt_owner, both_may_follow, both_may_send, known_then}
use Rattle.ioc_journaled_set.proofs.Parting.{takes_link, part_within, part_apart, part_drops, known_drops, stay_keeps, rest_keeps, part_goes_on}
use Rattle.ioc_journaled_set.proofs.journaled_set.JournaledSet.part.Given.{Over}
use Rattle.ioc_journaled_set.proofs.journaled_set.JournaledSet.part.Goals.{After-take_share-share}
use Rattle.ioc_journaled_set.proofs.journaled_set.JournaledSet.part.Goals as goal

-- The set before the change, its share and its pass.
module _ (g : Over) (c : After-take_share-share g) where
  takes : TakesLink g.K.RecordKind.rules (now_of c.self.inside.set) c.args.change.number c.args.change.field
  takes =
      let k = g.K.RecordKind.rules in
      let has = subst (λ (v : HeldView g.row.K.Denot g.row.D.Denot). HasLink k v.set.records c.args.change.number c.args.change.field) (sym c.self.view_is) c.requires.field in
      let allowed = subst (λ (v : HeldView g.row.K.Denot g.row.D.Denot). stops_put (common_at k (now_of v.set) c.args.change.number) c.args.change.field ≡ false) (sym c.self.view_is) c.requires.allowed in
      takes_link k c.self.inside.set c.args.change.number c.args.change.field has allowed

  abbrev changed : World g.row.K.Denot
  changed = link_change_of g.K.RecordKind.rules c.self.inside.set c.args.change.moment c.args.change.number c.args.change.field c.args.change.link

  same : len changed.records ≡ len c.self.inside.set.records
  same = change_len g.K.RecordKind.rules c.self.inside.set c.args.change.moment c.args.change.number c.args.change.field c.args.change.link takes.there

  own : c.take_share-share.result ≡ share_view (len c.self.inside.set.records) c.self.inside.set.tally
  own = share_is c.self.inside.share c.take_share-share.result c.self.inside.set c.take_share-share.ensures.share c.self.invariant.1

  held : IsHeld g.K.RecordKind.rules g.B.JournalName.base (IsDeviceOf g.D.Device.gives g.B.SetsName.devices) g.B.CellName.table (Some c.in-Some.pass) c.self.inside.set
  held =
      let is : c.self.inside.pass ≡ Some c.in-Some.pass = sym c.take.ensures.value ∙ c.in-Some.is in
      subst (λ (o : Option Pass). IsHeld g.K.RecordKind.rules g.B.JournalName.base (IsDeviceOf g.D.Device.gives g.B.SetsName.devices) g.B.CellName.table o c.self.inside.set) is c.self.invariant.0

  covers : Cover (cell_view c.copy-other.new.pass).owns (now_of c.self.inside.set)
  covers = subst (λ (x : View). Cover x.owns (now_of c.self.inside.set)) (sym c.copy-other.ensures.kept.1) held.owner.covers

  -- The change may follow what both passes have seen, and both sets are known then.
  goes : (log : List Note) (desk call : ℕ) (keys : List Key) → IsSound g.K.RecordKind.rules g.B.JournalName.base → Continues (cell_view c.copy-other.new.pass).seen (cell_view c.copy-other.new.pass).owns log
      → Continues (cell_view c.copy-other.result).seen (cell_view c.copy-other.result).owns log → IsLegal g.K.RecordKind.rules g.B.JournalName.base log
      → GoesOn g.K.RecordKind.rules g.B.JournalName.base log (link_note desk call c.args.change.moment c.args.change.number c.args.change.field c.args.change.link (((cell_view c.copy-other.new.pass).owns ++ (cell_view c.copy-other.result).owns) ++ keys))
      (λ m. Holds g.K.RecordKind.rules m (now_of c.part.new.self) × Holds g.K.RecordKind.rules m (now_of c.in-Ok.rest))
  goes =
      let k = g.K.RecordKind.rules in
      let base = g.B.JournalName.base in
      let pass = cell_view c.copy-other.new.pass in
      let other = cell_view c.copy-other.result in
      let within = subst (λ (v : HeldView g.row.K.Denot g.row.D.Denot). (t : ℕ) → Contains (named_by (use_of c.args.change.link)) t → IsSome (get v.set.records t)) (sym c.self.view_is) c.requires.within in
      let holds = subst (λ (x : View). Holds k (map_of k base x.seen) (now_of c.self.inside.set)) (sym c.copy-other.ensures.kept.1) held.holds in
      part_goes_on k c.self.inside.set c.part.new.self c.in-Ok.rest c.args.change.moment c.args.change.number c.args.change.field c.args.change.link takes c.in-Ok.ensures.apart
      c.holding_lasts.ensures c.parted_sets_are_held.ensures within c.is_sound.ensures c.is_sound-2.ensures base pass.seen pass.owns other.seen other.owns covers holds

  -- Both sets are known in the world after the change.
  known_after : (seen : List Note)
      → (log : List Note) × AddedByBoth g.K.RecordKind.rules g.B.JournalName.base (cell_view c.copy-other.new.pass).seen (cell_view c.copy-other.new.pass).owns (cell_view c.copy-other.result).seen (cell_view c.copy-other.result).owns (link_change c.args.change.moment c.args.change.number c.args.change.field c.get-chosen.result) log seen
      → Holds g.K.RecordKind.rules (map_of g.K.RecordKind.rules g.B.JournalName.base seen) (now_of c.part.new.self) × Holds g.K.RecordKind.rules (map_of g.K.RecordKind.rules g.B.JournalName.base seen) (now_of c.in-Ok.rest)
  known_after seen added =
      let k = g.K.RecordKind.rules in
      let base = g.B.JournalName.base in
      let pass = cell_view c.copy-other.new.pass in
      let other = cell_view c.copy-other.result in
      let with_link = subst (λ (l : LinkField). AddedByBoth k base pass.seen pass.owns other.seen other.owns (link_change c.args.change.moment c.args.change.number c.args.change.field l) added.0 seen) c.get-chosen.ensures added.1 in
      known_then k base c.args.change.moment c.args.change.number c.args.change.field c.args.change.link pass.seen pass.owns other.seen other.owns (λ (m : World g.row.K.Denot). Holds k m (now_of c.part.new.self) × Holds k m (now_of c.in-Ok.rest)) goes added.0 seen with_link

pub take_share-share-requires : goal.take_share-share-requires
take_share-share-requires g c =
    let has = subst (λ (v : HeldView g.row.K.Denot g.row.D.Denot). HasLink g.K.RecordKind.rules v.set.records c.args.change.number c.args.change.field) (sym c.self.view_is) c.requires.field in
    record { there = has_share c.self.inside.share c.self.inside.set c.self.invariant.1 (some_len c.self.inside.set.records c.args.change.number (ap (λ (o : Option g.row.K.Denot). is_some o) has.1)) }

pub divide_share-rest_share-requires-clause-parts : goal.divide_share-rest_share-requires-clause-parts
divide_share-rest_share-requires-clause-parts g c =
    let at = (goal.at.divide_share-rest_share-requires-clause-parts g c).After-take_share-share in
    fewer_parts g.K.RecordKind.rules c.self.inside.set c.part.new.self c.in-Ok.rest (changed g at).records c.args.change.number c.in-Ok.ensures.apart (same g at) c.take_share-share.result (own g at)

pub divide_share-rest_share-requires-clause-started : goal.divide_share-rest_share-requires-clause-started
divide_share-rest_share-requires-clause-started g c =
    let at = (goal.at.divide_share-rest_share-requires-clause-started g c).After-take_share-share in
    ap (λ (t : Tally). t.started) c.tally-started.ensures ∙ sym (ap (λ (v : ShareView). v.counts.started) (own g at))

pub divide_share-rest_share-requires-clause-enough : goal.divide_share-rest_share-requires-clause-enough
divide_share-rest_share-requires-clause-enough g c =
    let at = (goal.at.divide_share-rest_share-requires-clause-enough g c).After-take_share-share in
    subst (λ (n : ℕ). c.in-Ok.rest.tally.started ≤ n) (sym (ap (λ (t : Tally). t.started) c.tally-started.ensures))
    (started_before g.K.RecordKind.rules c.self.inside.set c.part.new.self c.in-Ok.rest (changed g at).records c.args.change.number c.in-Ok.ensures.apart (same g at))

pub divide_share-rest_share-requires-clause-awaited : goal.divide_share-rest_share-requires-clause-awaited
divide_share-rest_share-requires-clause-awaited g c =
    let at = (goal.at.divide_share-rest_share-requires-clause-awaited g c).After-take_share-share in
    rest_awaits g.K.RecordKind.rules c.self.inside.set c.part.new.self c.in-Ok.rest (changed g at).records c.args.change.number c.in-Ok.ensures.apart (same g at) c.is_sound-2.ensures

pub keep_change-receipt-requires-clause-one : goal.keep_change-receipt-requires-clause-one
keep_change-receipt-requires-clause-one g c =
    let held = held g (goal.at.keep_change-receipt-requires-clause-one g c).After-take_share-share in
    subst (λ (x : View). IsHolder x × AreRecords x.owns) (sym c.copy-other.ensures.kept.1) (held.owner.holder, held.owner.records)

pub keep_change-receipt-requires-clause-within : goal.keep_change-receipt-requires-clause-within
keep_change-receipt-requires-clause-within g c =
    let at = (goal.at.keep_change-receipt-requires-clause-within g c).After-take_share-share in
    part_within g.K.RecordKind.rules c.self.inside.set c.part.new.self c.in-Ok.rest c.args.change.moment c.args.change.number c.args.change.field c.args.change.link (takes g at) c.in-Ok.ensures.apart (cell_view c.copy-other.new.pass).owns (cell_view c.copy-other.result).owns (covers g at)

pub keep_change-receipt-requires-clause-apart : goal.keep_change-receipt-requires-clause-apart
keep_change-receipt-requires-clause-apart g c =
    let at = (goal.at.keep_change-receipt-requires-clause-apart g c).After-take_share-share in
    part_apart g.K.RecordKind.rules c.self.inside.set c.part.new.self c.in-Ok.rest c.args.change.moment c.args.change.number c.args.change.field c.args.change.link (takes g at) c.in-Ok.ensures.apart

pub keep_change-receipt-requires-clause-follows : goal.keep_change-receipt-requires-clause-follows
keep_change-receipt-requires-clause-follows g c =
    let at = (goal.at.keep_change-receipt-requires-clause-follows g c).After-take_share-share in
    let k = g.K.RecordKind.rules in
    let pass = cell_view c.copy-other.new.pass in
    let other = cell_view c.copy-other.result in
    subst (λ (l : LinkField). BothMayFollow k g.B.JournalName.base pass.seen pass.owns other.seen other.owns (link_change c.args.change.moment c.args.change.number c.args.change.field l)) (sym c.get-chosen.ensures)
    (both_may_follow k g.B.JournalName.base c.args.change.moment c.args.change.number c.args.change.field c.args.change.link pass.seen pass.owns other.seen other.owns (λ (m : World g.row.K.Denot). Holds k m (now_of c.part.new.self) × Holds k m (now_of c.in-Ok.rest)) (goes g at))

pub keep_change-receipt-requires-clause-sent : goal.keep_change-receipt-requires-clause-sent
keep_change-receipt-requires-clause-sent g c =
    let at = (goal.at.keep_change-receipt-requires-clause-sent g c).After-take_share-share in
    let k = g.K.RecordKind.rules in
    let base = g.B.JournalName.base in
    let pass = cell_view c.copy-other.new.pass in
    let other = cell_view c.copy-other.result in
    let n = c.args.change.number in
    let holds = subst (λ (x : View). Holds k (map_of k base x.seen) (now_of c.self.inside.set)) (sym c.copy-other.ensures.kept.1) (held g at).holds in
    let drops = part_drops k c.self.inside.set c.part.new.self c.in-Ok.rest c.args.change.moment n c.args.change.field c.args.change.link (takes g at) c.in-Ok.ensures.apart (world_of c.part.new.buffers.store) c.dropped.result c.dropped.ensures c.in-Ok.ensures.left in
    subst (λ (l : LinkField). BothMaySend k base pass.seen pass.owns other.seen other.owns (link_change c.args.change.moment n c.args.change.field l) (sent_counts 0 c.dropped.result)) (sym c.get-chosen.ensures)
    (both_may_send k base c.args.change.moment n c.args.change.field c.args.change.link pass.seen pass.owns other.seen other.owns (λ (m : World g.row.K.Denot). Holds k m (now_of c.part.new.self) × Holds k m (now_of c.in-Ok.rest)) (goes g at) c.dropped.result
    (known_drops k c.holding_lasts.ensures base (now_of c.self.inside.set) pass.seen pass.owns (covers g at) holds n (takes g at).there c.args.change.field c.args.change.link c.dropped.result drops))

pub invariant_of-self-2 : goal.invariant_of-self-2
invariant_of-self-2 g c =
    let at = (goal.at.invariant_of-self-2 g c).After-take_share-share in
    let k = g.K.RecordKind.rules in
    let one = c.keep_change-receipt.ensures.one in
    let then = known_after g at c.keep_change-receipt.new.desk.seen c.keep_change-receipt.ensures.added in (
      record {
        owner = dealt_owner g.B.CellName.table _ (cell_view c.keep_change-receipt.new.one) c.keep_change-receipt.new.desk.seen c.part.new.self one.0 one.1;
        holds = subst (λ (x : View). Holds k (map_of k g.B.JournalName.base x.seen) (now_of c.part.new.self)) (sym one.1) then.0;
        devices = stay_keeps k c.self.inside.set c.part.new.self c.in-Ok.rest c.args.change.moment c.args.change.number c.args.change.field c.args.change.link (takes g at) c.in-Ok.ensures.apart (IsDeviceOf g.D.Device.gives g.B.SetsName.devices) (held g at).devices c.devices_are_owned-2.ensures;
      },
      share_stays k c.self.inside.set c.part.new.self c.in-Ok.rest (changed g at).records c.args.change.number c.in-Ok.ensures.apart (same g at) c.take_share-share.result c.divide_share-rest_share.new.share (own g at) c.divide_share-rest_share.ensures.share,
      none_fresh g.K.RecordKind.rules g.B.JournalName.base c.part.new.self.records (watched_by c.self.inside.watched) (ap (λ (v : HeldView g.row.K.Denot g.row.D.Denot). v.watched) c.self.view_is ∙ c.requires.unwatched),
    )

pub invariant_of-rest : goal.invariant_of-rest
invariant_of-rest g c =
    let at = (goal.at.invariant_of-rest g c).After-take_share-share in
    let k = g.K.RecordKind.rules in
    let two = c.keep_change-receipt.ensures.other in
    let then = known_after g at c.keep_change-receipt.new.desk.seen c.keep_change-receipt.ensures.added in (
      record {
        owner = dealt_owner g.B.CellName.table _ (cell_view c.keep_change-receipt.new.other) c.keep_change-receipt.new.desk.seen c.in-Ok.rest two.0 two.1;
        holds = subst (λ (x : View). Holds k (map_of k g.B.JournalName.base x.seen) (now_of c.in-Ok.rest)) (sym two.1) then.1;
        devices = rest_keeps k c.self.inside.set c.part.new.self c.in-Ok.rest c.args.change.moment c.args.change.number c.args.change.field c.args.change.link (takes g at) c.in-Ok.ensures.apart (IsDeviceOf g.D.Device.gives g.B.SetsName.devices) (held g at).devices c.devices_are_owned.ensures;
      },
      share_leaves k c.self.inside.set c.part.new.self c.in-Ok.rest (changed g at).records c.args.change.number c.in-Ok.ensures.apart (same g at) c.divide_share-rest_share.result c.divide_share-rest_share.ensures.rest,
      none_fresh g.K.RecordKind.rules g.B.JournalName.base c.in-Ok.rest.records [] refl,
    )

pub returns-clause-parts : goal.returns-clause-parts
returns-clause-parts g c =
    let k = g.K.RecordKind.rules in
    let base = g.B.JournalName.base in
    let kept = c.keep_change-receipt in
    subst (λ (v : HeldView g.row.K.Denot g.row.D.Denot). Parts k base v c.args.desk.now c.args.change.moment c.args.change.number c.args.change.field c.args.change.link (watching c.part.new.self (cell_view kept.new.one).seen (watched_by c.self.inside.watched))
    (held_view c.in-Ok.rest (cell_view kept.new.other).seen) kept.new.desk (world_of c.part.new.buffers.store)) c.self.view_is
    (record {
      falls = c.in-Ok.ensures.apart;
      sent = c.in-Ok.ensures.left;
      call = subst (λ (l : LinkField). HasCalled k base c.args.desk.now (link_change c.args.change.moment c.args.change.number c.args.change.field l) kept.new.desk) c.get-chosen.ensures kept.ensures.call;
      seen = ap (λ (v : View). v.seen) kept.ensures.one.1;
      seen_of_rest = ap (λ (v : View). v.seen) kept.ensures.other.1;
    })
