use Rattle.std.proofs.Common.{◌≡◌, ◌≤◌, ℕ, false, List, [], ◌∷◌, ◌++◌, Option, Some, None, refl, sym, ap, ◌∙◌, subst}
use Rattle.std.specs.Prelude.{IsSome, is_some}
use Rattle.std.specs.FinMap.{get, len}
use Rattle.crossbeam_utils.specs.Seq.{cell_view}
use Rattle.ioc_dbcommon.specs.declared.link_field.LinkField.{LinkField}
use Rattle.ioc_dbcommon.specs.Links.{use_of, named_by, no_link}
use Rattle.ioc_record.specs.Values.{stops_put}
use Rattle.ioc_set_records.specs.Joined.{HasLink, relinked}
use Rattle.ioc_store.specs.World.{World, common_at}
use Rattle.ioc_journal.specs.Covering.{Holds}
use Rattle.ioc_journal.specs.Counting.{BothMaySend, sent_counts}
use Rattle.ioc_journal.specs.Legal.{map_of, IsLegal, IsSound}
use Rattle.ioc_journal.specs.Line.{Continues}
use Rattle.ioc_journal.specs.Key.{Key}
use Rattle.ioc_journal.specs.Laws.{GoesOn}
use Rattle.ioc_journal.specs.LinkChange.{TakesLink, link_note}
use Rattle.ioc_set_records.specs.Contents.{Records}
use Rattle.ioc_journal.specs.Account.{BothMayFollow, AddedByBoth, Pass}
use Rattle.ioc_journal.specs.declared.entry.Note.{Note}
use Rattle.ioc_journal.specs.declared.cell.View.{View}
use Rattle.ioc_set.specs.SetState.{SetState, now_of}
use Rattle.ioc_set.specs.Linking.{MayBeOne}
use Rattle.ioc_set.specs.SetStore.{world_of}
use Rattle.ioc_watched.specs.Watched.{watched_by}
use Rattle.ioc_journaled_set.proofs.Fresh.{none_fresh}
use Rattle.ioc_journaled_set.specs.Holding.{HeldView, IsHeld, IsCounted}
use Rattle.ioc_journaled_set.specs.LinkChanges.{link_change}
use Rattle.ioc_journaled_set.specs.SameDevice.{IsDeviceOf}
use Rattle.ioc_ledger.specs.declared.tally.Tally.{Tally}
use Rattle.ioc_ledger.specs.Shared.{ShareView, share_view}
use Rattle.ioc_journaled_set.proofs.Shares.{has_share, none_counted, share_is}
use Rattle.ioc_journaled_set.proofs.Counting.{some_len}
use Rattle.ioc_journaled_set.proofs.LinkShares.{freed_len, fewer_parts, started_before, rest_awaits, share_stays, share_leaves, share_joins}
use Rattle.ioc_journaled_set.proofs.Dealing.{dealt_owner, both_may_follow, both_may_send, known_then}
use Rattle.ioc_journaled_set.proofs.Leading.{lead_within, lead_apart, lead_drops, after_keeps, rest_keeps, lead_goes_on}
use Rattle.ioc_journaled_set.proofs.Nothing.{nothing_is_held}
use Rattle.ioc_journaled_set.proofs.Parting.{takes_link, known_drops}
use Rattle.ioc_journaled_set.proofs.journaled_set.JournaledSet.lead_into.Given.{Over}
use Rattle.ioc_journaled_set.proofs.journaled_set.JournaledSet.lead_into.Goals.{After-take_share-share}
use Rattle.ioc_journaled_set.proofs.journaled_set.JournaledSet.lead_into.Goals as goal

-- The sets before the change, and their shares and passes.
module _ (g : Over) (c : After-take_share-share g) where
  same : c.self.inside.set ≡ c.args.self.now.set
  same = ap (λ (v : HeldView g.row.K.Denot g.row.D.Denot). v.set) c.self.view_is ∙ c.compare.ensures.same.0

  also_same : c.other.inside.set ≡ c.args.other.now.set
  also_same = ap (λ (v : HeldView g.row.K.Denot g.row.D.Denot). v.set) c.other.view_is ∙ c.compare.ensures.same.1

  takes : TakesLink g.K.RecordKind.rules (now_of c.self.inside.set) c.args.change.number c.args.change.field
  takes =
      let k = g.K.RecordKind.rules in
      takes_link k c.self.inside.set c.args.change.number c.args.change.field
      (subst (λ (h : SetState g.row.K.Denot g.row.D.Denot). HasLink k h.records c.args.change.number c.args.change.field) (sym same) c.requires.field)
      (subst (λ (h : SetState g.row.K.Denot g.row.D.Denot). stops_put (common_at k (now_of h) c.args.change.number) c.args.change.field ≡ false) (sym same) c.requires.allowed)

  apart : (q : ℕ) → IsSome (get c.self.inside.set.records q) → get c.other.inside.set.records q ≡ None
  apart =
      subst (λ (h : SetState g.row.K.Denot g.row.D.Denot). (q : ℕ) → IsSome (get h.records q) → get c.other.inside.set.records q ≡ None) (sym same)
      (subst (λ (h : SetState g.row.K.Denot g.row.D.Denot). (q : ℕ) → IsSome (get c.args.self.now.set.records q) → get h.records q ≡ None) (sym also_same) c.compare.ensures.apart)

  abbrev cut : Records g.row.K.Denot
  cut = relinked g.K.RecordKind.rules c.self.inside.set.records c.args.change.number c.args.change.field no_link

  freed : len cut ≡ len c.self.inside.set.records
  freed =
      freed_len g.K.RecordKind.rules c.self.inside.set c.other.inside.set c.lead_into.new.self c.lead_into.new.other c.in-Ok.rest c.args.change.moment c.args.change.number c.args.change.field c.args.change.link (world_of c.lead_into.new.buffers.store)
      takes c.in-Ok.ensures.led apart

  own : c.take_share-share.result ≡ share_view (len c.self.inside.set.records) c.self.inside.set.tally
  own = share_is c.self.inside.share c.take_share-share.result c.self.inside.set c.take_share-share.ensures.share c.self.invariant.1

  held : IsHeld g.K.RecordKind.rules g.B.JournalName.base (IsDeviceOf g.D.Device.gives g.B.SetsName.devices) g.B.CellName.table (Some c.in-Some.pass) c.self.inside.set
  held = subst (λ (o : Option Pass). IsHeld g.K.RecordKind.rules g.B.JournalName.base (IsDeviceOf g.D.Device.gives g.B.SetsName.devices) g.B.CellName.table o c.self.inside.set) (sym c.take.ensures.value ∙ c.in-Some.is) c.self.invariant.0

  also_held : IsHeld g.K.RecordKind.rules g.B.JournalName.base (IsDeviceOf g.D.Device.gives g.B.SetsName.devices) g.B.CellName.table (Some c.in-Some-take.beside) c.other.inside.set
  also_held = subst (λ (o : Option Pass). IsHeld g.K.RecordKind.rules g.B.JournalName.base (IsDeviceOf g.D.Device.gives g.B.SetsName.devices) g.B.CellName.table o c.other.inside.set) (sym c.take-2.ensures.value ∙ c.in-Some-take.is) c.other.invariant.0

  -- The change may follow what both passes have seen, and both sets are known then.
  goes : (log : List Note) (desk call : ℕ) (keys : List Key) → IsSound g.K.RecordKind.rules g.B.JournalName.base → Continues (cell_view c.in-Some.pass).seen (cell_view c.in-Some.pass).owns log
      → Continues (cell_view c.in-Some-take.beside).seen (cell_view c.in-Some-take.beside).owns log → IsLegal g.K.RecordKind.rules g.B.JournalName.base log
      → GoesOn g.K.RecordKind.rules g.B.JournalName.base log (link_note desk call c.args.change.moment c.args.change.number c.args.change.field c.args.change.link (((cell_view c.in-Some.pass).owns ++ (cell_view c.in-Some-take.beside).owns) ++ keys))
      (λ m. Holds g.K.RecordKind.rules m (now_of c.lead_into.new.self) × Holds g.K.RecordKind.rules m (now_of c.in-Ok.rest))
  goes =
      let pass = cell_view c.in-Some.pass in
      let beside = cell_view c.in-Some-take.beside in
      let to = subst (λ (h : SetState g.row.K.Denot g.row.D.Denot). (t : ℕ) × (named_by (use_of c.args.change.link) ≡ t ∷ []) × IsSome (get h.records t)) (sym also_same) c.requires.to in
      lead_goes_on g.K.RecordKind.rules c.self.inside.set c.other.inside.set c.lead_into.new.self c.lead_into.new.other c.in-Ok.rest c.args.change.moment c.args.change.number c.args.change.field c.args.change.link (world_of c.lead_into.new.buffers.store)
      takes c.in-Ok.ensures.led apart c.holding_lasts.ensures c.led_sets_are_held.ensures to c.is_sound.ensures
      g.B.JournalName.base pass.seen pass.owns beside.seen beside.owns held.owner.covers held.holds also_held.owner.covers also_held.holds

  -- Both sets are known in the world after the change.
  known_after : (seen : List Note)
      → (log : List Note) × AddedByBoth g.K.RecordKind.rules g.B.JournalName.base (cell_view c.in-Some.pass).seen (cell_view c.in-Some.pass).owns (cell_view c.in-Some-take.beside).seen (cell_view c.in-Some-take.beside).owns (link_change c.args.change.moment c.args.change.number c.args.change.field c.get-chosen.result) log seen
      → Holds g.K.RecordKind.rules (map_of g.K.RecordKind.rules g.B.JournalName.base seen) (now_of c.lead_into.new.self) × Holds g.K.RecordKind.rules (map_of g.K.RecordKind.rules g.B.JournalName.base seen) (now_of c.in-Ok.rest)
  known_after seen added =
      let k = g.K.RecordKind.rules in
      let base = g.B.JournalName.base in
      let pass = cell_view c.in-Some.pass in
      let beside = cell_view c.in-Some-take.beside in
      let with_link = subst (λ (l : LinkField). AddedByBoth k base pass.seen pass.owns beside.seen beside.owns (link_change c.args.change.moment c.args.change.number c.args.change.field l) added.0 seen) c.get-chosen.ensures added.1 in
      known_then k base c.args.change.moment c.args.change.number c.args.change.field c.args.change.link pass.seen pass.owns beside.seen beside.owns (λ (m : World g.row.K.Denot). Holds k m (now_of c.lead_into.new.self) × Holds k m (now_of c.in-Ok.rest)) goes added.0 seen with_link

pub compare-requires-clause-one : goal.compare-requires-clause-one
compare-requires-clause-one g c = (c.args.change.number, ap (λ (o : Option g.row.K.Denot). is_some o) c.requires.field.1)

pub lead_into-requires-clause-one : goal.lead_into-requires-clause-one
lead_into-requires-clause-one g c =
    let same : c.self.inside.set ≡ c.args.self.now.set = ap (λ (v : HeldView g.row.K.Denot g.row.D.Denot). v.set) c.self.view_is ∙ c.compare.ensures.same.0 in
    let also_same : c.other.inside.set ≡ c.args.other.now.set = ap (λ (v : HeldView g.row.K.Denot g.row.D.Denot). v.set) c.other.view_is ∙ c.compare.ensures.same.1 in
    subst (λ (h : SetState g.row.K.Denot g.row.D.Denot). MayBeOne h c.other.inside.set) (sym same)
    (subst (λ (h : SetState g.row.K.Denot g.row.D.Denot). MayBeOne c.args.self.now.set h) (sym also_same) c.compare.ensures.one)

pub unreachable-requires : goal.unreachable-requires
unreachable-requires g c =
    let k = g.K.RecordKind.rules in
    let none : c.self.inside.pass ≡ None = sym c.take.ensures.value ∙ c.in_default.is in
    let held = subst (λ (o : Option Pass). IsHeld k g.B.JournalName.base (IsDeviceOf g.D.Device.gives g.B.SetsName.devices) g.B.CellName.table o c.self.inside.set) none c.self.invariant.0 in
    let same : c.self.inside.set ≡ c.args.self.now.set = ap (λ (v : HeldView g.row.K.Denot g.row.D.Denot). v.set) c.self.view_is ∙ c.compare.ensures.same.0 in
    let has = subst (λ (h : SetState g.row.K.Denot g.row.D.Denot). HasLink k h.records c.args.change.number c.args.change.field) (sym same) c.requires.field in
    held.owner c.args.change.number (ap (λ (o : Option g.row.K.Denot). is_some o) has.1)

pub unreachable-requires-in_default-take : goal.unreachable-requires-in_default-take
unreachable-requires-in_default-take g c =
    let none : c.other.inside.pass ≡ None = sym c.take-2.ensures.value ∙ c.in_default-take.is in
    let held = subst (λ (o : Option Pass). IsHeld g.K.RecordKind.rules g.B.JournalName.base (IsDeviceOf g.D.Device.gives g.B.SetsName.devices) g.B.CellName.table o c.other.inside.set) none c.other.invariant.0 in
    let also_same : c.other.inside.set ≡ c.args.other.now.set = ap (λ (v : HeldView g.row.K.Denot g.row.D.Denot). v.set) c.other.view_is ∙ c.compare.ensures.same.1 in
    let there = subst (λ (h : SetState g.row.K.Denot g.row.D.Denot). IsSome (get h.records c.requires.to.0)) (sym also_same) c.requires.to.2 in
    held.owner c.requires.to.0 there

pub take_share-share-requires : goal.take_share-share-requires
take_share-share-requires g c =
    let k = g.K.RecordKind.rules in
    let same : c.self.inside.set ≡ c.args.self.now.set = ap (λ (v : HeldView g.row.K.Denot g.row.D.Denot). v.set) c.self.view_is ∙ c.compare.ensures.same.0 in
    let has = subst (λ (h : SetState g.row.K.Denot g.row.D.Denot). HasLink k h.records c.args.change.number c.args.change.field) (sym same) c.requires.field in
    record { there = has_share c.self.inside.share c.self.inside.set c.self.invariant.1 (some_len c.self.inside.set.records c.args.change.number (ap (λ (o : Option g.row.K.Denot). is_some o) has.1)) }

pub take_share-others-requires : goal.take_share-others-requires
take_share-others-requires g c =
    let also_same : c.other.inside.set ≡ c.args.other.now.set = ap (λ (v : HeldView g.row.K.Denot g.row.D.Denot). v.set) c.other.view_is ∙ c.compare.ensures.same.1 in
    let there = subst (λ (h : SetState g.row.K.Denot g.row.D.Denot). IsSome (get h.records c.requires.to.0)) (sym also_same) c.requires.to.2 in
    record { there = has_share c.other.inside.share c.other.inside.set c.other.invariant.1 (some_len c.other.inside.set.records c.requires.to.0 there) }

pub divide_share-rest_share-requires-clause-parts : goal.divide_share-rest_share-requires-clause-parts
divide_share-rest_share-requires-clause-parts g c =
    let at = (goal.at.divide_share-rest_share-requires-clause-parts g c).After-take_share-share in
    let led = c.in-Ok.ensures.led in
    fewer_parts g.K.RecordKind.rules c.self.inside.set led.stay c.in-Ok.rest (cut g at) c.args.change.number led.falls (freed g at) c.take_share-share.result (own g at)

pub divide_share-rest_share-requires-clause-started : goal.divide_share-rest_share-requires-clause-started
divide_share-rest_share-requires-clause-started g c =
    let at = (goal.at.divide_share-rest_share-requires-clause-started g c).After-take_share-share in
    ap (λ (t : Tally). t.started) c.tally-started.ensures ∙ sym (ap (λ (v : ShareView). v.counts.started) (own g at))

pub divide_share-rest_share-requires-clause-enough : goal.divide_share-rest_share-requires-clause-enough
divide_share-rest_share-requires-clause-enough g c =
    let at = (goal.at.divide_share-rest_share-requires-clause-enough g c).After-take_share-share in
    let led = c.in-Ok.ensures.led in
    subst (λ (n : ℕ). c.in-Ok.rest.tally.started ≤ n) (sym (ap (λ (t : Tally). t.started) c.tally-started.ensures)) (started_before g.K.RecordKind.rules c.self.inside.set led.stay c.in-Ok.rest (cut g at) c.args.change.number led.falls (freed g at))

pub divide_share-rest_share-requires-clause-awaited : goal.divide_share-rest_share-requires-clause-awaited
divide_share-rest_share-requires-clause-awaited g c =
    let at = (goal.at.divide_share-rest_share-requires-clause-awaited g c).After-take_share-share in
    let led = c.in-Ok.ensures.led in
    rest_awaits g.K.RecordKind.rules c.self.inside.set led.stay c.in-Ok.rest (cut g at) c.args.change.number led.falls (freed g at) c.is_sound.ensures

pub keep_change-receipt-requires-clause-within : goal.keep_change-receipt-requires-clause-within
keep_change-receipt-requires-clause-within g c =
    let at = (goal.at.keep_change-receipt-requires-clause-within g c).After-take_share-share in
    lead_within g.K.RecordKind.rules c.self.inside.set c.other.inside.set c.lead_into.new.self c.lead_into.new.other c.in-Ok.rest c.args.change.moment c.args.change.number c.args.change.field c.args.change.link (world_of c.lead_into.new.buffers.store)
    (takes g at) c.in-Ok.ensures.led (apart g at) (cell_view c.in-Some.pass).owns (cell_view c.in-Some-take.beside).owns (held g at).owner.covers (also_held g at).owner.covers

pub keep_change-receipt-requires-clause-apart : goal.keep_change-receipt-requires-clause-apart
keep_change-receipt-requires-clause-apart g c =
    let at = (goal.at.keep_change-receipt-requires-clause-apart g c).After-take_share-share in
    lead_apart g.K.RecordKind.rules c.self.inside.set c.other.inside.set c.lead_into.new.self c.lead_into.new.other c.in-Ok.rest c.args.change.moment c.args.change.number c.args.change.field c.args.change.link (world_of c.lead_into.new.buffers.store)
    (takes g at) c.in-Ok.ensures.led (apart g at)

pub keep_change-receipt-requires-clause-follows : goal.keep_change-receipt-requires-clause-follows
keep_change-receipt-requires-clause-follows g c =
    let at = (goal.at.keep_change-receipt-requires-clause-follows g c).After-take_share-share in
    let k = g.K.RecordKind.rules in
    let pass = cell_view c.in-Some.pass in
    let beside = cell_view c.in-Some-take.beside in
    subst (λ (l : LinkField). BothMayFollow k g.B.JournalName.base pass.seen pass.owns beside.seen beside.owns (link_change c.args.change.moment c.args.change.number c.args.change.field l)) (sym c.get-chosen.ensures)
    (both_may_follow k g.B.JournalName.base c.args.change.moment c.args.change.number c.args.change.field c.args.change.link pass.seen pass.owns beside.seen beside.owns (λ (m : World g.row.K.Denot). Holds k m (now_of c.lead_into.new.self) × Holds k m (now_of c.in-Ok.rest)) (goes g at))

pub keep_change-receipt-requires-clause-sent : goal.keep_change-receipt-requires-clause-sent
keep_change-receipt-requires-clause-sent g c =
    let at = (goal.at.keep_change-receipt-requires-clause-sent g c).After-take_share-share in
    let k = g.K.RecordKind.rules in
    let base = g.B.JournalName.base in
    let pass = cell_view c.in-Some.pass in
    let beside = cell_view c.in-Some-take.beside in
    let n = c.args.change.number in
    let drops = lead_drops k c.self.inside.set c.other.inside.set c.lead_into.new.self c.lead_into.new.other c.in-Ok.rest c.args.change.moment n c.args.change.field c.args.change.link (world_of c.lead_into.new.buffers.store) (takes g at) c.in-Ok.ensures.led (apart g at)
    g.met.K.RecordKind.lawful c.dropped.result c.dropped.ensures in
    subst (λ (l : LinkField). BothMaySend k base pass.seen pass.owns beside.seen beside.owns (link_change c.args.change.moment n c.args.change.field l) (sent_counts 0 c.dropped.result)) (sym c.get-chosen.ensures)
    (both_may_send k base c.args.change.moment n c.args.change.field c.args.change.link pass.seen pass.owns beside.seen beside.owns (λ (m : World g.row.K.Denot). Holds k m (now_of c.lead_into.new.self) × Holds k m (now_of c.in-Ok.rest)) (goes g at) c.dropped.result
    (known_drops k c.holding_lasts.ensures base (now_of c.self.inside.set) pass.seen pass.owns (held g at).owner.covers (held g at).holds n (takes g at).there c.args.change.field c.args.change.link c.dropped.result drops))

pub invariant_of-self-2 : goal.invariant_of-self-2
invariant_of-self-2 g c =
    let at = (goal.at.invariant_of-self-2 g c).After-take_share-share in
    let k = g.K.RecordKind.rules in
    let one = c.keep_change-receipt.ensures.one in
    let led = c.in-Ok.ensures.led in
    let then = known_after g at c.keep_change-receipt.new.desk.seen c.keep_change-receipt.ensures.added in
    let others = share_is c.other.inside.share c.take_share-others.result c.other.inside.set c.take_share-others.ensures.share c.other.invariant.1 in (
      record {
        owner = dealt_owner g.B.CellName.table _ (cell_view c.keep_change-receipt.new.one) c.keep_change-receipt.new.desk.seen c.lead_into.new.self one.0 one.1;
        holds = subst (λ (x : View). Holds k (map_of k g.B.JournalName.base x.seen) (now_of c.lead_into.new.self)) (sym one.1) then.0;
        devices =
            after_keeps k c.self.inside.set c.other.inside.set c.lead_into.new.self c.lead_into.new.other c.in-Ok.rest c.args.change.moment c.args.change.number c.args.change.field c.args.change.link (world_of c.lead_into.new.buffers.store)
            (takes g at) c.in-Ok.ensures.led (apart g at) (IsDeviceOf g.D.Device.gives g.B.SetsName.devices) (held g at).devices (also_held g at).devices c.devices_are_owned.ensures c.devices_are_owned-2.ensures c.devices_are_owned-3.ensures c.devices_are_owned-4.ensures;
      },
      share_joins k c.self.inside.set c.other.inside.set c.lead_into.new.self c.lead_into.new.other c.in-Ok.rest c.args.change.moment c.args.change.number c.args.change.field c.args.change.link (world_of c.lead_into.new.buffers.store)
          (takes g at) c.in-Ok.ensures.led (apart g at) c.divide_share-rest_share.new.share c.take_share-others.result c.merge.new.self
          (share_stays k c.self.inside.set led.stay c.in-Ok.rest (cut g at) c.args.change.number led.falls (freed g at) c.take_share-share.result c.divide_share-rest_share.new.share (own g at) c.divide_share-rest_share.ensures.share) others c.merge.ensures,
      none_fresh g.K.RecordKind.rules g.B.JournalName.base c.lead_into.new.self.records (watched_by c.self.inside.watched) (ap (λ (v : HeldView g.row.K.Denot g.row.D.Denot). v.watched) c.self.view_is ∙ c.compare.ensures.watched.0 ∙ c.requires.unwatched.0),
    )

pub invariant_of-rest : goal.invariant_of-rest
invariant_of-rest g c =
    let at = (goal.at.invariant_of-rest g c).After-take_share-share in
    let k = g.K.RecordKind.rules in
    let two = c.keep_change-receipt.ensures.other in
    let led = c.in-Ok.ensures.led in
    let then = known_after g at c.keep_change-receipt.new.desk.seen c.keep_change-receipt.ensures.added in (
      record {
        owner = dealt_owner g.B.CellName.table _ (cell_view c.keep_change-receipt.new.other) c.keep_change-receipt.new.desk.seen c.in-Ok.rest two.0 two.1;
        holds = subst (λ (x : View). Holds k (map_of k g.B.JournalName.base x.seen) (now_of c.in-Ok.rest)) (sym two.1) then.1;
        devices =
            rest_keeps k c.self.inside.set c.other.inside.set c.lead_into.new.self c.lead_into.new.other c.in-Ok.rest c.args.change.moment c.args.change.number c.args.change.field c.args.change.link (world_of c.lead_into.new.buffers.store)
            (takes g at) c.in-Ok.ensures.led (apart g at) (IsDeviceOf g.D.Device.gives g.B.SetsName.devices) (held g at).devices (also_held g at).devices c.devices_are_owned.ensures c.devices_are_owned-2.ensures c.devices_are_owned-3.ensures c.devices_are_owned-4.ensures;
      },
      share_leaves k c.self.inside.set led.stay c.in-Ok.rest (cut g at) c.args.change.number led.falls (freed g at) c.divide_share-rest_share.result c.divide_share-rest_share.ensures.rest,
      none_fresh g.K.RecordKind.rules g.B.JournalName.base c.in-Ok.rest.records [] refl,
    )

pub invariant_of-other-2 : goal.invariant_of-other-2
invariant_of-other-2 g c =
    let k = g.K.RecordKind.rules in
    let nothing = nothing_is_held k g.met.K.RecordKind.lawful.missing_targets g.B.JournalName.base (IsDeviceOf g.D.Device.gives g.B.SetsName.devices) g.B.CellName.table c.lead_into.new.other c.in-Ok.ensures.led.joins.emptied in (
      subst (λ (o : Option Pass). IsHeld k g.B.JournalName.base (IsDeviceOf g.D.Device.gives g.B.SetsName.devices) g.B.CellName.table o c.lead_into.new.other) (sym c.take-2.ensures.after) nothing,
      subst (λ (o : Option ShareView). IsCounted o c.lead_into.new.other) (sym c.take_share-others.ensures.taken) (none_counted c.lead_into.new.other c.in-Ok.ensures.led.joins.emptied),
      none_fresh g.K.RecordKind.rules g.B.JournalName.base c.lead_into.new.other.records (watched_by c.other.inside.watched) (ap (λ (v : HeldView g.row.K.Denot g.row.D.Denot). v.watched) c.other.view_is ∙ c.compare.ensures.watched.1 ∙ c.requires.unwatched.1),
    )
