use Rattle.std.proofs.Common.{◌≡◌, true, Option, Some, None, Err, refl, sym, ap, ◌∙◌, subst, arith}
use Rattle.crossbeam_utils.specs.Seq.{cell_view}
use Rattle.ioc_values.specs.declared.error.IocError.TheVariants.{PutDisabled}
use Rattle.ioc_events.specs.declared.event.Entry.{Entry}
use Rattle.ioc_record.specs.Values.{stops_put}
use Rattle.ioc_set_records.specs.Joined.{HasLink}
use Rattle.ioc_store.specs.World.{common_at}
use Rattle.ioc_events.specs.declared.event.Call.TheVariants as calling
use Rattle.ioc_journal.specs.Covering.{Holds}
use Rattle.ioc_journal.specs.Legal.{map_of}
use Rattle.ioc_journal.specs.declared.cell.View.{View}
use Rattle.ioc_journal.specs.Account.{HasCalled, Pass}
use Rattle.ioc_set.specs.SetState.{now_of}
use Rattle.ioc_journaled_set.specs.Holding.{HeldView, watching, IsHeld}
use Rattle.ioc_journaled_set.specs.LinkChanges.{Refuses}
use Rattle.ioc_watched.specs.Watched.{watched_by}
use Rattle.ioc_journaled_set.specs.SameDevice.{IsDeviceOf}
use Rattle.ioc_journaled_set.proofs.Serving.{owner_on}
use Rattle.ioc_journaled_set.proofs.Refusing.{link_there, link_has, refusal_may_follow, refusal_counts_nothing, held_after_refusal}
use Rattle.ioc_journaled_set.proofs.Sending.{sends_none, counts_none}
use Rattle.ioc_journaled_set.specs.Sent.{MayCountNothing}
use Rattle.ioc_journaled_set.proofs.journaled_set.JournaledSet.refuse_link.Given.{Over}
use Rattle.ioc_journaled_set.proofs.journaled_set.JournaledSet.refuse_link.Goals.{After-none}
use Rattle.ioc_journaled_set.proofs.journaled_set.JournaledSet.refuse_link.Goals as goal

pub unreachable-requires : goal.unreachable-requires
unreachable-requires g c =
    let k = g.K.RecordKind.rules in
    let none : c.self.inside.pass ≡ None = sym c.take.ensures.value ∙ c.in_default.is in
    let held = subst (λ (o : Option Pass). IsHeld k g.B.JournalName.base (IsDeviceOf g.D.Device.gives g.B.SetsName.devices) g.B.CellName.table o c.self.inside.set) none c.self.invariant.0 in
    let has = subst (λ (v : HeldView g.row.K.Denot g.row.D.Denot). HasLink k v.set.records c.args.change.now.number c.args.change.now.field) (sym c.self.view_is) c.requires.field in
    held.owner c.args.change.now.number (link_there k c.self.inside.set c.args.change.now.number c.args.change.now.field has)

pub append-appended-requires-clause-set : goal.append-appended-requires-clause-set
append-appended-requires-clause-set g c =
    let is : c.self.inside.pass ≡ Some c.in-Some.pass = sym c.take.ensures.value ∙ c.in-Some.is in
    let held = subst (λ (o : Option Pass). IsHeld g.K.RecordKind.rules g.B.JournalName.base (IsDeviceOf g.D.Device.gives g.B.SetsName.devices) g.B.CellName.table o c.self.inside.set) is c.self.invariant.0 in
    (held.owner.holder, λ key has desk. let record_key = held.owner.records key has in omega (arith, record_key, desk))

pub append-appended-requires-clause-follows : goal.append-appended-requires-clause-follows
append-appended-requires-clause-follows g c =
    let k = g.K.RecordKind.rules in
    let set = c.self.inside.set in
    let is : c.self.inside.pass ≡ Some c.in-Some.pass = sym c.take.ensures.value ∙ c.in-Some.is in
    let held = subst (λ (o : Option Pass). IsHeld k g.B.JournalName.base (IsDeviceOf g.D.Device.gives g.B.SetsName.devices) g.B.CellName.table o set) is c.self.invariant.0 in
    let has = subst (λ (v : HeldView g.row.K.Denot g.row.D.Denot). HasLink k v.set.records c.args.change.now.number c.args.change.now.field) (sym c.self.view_is) c.requires.field in
    let stops = subst (λ (v : HeldView g.row.K.Denot g.row.D.Denot). stops_put (common_at k (now_of v.set) c.args.change.now.number) c.args.change.now.field ≡ true) (sym c.self.view_is) c.requires.forbidden in
    let none = c.new-2.ensures ∙ c.new.ensures.items in
    refusal_may_follow k c.holding_lasts.ensures c.lists_leave_sound.ensures.after g.B.JournalName.base (now_of set) c.args.change.now.moment c.args.change.now.number c.args.change.now.field c.args.change.now.link
    (link_there k set c.args.change.now.number c.args.change.now.field has) (link_has k set c.args.change.now.number c.args.change.now.field has) stops c.requires.known
    (cell_view c.in-Some.pass).seen (cell_view c.in-Some.pass).owns held.owner.covers held.holds _
    (λ i. record { moment = c.args.change.now.moment; call = calling.Link c.args.change.now.number c.args.change.now.field (sym c.get.ensures i) (Err PutDisabled); answers = sym none i })

module _ (g : Over) (c : After-none g) where
  counts_nothing : MayCountNothing g.K.RecordKind.rules g.B.JournalName.base (cell_view c.in-Some.pass).seen (cell_view c.in-Some.pass).owns
      (record { moment = c.args.change.now.moment; call = calling.Link c.args.change.now.number c.args.change.now.field c.get.result (Err PutDisabled); answers = c.new-2.result })
  counts_nothing =
      let k = g.K.RecordKind.rules in
      let set = c.self.inside.set in
      let is : c.self.inside.pass ≡ Some c.in-Some.pass = sym c.take.ensures.value ∙ c.in-Some.is in
      let held = subst (λ (o : Option Pass). IsHeld k g.B.JournalName.base (IsDeviceOf g.D.Device.gives g.B.SetsName.devices) g.B.CellName.table o set) is c.self.invariant.0 in
      let has = subst (λ (v : HeldView g.row.K.Denot g.row.D.Denot). HasLink k v.set.records c.args.change.now.number c.args.change.now.field) (sym c.self.view_is) c.requires.field in
      let stops = subst (λ (v : HeldView g.row.K.Denot g.row.D.Denot). stops_put (common_at k (now_of v.set) c.args.change.now.number) c.args.change.now.field ≡ true) (sym c.self.view_is) c.requires.forbidden in
      let none = c.new-2.ensures ∙ c.new.ensures.items in
      refusal_counts_nothing k c.holding_lasts.ensures c.lists_leave_sound.ensures.after g.B.JournalName.base (now_of set) c.args.change.now.moment c.args.change.now.number c.args.change.now.field c.args.change.now.link
      (link_there k set c.args.change.now.number c.args.change.now.field has) (link_has k set c.args.change.now.number c.args.change.now.field has) stops c.requires.known
      (cell_view c.in-Some.pass).seen (cell_view c.in-Some.pass).owns held.owner.covers held.holds c.questions_count_nothing.ensures.links _
      (λ i. record { moment = c.args.change.now.moment; call = calling.Link c.args.change.now.number c.args.change.now.field (sym c.get.ensures i) (Err PutDisabled); answers = sym none i })

pub append-appended-requires-clause-sent : goal.append-appended-requires-clause-sent
append-appended-requires-clause-sent g c =
    sends_none g.K.RecordKind.rules g.B.JournalName.base (cell_view c.in-Some.pass).seen (cell_view c.in-Some.pass).owns _
    (counts_nothing g (goal.at.append-appended-requires-clause-sent g c).After-none) _ c.none.ensures.sent

pub append-appended-requires-clause-counts : goal.append-appended-requires-clause-counts
append-appended-requires-clause-counts g c =
    counts_none g.K.RecordKind.rules g.B.JournalName.base (cell_view c.in-Some.pass).seen (cell_view c.in-Some.pass).owns _
    (counts_nothing g (goal.at.append-appended-requires-clause-counts g c).After-none) _ _ _ c.none.ensures.share

pub invariant_of-self : goal.invariant_of-self
invariant_of-self g c =
    let k = g.K.RecordKind.rules in
    let held_set = c.self.inside.set in
    let is : c.self.inside.pass ≡ Some c.in-Some.pass = sym c.take.ensures.value ∙ c.in-Some.is in
    let held = subst (λ (o : Option Pass). IsHeld k g.B.JournalName.base (IsDeviceOf g.D.Device.gives g.B.SetsName.devices) g.B.CellName.table o held_set) is c.self.invariant.0 in
    let has = subst (λ (v : HeldView g.row.K.Denot g.row.D.Denot). HasLink k v.set.records c.args.change.now.number c.args.change.now.field) (sym c.self.view_is) c.requires.field in
    let stops = subst (λ (v : HeldView g.row.K.Denot g.row.D.Denot). stops_put (common_at k (now_of v.set) c.args.change.now.number) c.args.change.now.field ≡ true) (sym c.self.view_is) c.requires.forbidden in
    let none = c.new-2.ensures ∙ c.new.ensures.items in
    let set = c.append-appended.ensures.set in
    let added = c.append-appended.ensures.added in (
      record {
        owner = owner_on g.B.CellName.table _ _ (cell_view c.in-Some.pass) (cell_view c.append-appended.new.set) _ (now_of held_set) (now_of held_set) held.owner set.0 set.1 (λ n has_n. has_n);
        holds =
            subst (λ (x : View). Holds k (map_of k g.B.JournalName.base x.seen) (now_of held_set)) (sym set.1)
            (held_after_refusal k c.holding_lasts.ensures c.lists_leave_sound.ensures.after g.B.JournalName.base (now_of held_set) c.args.change.now.moment c.args.change.now.number c.args.change.now.field c.args.change.now.link
            (link_there k held_set c.args.change.now.number c.args.change.now.field has) (link_has k held_set c.args.change.now.number c.args.change.now.field has) stops c.requires.known
            (cell_view c.in-Some.pass).seen (cell_view c.in-Some.pass).owns held.owner.covers held.holds _
            (λ i. record { moment = c.args.change.now.moment; call = calling.Link c.args.change.now.number c.args.change.now.field (sym c.get.ensures i) (Err PutDisabled); answers = sym none i }) added.0 _ added.1);
        devices = held.devices;
      },
      c.self.invariant.1,
      c.self.invariant.2,
    )

pub returns-clause-refuses : goal.returns-clause-refuses
returns-clause-refuses g c =
    let k = g.K.RecordKind.rules in
    let none = c.new-2.ensures ∙ c.new.ensures.items in
    let set = c.append-appended.ensures.set in
    subst (λ (v : HeldView g.row.K.Denot g.row.D.Denot). Refuses k g.B.JournalName.base v c.args.desk.now c.args.change.now.moment c.args.change.now.number c.args.change.now.field c.args.change.now.link
    (watching c.self.inside.set (cell_view c.append-appended.new.set).seen (watched_by c.self.inside.watched)) c.append-appended.new.desk) c.self.view_is
    (record {
      forbidden = subst (λ (v : HeldView g.row.K.Denot g.row.D.Denot). stops_put (common_at k (now_of v.set) c.args.change.now.number) c.args.change.now.field ≡ true) (sym c.self.view_is) c.requires.forbidden;
      set = refl;
      call = subst (λ (x : Entry). HasCalled k g.B.JournalName.base c.args.desk.now x c.append-appended.new.desk)
          (λ i. record { moment = c.args.change.now.moment; call = calling.Link c.args.change.now.number c.args.change.now.field (c.get.ensures i) (Err PutDisabled); answers = none i }) c.append-appended.ensures.call;
      seen = ap (λ (v : View). v.seen) set.1;
    })
