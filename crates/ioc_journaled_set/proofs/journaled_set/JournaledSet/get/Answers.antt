use Rattle.std.proofs.Common.{◌≡◌, List, Option, Some, None, Ok, refl, sym, ap, ◌∙◌, subst, arith}
use Rattle.std.specs.Prelude.{Contains}
use Rattle.crossbeam_utils.specs.Seq.{cell_view}
use Rattle.ioc_device.specs.declared.Answer.{Answer}
use Rattle.ioc_store.specs.World.{Has}
use Rattle.ioc_events.specs.declared.event.Call.TheVariants as calling
use Rattle.ioc_journal.specs.Covering.{Holds}
use Rattle.ioc_journal.specs.Legal.{map_of}
use Rattle.ioc_journal.specs.declared.cell.View.{View}
use Rattle.ioc_journal.specs.Account.{HasCalled, Pass}
use Rattle.ioc_set.specs.SetState.{now_of}
use Rattle.ioc_journaled_set.specs.Holding.{HeldView, watching, numbers_of, IsHeld, Tells}
use Rattle.ioc_watched.specs.Watched.{watched_by}
use Rattle.ioc_journaled_set.specs.SameDevice.{IsDeviceOf}
use Rattle.ioc_journaled_set.proofs.Keys.{key_there}
use Rattle.ioc_journaled_set.proofs.Serving.{owner_on, get_may_follow, held_after_get}
use Rattle.ioc_journaled_set.proofs.Sending.{sends_none, counts_none, asks_none}
use Rattle.ioc_journaled_set.proofs.journaled_set.JournaledSet.get.Goals as goal

pub unreachable-requires : goal.unreachable-requires
unreachable-requires g c =
    let k = g.K.RecordKind.rules in
    let none : c.self.inside.pass ≡ None = sym c.take.ensures.value ∙ c.in_default.is in
    let held = subst (λ (o : Option Pass). IsHeld k g.B.JournalName.base (IsDeviceOf g.D.Device.gives g.B.SetsName.devices) g.B.CellName.table o c.self.inside.set) none c.self.invariant.0 in
    held.owner c.args.number (key_there c.self.inside.set.records c.args.number (subst (λ (v : HeldView g.row.K.Denot g.row.D.Denot). Contains (numbers_of v) c.args.number) (sym c.self.view_is) c.requires.there))

pub append-appended-requires-clause-set : goal.append-appended-requires-clause-set
append-appended-requires-clause-set g c =
    let is : c.self.inside.pass ≡ Some c.in-Some.pass = sym c.take.ensures.value ∙ c.in-Some.is in
    let held = subst (λ (o : Option Pass). IsHeld g.K.RecordKind.rules g.B.JournalName.base (IsDeviceOf g.D.Device.gives g.B.SetsName.devices) g.B.CellName.table o c.self.inside.set) is c.self.invariant.0 in
    (held.owner.holder, λ key has desk. let record_key = held.owner.records key has in omega (arith, record_key, desk))

pub append-appended-requires-clause-follows : goal.append-appended-requires-clause-follows
append-appended-requires-clause-follows g c =
    let k = g.K.RecordKind.rules in
    let is : c.self.inside.pass ≡ Some c.in-Some.pass = sym c.take.ensures.value ∙ c.in-Some.is in
    let held = subst (λ (o : Option Pass). IsHeld k g.B.JournalName.base (IsDeviceOf g.D.Device.gives g.B.SetsName.devices) g.B.CellName.table o c.self.inside.set) is c.self.invariant.0 in
    let there : Has (now_of c.self.inside.set) c.args.number =
    key_there c.self.inside.set.records c.args.number (subst (λ (v : HeldView g.row.K.Denot g.row.D.Denot). Contains (numbers_of v) c.args.number) (sym c.self.view_is) c.requires.there) in
    let none = c.new-2.ensures ∙ c.new.ensures.items in
    get_may_follow k c.holding_lasts.ensures c.events_are_held.ensures.asks g.B.JournalName.base (now_of c.self.inside.set) c.args.moment c.args.number c.args.field c.in_ok-text.text (sym c.in_ok-text.ensures) there
    (cell_view c.in-Some.pass).seen (cell_view c.in-Some.pass).owns held.owner.covers held.holds _ (λ i. record { moment = c.args.moment; call = calling.Get c.args.number c.args.field (Ok c.in_ok-text.text); answers = sym none i })

pub append-appended-requires-clause-sent : goal.append-appended-requires-clause-sent
append-appended-requires-clause-sent g c =
    sends_none g.K.RecordKind.rules g.B.JournalName.base (cell_view c.in-Some.pass).seen (cell_view c.in-Some.pass).owns _
    (asks_none g.K.RecordKind.rules c.questions_count_nothing.ensures.questions g.B.JournalName.base _ refl (cell_view c.in-Some.pass).seen (cell_view c.in-Some.pass).owns) _ c.none.ensures.sent

pub append-appended-requires-clause-counts : goal.append-appended-requires-clause-counts
append-appended-requires-clause-counts g c =
    counts_none g.K.RecordKind.rules g.B.JournalName.base (cell_view c.in-Some.pass).seen (cell_view c.in-Some.pass).owns _
    (asks_none g.K.RecordKind.rules c.questions_count_nothing.ensures.questions g.B.JournalName.base _ refl (cell_view c.in-Some.pass).seen (cell_view c.in-Some.pass).owns) _ _ _ c.none.ensures.share

pub invariant_of-self : goal.invariant_of-self
invariant_of-self g c =
    let k = g.K.RecordKind.rules in
    let is : c.self.inside.pass ≡ Some c.in-Some.pass = sym c.take.ensures.value ∙ c.in-Some.is in
    let held = subst (λ (o : Option Pass). IsHeld k g.B.JournalName.base (IsDeviceOf g.D.Device.gives g.B.SetsName.devices) g.B.CellName.table o c.self.inside.set) is c.self.invariant.0 in
    let there : Has (now_of c.self.inside.set) c.args.number =
    key_there c.self.inside.set.records c.args.number (subst (λ (v : HeldView g.row.K.Denot g.row.D.Denot). Contains (numbers_of v) c.args.number) (sym c.self.view_is) c.requires.there) in
    let none = c.new-2.ensures ∙ c.new.ensures.items in
    let set = c.append-appended.ensures.set in
    let added = c.append-appended.ensures.added in (
      record {
        owner = owner_on g.B.CellName.table _ _ (cell_view c.in-Some.pass) (cell_view c.append-appended.new.set) _ (now_of c.self.inside.set) (now_of c.self.inside.set) held.owner set.0 set.1 (λ n has. has);
        holds =
            subst (λ (x : View). Holds k (map_of k g.B.JournalName.base x.seen) (now_of c.self.inside.set)) (sym set.1)
            (held_after_get k c.holding_lasts.ensures c.events_are_held.ensures.asks g.B.JournalName.base (now_of c.self.inside.set) c.args.moment c.args.number c.args.field c.in_ok-text.text (sym c.in_ok-text.ensures) there
            (cell_view c.in-Some.pass).seen (cell_view c.in-Some.pass).owns held.owner.covers held.holds _ (λ i. record { moment = c.args.moment; call = calling.Get c.args.number c.args.field (Ok c.in_ok-text.text); answers = sym none i }) added.0 _ added.1);
        devices = held.devices;
      },
      c.self.invariant.1,
      c.self.invariant.2,
    )

pub returns-clause-tells : goal.returns-clause-tells
returns-clause-tells g c =
    let k = g.K.RecordKind.rules in
    let is : c.self.inside.pass ≡ Some c.in-Some.pass = sym c.take.ensures.value ∙ c.in-Some.is in
    let held = subst (λ (o : Option Pass). IsHeld k g.B.JournalName.base (IsDeviceOf g.D.Device.gives g.B.SetsName.devices) g.B.CellName.table o c.self.inside.set) is c.self.invariant.0 in
    let there : Has (now_of c.self.inside.set) c.args.number =
    key_there c.self.inside.set.records c.args.number (subst (λ (v : HeldView g.row.K.Denot g.row.D.Denot). Contains (numbers_of v) c.args.number) (sym c.self.view_is) c.requires.there) in
    let none = c.new-2.ensures ∙ c.new.ensures.items in
    let set = c.append-appended.ensures.set in
    subst (λ (v : HeldView g.row.K.Denot g.row.D.Denot). Tells k g.B.JournalName.base v c.args.desk.now c.args.moment c.args.number c.args.field c.in_ok-text.text
    (watching c.self.inside.set (cell_view c.append-appended.new.set).seen (watched_by c.self.inside.watched)) c.append-appended.new.desk) c.self.view_is
    (record {
      answer = sym c.in_ok-text.ensures;
      set = refl;
      watched = refl;
      call = subst (λ (l : List Answer). HasCalled k g.B.JournalName.base c.args.desk.now (record { moment = c.args.moment; call = calling.Get c.args.number c.args.field (Ok c.in_ok-text.text); answers = l }) c.append-appended.new.desk) none c.append-appended.ensures.call;
      seen = ap (λ (v : View). v.seen) set.1;
    })
