use Rattle.std.proofs.Common.{◌≡◌, ℕ, List, ap, sym, subst, ◌∙◌}
use Rattle.std.specs.Prelude.{◌⊎◌}
use Rattle.ioc_dbcommon.specs.Links.{use_of, record_named}
use Rattle.ioc_values.specs.declared.error.IocError.TheVariants.{NoField}
use Rattle.ioc_set_records.specs.Contents.{Records}
use Rattle.ioc_set_records.specs.Joined.{HasLink}
use Rattle.ioc_topology.specs.Change.{AreLent}
use Rattle.ioc_journal.specs.Places.{IsNoPlace}
use Rattle.ioc_set.specs.SetState.{folded}
use Rattle.ioc_set.specs.SetStore.{world_of}
use Rattle.ioc_watched.specs.Watched.{WatchedRecord, AreFresh, watched_by}
use Rattle.ioc_journaled_set.specs.Holding.{HeldView, held_view, numbers_of}
use Rattle.ioc_journaled_set.specs.Watching.{WatchesThose}
use Rattle.ioc_journaled_set.specs.Changing.{Relinks}
use Rattle.ioc_journaled_set.proofs.SameSets.{relinks_again, same_set, with_watched}
use Rattle.ioc_journaled_set.proofs.changing.change_link.Goals as goal

pub change_unwatched-requires-clause-unwatched : goal.change_unwatched-requires-clause-unwatched
change_unwatched-requires-clause-unwatched g c = (ap (λ (v : HeldView g.row.K.Denot g.row.D.Denot). v.watched) c.take_watched-one.ensures.rest, ap (λ (v : HeldView g.row.K.Denot g.row.D.Denot). v.watched) c.take_watched-two.ensures.rest)

pub change_unwatched-requires-clause-lent : goal.change_unwatched-requires-clause-lent
change_unwatched-requires-clause-lent g c =
    let f = c.args.first.now in
    let s = c.args.second.now in
    let to = record_named (use_of c.args.change.link) in
    let l = c.requires.lent in
    let lent : AreLent numbers_of c.args.change.number to (held_view f.set f.seen) (held_view s.set s.seen) c.args.spare.now = record { here = l.here; there = l.there; alone = l.alone; none = l.none } in
    subst (λ (v : HeldView g.row.K.Denot g.row.D.Denot). AreLent numbers_of c.args.change.number to v c.take_watched-two.new.self c.args.spare.now) (sym c.take_watched-one.ensures.rest)
    (subst (λ (v : HeldView g.row.K.Denot g.row.D.Denot). AreLent numbers_of c.args.change.number to (held_view f.set f.seen) v c.args.spare.now) (sym c.take_watched-two.ensures.rest) lent)

pub keep_watched-requires : goal.keep_watched-requires
keep_watched-requires g c =
    let records = ap (λ h. h.records) c.in-Err.ensures.kept.0 ∙ ap (λ (v : HeldView g.row.K.Denot g.row.D.Denot). v.set.records) c.take_watched-one.ensures.rest in
    record {
      fresh = subst (λ (rs : Records g.row.K.Denot). AreFresh g.K.RecordKind.rules g.B.JournalName.base rs (watched_by c.take_watched-one.result)) (sym records)
          (subst (λ (ws : List WatchedRecord). AreFresh g.K.RecordKind.rules g.B.JournalName.base c.args.first.now.set.records ws) (sym c.take_watched-one.ensures.list) c.take_watched-one.ensures.fresh);
    }

pub keep_watched-requires-in-Err : goal.keep_watched-requires-in-Err
keep_watched-requires-in-Err g c =
    let records = ap (λ h. h.records) c.in-Err.ensures.kept.1 ∙ ap (λ (v : HeldView g.row.K.Denot g.row.D.Denot). v.set.records) c.take_watched-two.ensures.rest in
    record {
      fresh = subst (λ (rs : Records g.row.K.Denot). AreFresh g.K.RecordKind.rules g.B.JournalName.base rs (watched_by c.take_watched-two.result)) (sym records)
          (subst (λ (ws : List WatchedRecord). AreFresh g.K.RecordKind.rules g.B.JournalName.base c.args.second.now.set.records ws) (sym c.take_watched-two.ensures.list) c.take_watched-two.ensures.fresh);
    }

pub returns-in-Ok-clause-relinks : goal.returns-in-Ok-clause-relinks
returns-in-Ok-clause-relinks g c =
    let f = c.args.first.now in
    let s = c.args.second.now in
    let sp = c.args.spare.now in
    let then = c.change_unwatched.new in
    let one = c.watch_those.new.self in
    let two = c.watch_those-in-Ok.new.self in
    let three = c.watch_those-in-Ok-2.new.self in
    let came = world_of then.buffers.store in
    let from = subst (λ (v : HeldView g.row.K.Denot g.row.D.Denot). Relinks g.K.RecordKind.rules g.B.JournalName.base v c.take_watched-two.new.self sp c.args.desk.now c.args.change.moment c.args.change.number c.args.change.field c.args.change.link c.in-Ok.changed.reply c.in-Ok.changed.moved then.first then.second then.spare then.desk came) c.take_watched-one.ensures.rest c.in-Ok.ensures.relinks in
    let both = subst (λ (v : HeldView g.row.K.Denot g.row.D.Denot). Relinks g.K.RecordKind.rules g.B.JournalName.base (held_view f.set f.seen) v sp c.args.desk.now c.args.change.moment c.args.change.number c.args.change.field c.args.change.link c.in-Ok.changed.reply c.in-Ok.changed.moved then.first then.second then.spare then.desk came) c.take_watched-two.ensures.rest from in
    let again = relinks_again g.K.RecordKind.rules g.B.JournalName.base f s sp c.args.desk.now c.args.change.moment c.args.change.number c.args.change.field c.args.change.link c.in-Ok.changed.reply c.in-Ok.changed.moved then.first then.second then.spare then.desk came one.watched two.watched three.watched both in
    subst (λ (v : HeldView g.row.K.Denot g.row.D.Denot). Relinks g.K.RecordKind.rules g.B.JournalName.base f s sp c.args.desk.now c.args.change.moment c.args.change.number c.args.change.field c.args.change.link c.in-Ok.changed.reply c.in-Ok.changed.moved v two three then.desk came) (same_set one then.first c.watch_those.ensures.same)
    (subst (λ (v : HeldView g.row.K.Denot g.row.D.Denot). Relinks g.K.RecordKind.rules g.B.JournalName.base f s sp c.args.desk.now c.args.change.moment c.args.change.number c.args.change.field c.args.change.link c.in-Ok.changed.reply c.in-Ok.changed.moved (with_watched then.first one.watched) v three then.desk came) (same_set two then.second c.watch_those-in-Ok.ensures.same)
    (subst (λ (v : HeldView g.row.K.Denot g.row.D.Denot). Relinks g.K.RecordKind.rules g.B.JournalName.base f s sp c.args.desk.now c.args.change.moment c.args.change.number c.args.change.field c.args.change.link c.in-Ok.changed.reply c.in-Ok.changed.moved (with_watched then.first one.watched) (with_watched then.second two.watched) v then.desk came) (same_set three then.spare c.watch_those-in-Ok-2.ensures.same) again))

pub returns-in-Ok-clause-watched : goal.returns-in-Ok-clause-watched
returns-in-Ok-clause-watched g c =
    let own = c.in_ok-moved.ensures.numbers in (
      subst (λ (ns : List ℕ). WatchesThose ns c.watch_those.new.self) (c.as_slice.ensures.value ∙ own) c.watch_those.ensures.watched,
      subst (λ (ns : List ℕ). WatchesThose ns c.watch_those-in-Ok.new.self) (c.as_slice-in-Ok.ensures.value ∙ own) c.watch_those-in-Ok.ensures.watched,
      subst (λ (ns : List ℕ). WatchesThose ns c.watch_those-in-Ok-2.new.self) (c.as_slice-in-Ok-2.ensures.value ∙ own) c.watch_those-in-Ok-2.ensures.watched,
    )

pub returns-in-Err-clause-refused : goal.returns-in-Err-clause-refused
returns-in-Err-clause-refused g c =
    subst (λ (v : HeldView g.row.K.Denot g.row.D.Denot). IsNoPlace c.in-Err.refused ⊎ ((c.in-Err.refused ≡ NoField) × (HasLink g.K.RecordKind.rules v.set.records c.args.change.number c.args.change.field → ⊥))) c.take_watched-one.ensures.rest c.in-Err.ensures.refused

pub returns-in-Err-clause-kept : goal.returns-in-Err-clause-kept
returns-in-Err-clause-kept g c =
    let kept = c.in-Err.ensures.kept in (
      ap (λ (v : HeldView g.row.K.Denot g.row.D.Denot). folded v.set) c.keep_watched.ensures ∙ kept.0 ∙ ap (λ (v : HeldView g.row.K.Denot g.row.D.Denot). folded v.set) c.take_watched-one.ensures.rest,
      ap (λ (v : HeldView g.row.K.Denot g.row.D.Denot). v.set) c.keep_watched-in-Err.ensures ∙ kept.1 ∙ ap (λ (v : HeldView g.row.K.Denot g.row.D.Denot). v.set) c.take_watched-two.ensures.rest,
      kept.2,
    )
