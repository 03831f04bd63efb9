use Rattle.std.proofs.Common.{◌≡◌, None, sym, ap, subst, ◌∙◌}
use Rattle.std.specs.Prelude.{Contains}
use Rattle.ioc_set.specs.SetState.{SetState, now_of}
use Rattle.ioc_set.specs.SetStore.{world_of}
use Rattle.ioc_set.specs.NoCalls.{no_call}
use Rattle.ioc_set.specs.Sound.{IsSound}
use Rattle.ioc_set.specs.Doing.{IsShort}
use Rattle.ioc_watched.specs.Watched.{watched_by}
use Rattle.ioc_journaled_set.specs.Holding.{HeldView, numbers_of, Serves}
use Rattle.ioc_journaled_set.proofs.Watches.{served_on, fresh_before, refused_so, fresh_still}
use Rattle.ioc_journaled_set.proofs.journaled_set.JournaledSet.serve_noted.Goals as goal

pub serve_counted-served-requires-clause-there : goal.serve_counted-served-requires-clause-there
serve_counted-served-requires-clause-there g c n has = subst (λ (v : HeldView g.row.K.Denot g.row.D.Denot). Contains (numbers_of v) n) (sym c.take_watched-list.ensures.rest) (c.requires.there n has)

pub serve_counted-served-requires-clause-is_call : goal.serve_counted-served-requires-clause-is_call
serve_counted-served-requires-clause-is_call g c = subst (λ (v : HeldView g.row.K.Denot g.row.D.Denot). no_call g.K.RecordKind.rules (now_of v.set) c.args.event.now ≡ None) (sym c.take_watched-list.ensures.rest) c.requires.is_call

pub serve_counted-served-requires-clause-unwatched : goal.serve_counted-served-requires-clause-unwatched
serve_counted-served-requires-clause-unwatched g c = ap (λ (v : HeldView g.row.K.Denot g.row.D.Denot). v.watched) c.take_watched-list.ensures.rest

pub keep_changed-requires : goal.keep_changed-requires
keep_changed-requires g c =
    let took = c.take_watched-list.new.self in
    let served = c.in-Ok.ensures.serves in
    let sound = subst (λ (h : SetState g.row.K.Denot g.row.D.Denot). IsSound g.K.RecordKind.rules h) (ap (λ (v : HeldView g.row.K.Denot g.row.D.Denot). v.set) c.self.view_is ∙ sym (ap (λ (v : HeldView g.row.K.Denot g.row.D.Denot). v.set) c.take_watched-list.ensures.rest)) c.is_sound.ensures in
    let begins = λ (short : IsShort 0 c.serve_counted-served.new.self.set). c.histories_begin_before.ensures _ took.set c.serve_counted-served.new.self.set c.args.moment c.args.event.now c.in-Ok.done.reply (world_of c.serve_counted-served.new.buffers.store) served.does sound short in
    let short = subst (λ n. IsShort n c.serve_counted-served.new.self.set) c.access_for-alone.ensures served.short in
    record { fresh = fresh_before g.K.RecordKind.rules g.B.JournalName.base c.args.self.now c.take_watched-list.new.self (watched_by c.take_watched-list.result) c.take_watched-list.ensures.list c.take_watched-list.ensures.rest c.serve_counted-served.new.self c.take_watched-list.ensures.fresh begins c.args.access.now.history short }

pub keep_watched-requires : goal.keep_watched-requires
keep_watched-requires g c = record { fresh = fresh_still g.K.RecordKind.rules g.B.JournalName.base c.args.self.now c.take_watched-list.new.self (watched_by c.take_watched-list.result) c.take_watched-list.ensures.list c.take_watched-list.ensures.rest c.serve_counted-served.new.self c.in-Err.ensures.err.0 c.take_watched-list.ensures.fresh }

pub returns-in-Ok-clause-serves : goal.returns-in-Ok-clause-serves
returns-in-Ok-clause-serves g c =
    served_on g.K.RecordKind.rules g.B.JournalName.base c.args.self.now c.take_watched-list.new.self (watched_by c.take_watched-list.result) c.take_watched-list.ensures.list c.take_watched-list.ensures.rest g.D.Device.gives c.args.access.now.history c.args.desk.now c.serve_counted-served.new.desk c.args.moment c.args.event.now c.in-Ok.done.reply c.serve_counted-served.new.self c.keep_changed.new.self (world_of c.serve_counted-served.new.buffers.store)
    (subst (λ n. Serves g.K.RecordKind.rules g.D.Device.gives g.B.JournalName.base n c.take_watched-list.new.self c.args.desk.now c.args.moment c.args.event.now c.in-Ok.done.reply c.serve_counted-served.new.self c.serve_counted-served.new.desk (world_of c.serve_counted-served.new.buffers.store)) c.access_for-alone.ensures c.in-Ok.ensures.serves) c.keep_changed.ensures.set c.keep_changed.ensures.seen c.keep_changed.ensures.stay

pub returns-in-Err-clause-err : goal.returns-in-Err-clause-err
returns-in-Err-clause-err g c = (refused_so g.K.RecordKind.rules g.B.JournalName.base c.args.self.now c.take_watched-list.new.self (watched_by c.take_watched-list.result) c.take_watched-list.ensures.list c.take_watched-list.ensures.rest c.serve_counted-served.new.self c.keep_watched.new.self c.in-Err.ensures.err.0 c.keep_watched.ensures, c.in-Err.ensures.err.1)
