use Rattle.std.proofs.Common.{◌≡◌, List, refl, sym, ap, subst, ◌∙◌}
use Rattle.ioc_device.specs.declared.Answer.{Answer}
use Rattle.ioc_events.specs.Calls.{called}
use Rattle.ioc_events.specs.declared.event.Call.TheVariants as call
use Rattle.ioc_store.specs.Given.{Accords, listed, calls_of}
use Rattle.ioc_journal_audit.specs.PlayedMap.{given_of}
use Rattle.ioc_journal_audit.proofs.Played.{same_playing}
use Rattle.ioc_journal_audit.proofs.Redone.{decides_event}
use Rattle.ioc_journal_audit.proofs.redo.redo_event.Goals as goal

pub returns : goal.returns
unfolding called
returns g c =
    let before = c.args.map.now in
    let after = c.run_event-made.new.store in
    let same = same_playing before.playing after.playing (given_of before) (given_of after) refl refl c.run_event-made.ensures.run.given in
    let told = c.run_event-made.ensures.step (listed before.playing)
    (subst (λ (answers : List Answer). Accords (calls_of after.map.event.calls) (listed answers)) same after.played) in
    record {
      redoes = record {
        world = told.world;
        call = ap (call.Event c.args.event.now) told.reply;
        agrees = decides_event c.args.event.now _ _ _ _ told.reply c.are_same_replies.ensures;
        playing = same;
        empty = c.run_event-made.ensures.run.empty;
        room = c.run_event-made.ensures.run.room;
      };
    }
