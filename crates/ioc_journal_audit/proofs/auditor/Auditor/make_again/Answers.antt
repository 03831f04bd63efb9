use Rattle.std.proofs.Common.{◌≡◌, refl, ap, subst, ◌∙◌}
use Rattle.std.specs.Prelude.{vec_capacity}
use Rattle.std.specs.Bool.{Decides}
use Rattle.std.proofs.lemmas.Result.{IfOk-weaker}
use Rattle.rec_types.specs.Record.{Record}
use Rattle.ioc_events.specs.Calls.{Called}
use Rattle.ioc_journal_audit.specs.PlayedMap.{world_of}
use Rattle.ioc_journal_audit.proofs.Starting.{settled_begun, room_begun, sound_after, called_begun}
use Rattle.ioc_journal_audit.proofs.auditor.Auditor.make_again.Goals as goal

pub redo-requires : goal.redo-requires
redo-requires c = record {
  closed = (settled_begun c.args.line.mark.moment (world_of c.args.self.now.map) (world_of c.begin_at.new.self) c.begin_at.ensures.world c.args.self.now.settled).closed;
  empty = c.args.self.now.empty;
  room = room_begun c.args.line.mark.moment (world_of c.args.self.now.map) (world_of c.begin_at.new.self) (vec_capacity c.args.self.now.frames) c.begin_at.ensures.world c.args.self.now.room;
}

pub invariant_of-self : goal.invariant_of-self
invariant_of-self c =
    let sound = sound_after c.begin_at.new.self c.redo.new.map c.args.self.now.frames c.redo.new.frames c.args.line.call c.redo.result c.calls_leave_sound.ensures.settled c.calls_leave_sound.ensures.count
    c.redo.ensures.redoes c.redo.ensures.same c.redo.ensures.frames
    (record {
      settled = settled_begun c.args.line.mark.moment (world_of c.args.self.now.map) (world_of c.begin_at.new.self) c.begin_at.ensures.world c.args.self.now.settled;
      empty = c.args.self.now.empty;
      room = room_begun c.args.line.mark.moment (world_of c.args.self.now.map) (world_of c.begin_at.new.self) (vec_capacity c.args.self.now.frames) c.begin_at.ensures.world c.args.self.now.room;
    }) in
    record { settled = sound.settled; empty = sound.empty; room = sound.room }

pub returns : goal.returns
returns c =
    let same = called_begun c.begin_at.new.self c.args.line.mark.moment (world_of c.args.self.now.map) c.args.line.answers.items c.args.line.call c.begin_at.ensures.world c.begin_at.ensures.playing in
    IfOk-weaker c.redo.result _ _ (λ made redoes. record {
      world = redoes.world ∙ ap (λ (x : Called Record). x.world) same;
      call = redoes.call ∙ ap (λ (x : Called Record). x.call) same;
      agrees = subst (λ (x : Called Record). Decides made.agrees (x.call ≡ c.args.line.call)) same redoes.agrees;
      playing = redoes.playing ∙ c.begin_at.ensures.playing;
      place = refl;
      desks = refl;
      begun = refl;
    }) c.redo.ensures.redoes
