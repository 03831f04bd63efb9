use Rattle.std.proofs.Common.{ℕ, All, List, refl, sym, subst}
use Rattle.std.proofs.lemmas.Option.{IfSome_then}
use Rattle.ioc_journaled_set.specs.Holding.{HeldView, IsSoundlyHeld}
use Rattle.ioc_journaled_set.specs.GivingUp.{GaveUpOn}
use Rattle.ioc_engine_core.proofs.engine.EngineCore.give_up.Goals as goal

pub returns-clause-gave_up : goal.returns-clause-gave_up
returns-clause-gave_up g c =
    let Sound = λ (sets : List (HeldView g.row.K.Denot g.row.D.Denot)). All (IsSoundlyHeld g.K.RecordKind.rules g.B.JournalName.base) sets in
    IfSome_then c.in_ok-given.field-0 c.in_ok-given.ensures.gave_up (λ x gave. record {
      answer = refl;
      puts = c.deref_mut.result.now;
      puts_then = c.cancel_on-given.new.all;
      before = c.as_mut_slice-sets.result.now;
      after = c.cancel_on-given.new.held;
      sound = subst Sound (sym c.as_mut_slice-sets.ensures.value) c.in_ok-taken.ensures.sound;
      gave_up = subst (λ (limit : ℕ). GaveUpOn g.K.RecordKind.rules g.B.JournalName.base limit c.args.moment c.args.number c.args.desk.now.account c.as_mut_slice-sets.result.now c.deref_mut.result.now c.cancel_on-given.new.desk c.cancel_on-given.new.held c.cancel_on-given.new.all)
          c.access-access.ensures gave;
      sound_then = c.all_sound.ensures;
    })
