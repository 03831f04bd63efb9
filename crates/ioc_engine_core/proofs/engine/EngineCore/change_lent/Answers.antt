use Rattle.std.proofs.Common.{inl, inr}
use Rattle.ioc_engine_core.proofs.Refusals.{ok_then, err_then}
use Rattle.ioc_engine_core.proofs.engine.EngineCore.change_lent.Goals as goal

pub returns-clause-changed : goal.returns-clause-changed
returns-clause-changed g c =
    let then = c.change_link-changed.new in
    ok_then _ _ c.change_link-changed.result
    (λ x done. (
      c.now-moment.result,
      c.now-moment.ensures,
      record {
        first = c.args.first.now;
        second = c.args.second.now;
        spare = c.args.spare.now;
        first_then = then.first;
        second_then = then.second;
        spare_then = then.spare;
        lent = c.requires.lent;
        before = c.all_sound.ensures;
        relinks = done;
        after = c.all_sound-2.ensures;
      },
    ))
    c.change_link-changed.ensures.relinks

pub returns-clause-refused : goal.returns-clause-refused
returns-clause-refused g c =
    err_then _ _ c.change_link-changed.result
    (λ e why. elim why [
      | inl none ↦ inr (inl none)
      | inr p ↦ inr (inr (inr (p.0, record { held = c.args.first.now; here = c.requires.lent.here; sound = c.all_sound.ensures.of_first; none = p.1 })))
    ])
    c.change_link-changed.ensures.refused
