use Rattle.std.proofs.Common.{◌≡◌, List, [], ◌∷◌, ◌++◌, refl, sym, ap, subst, ◌∙◌}
use Rattle.std.specs.Prelude.{slice_get, unwrap_or}
use Rattle.ioc_device.specs.declared.Answer.{Answer}
use Rattle.ioc_device.specs.declared.Answer.TheVariants.{Fault}
use Rattle.ioc_store.specs.declared.call.Call.{Call}
use Rattle.ioc_store.specs.Given.{Accords, listed, calls_of}
use Rattle.ioc_journal_audit.proofs.Played.{accords-more, gives-any}
use Rattle.ioc_journal_audit.proofs.played_map.PlayedMapStore.ask.Goals as goal

pub invariant_of-self : goal.invariant_of-self
unfolding listed
invariant_of-self g c =
    let s = c.args.self.now in
    let next : listed s.playing (calls_of s.map.event.calls) c.new-call.result.target c.new-call.result.ask ≡ c.new-call.result.answer =
    ap (λ n. unwrap_or (slice_get s.playing n) Fault) (sym c.len.ensures) ∙ sym c.at-answer.ensures ∙ sym (ap (λ (x : Call). x.answer) c.new-call.ensures) in
    record {
      played = subst (λ (calls : List Call). Accords calls (listed s.playing)) (sym c.push.ensures) (accords-more (calls_of s.map.event.calls) c.new-call.result (listed s.playing) s.played next);
    }

pub returns-clause-gives : goal.returns-clause-gives
returns-clause-gives g c = gives-any c.args.self.now.playing c.args.self.now.map.event.moment _
