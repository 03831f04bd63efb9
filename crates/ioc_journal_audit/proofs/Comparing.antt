-- Whether an entry agrees, by what came of its call.
use Rattle.std.proofs.Common.{◌≡◌, Bool, true, false, List, length, sym, ap, ◌∙◌}
use Rattle.std.specs.Prelude.{◌==◌}
use Rattle.std.proofs.lemmas.Bool.Decides.{Decides-eqb}
use Rattle.ioc_device.specs.declared.Answer.{Answer}
use Rattle.rec_types.specs.Record.{Record, record_rules}
use Rattle.ioc_journal_file.specs.declared.line.Line.{Line}
use Rattle.ioc_store.specs.World.{World}
use Rattle.ioc_store.specs.Given.{answers_of}
use Rattle.ioc_journal_audit.specs.declared.auditor.Auditor.{Auditor}
use Rattle.ioc_journal_audit.specs.declared.redo.Redone.{Redone}
use Rattle.ioc_journal_audit.specs.PlayedMap.{world_of}
use Rattle.ioc_journal_audit.specs.Audit.{MakesAgain, Follows}
use Rattle.ioc_journal_audit.specs.Legal.{Agrees, entry_of}
use Rattle.ioc_journal_audit.proofs.Played.{all-played, answers-length}

not_both : {P : Type 0} {b : Bool} → b ≡ true → b ≡ false → P
not_both so not_so = absurd (let h : true ≡ false = sym so ∙ not_so in cc)

module _ (a b : Auditor) (line : Line) (made : Redone) (again : MakesAgain a line b made) where
  pub follows : (all : Bool) → all ≡ (length (world_of b.map).calls == length b.map.playing) → made.agrees ≡ true → all ≡ true → Follows a line b
  follows all is same holds =
      let long : length (world_of b.map).calls ≡ length b.map.playing = (Decides-eqb (length (world_of b.map).calls) (length b.map.playing)).0 (sym is ∙ holds) in
      let played : answers_of (world_of b.map).calls ≡ b.map.playing = all-played (world_of b.map).calls b.map.playing b.map.played long in
      record {
        agrees = record { call = again.agrees.0 same; answers = ap (λ (w : World Record). answers_of w.calls) (sym again.world) ∙ played ∙ again.playing };
        world = again.world;
        place = again.place;
        desks = again.desks;
        begun = again.begun;
      }

  pub other_reply : made.agrees ≡ false → Agrees record_rules (world_of a.map) (entry_of line) → ⊥
  other_reply differs agrees = not_both (again.agrees.1 agrees.call) differs

  pub other_answers : (all : Bool) → all ≡ (length (world_of b.map).calls == length b.map.playing) → all ≡ false → Agrees record_rules (world_of a.map) (entry_of line) → ⊥
  other_answers all is differs agrees =
      let played : answers_of (world_of b.map).calls ≡ b.map.playing = ap (λ (w : World Record). answers_of w.calls) again.world ∙ agrees.answers ∙ sym again.playing in
      let long : length (world_of b.map).calls ≡ length b.map.playing = sym (answers-length (world_of b.map).calls) ∙ ap (λ (l : List Answer). length l) played in
      not_both (is ∙ (Decides-eqb (length (world_of b.map).calls) (length b.map.playing)).1 long) differs
