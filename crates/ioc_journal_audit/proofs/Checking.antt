-- The auditor after one more entry.
use Rattle.std.proofs.Common.{◌≡◌, ℕ, ◌+◌, suc, cond, Some, List, [], ◌∷◌, ◌++◌, length, sym, ap, subst, ◌∙◌, arith}
use Rattle.std.specs.Prelude.{◌==◌}
use Rattle.std.specs.List.{cons_option}
use Rattle.rec_types.specs.Record.{Record, record_rules}
use Rattle.ioc_journal_file.specs.declared.line.Line.{Line}
use Rattle.ioc_store.specs.World.{World}
use Rattle.ioc_journal_audit.specs.declared.auditor.Auditor.{Auditor}
use Rattle.ioc_journal_audit.specs.declared.counts.NumbersBegun.{NumbersBegun}
use Rattle.ioc_journal_audit.specs.Audit.{HasAudited, HasNextNumbers, Follows}
use Rattle.ioc_journal_audit.specs.Legal.{IsLegal, Agrees, entry_of}
use Rattle.ioc_journal_audit.specs.Numbering.{Start, IsNumbered, made_by, number_begun, numbers_begun}
use Rattle.ioc_journal_audit.specs.Numbers.{count_to, count_in, AreBegun}
use Rattle.ioc_journal_audit.specs.PlayedMap.{world_of}
use Rattle.ioc_journal_audit.proofs.Begun.{is-new, new-is}
use Rattle.ioc_journal_audit.proofs.Following.{made_by-one, begun-one, length-one}
use Rattle.ioc_journal_audit.proofs.Replaying.{Allowed, Alone, OneEnd, legal-more, legal-numbered, legal-agrees}

numbered_by : (start : Start) (first : World Record) (lines : List Line) (line : Line) (a : Auditor) → HasAudited start first lines a → HasNextNumbers a line.mark (number_begun line.call) → IsNumbered start lines line
numbered_by start first lines line a audited next = record {
  place = next.0 ∙ audited.place;
  call = next.1 ∙ audited.desks line.mark.desk;
  notified = is-new (number_begun line.call) a.begun (numbers_begun lines) audited.begun next.2;
}

numbers_of : (start : Start) (first : World Record) (lines : List Line) (line : Line) (a : Auditor) → HasAudited start first lines a → IsNumbered start lines line → HasNextNumbers a line.mark (number_begun line.call)
numbers_of start first lines line a audited is =
    (is.place ∙ sym audited.place, is.call ∙ sym (audited.desks line.mark.desk), new-is (number_begun line.call) a.begun (numbers_begun lines) audited.begun is.notified)

pub audited-more : Allowed record_rules → (start : Start) (first : World Record) (lines : List Line) (line : Line) (a b c : Auditor) → HasNextNumbers a line.mark (number_begun line.call) → Follows a line b
    → c.map ≡ b.map → c.place ≡ Some line.mark.place
    → ((other : ℕ) → count_in c.desks other ≡ cond (line.mark.desk == other) 1 0 + count_in b.desks other)
    → ((numbers : List ℕ) → AreBegun b.begun numbers → AreBegun c.begun (numbers ++ cons_option (number_begun line.call) []))
    → HasAudited start first lines a → HasAudited start first (lines ++ line ∷ []) c
audited-more allowed start first lines line a b c next follows map place desks begun audited = record {
  legal = subst (λ (w : World Record). IsLegal record_rules start first (lines ++ line ∷ []) w) (sym (ap world_of map))
      (legal-more record_rules allowed start first (world_of a.map) (world_of b.map) lines line audited.legal (numbered_by start first lines line a audited next) follows.agrees follows.world);
  place =
      let next_place : count_to c.place ≡ suc (start.place + length lines) = ap count_to place ∙ ap suc (next.0 ∙ audited.place) in
      let longer : length (lines ++ line ∷ []) ≡ suc (length lines) = length-one lines line in
      omega (arith, next_place, longer);
  desks = λ desk.
      let before : count_in b.desks desk ≡ start.calls desk + made_by desk lines = ap (λ d. count_in d desk) follows.desks ∙ audited.desks desk in
      let now : count_in c.desks desk ≡ cond (line.mark.desk == desk) 1 0 + count_in b.desks desk = desks desk in
      let more : made_by desk (lines ++ line ∷ []) ≡ cond (line.mark.desk == desk) 1 0 + made_by desk lines = made_by-one desk lines line in
      omega (arith, before, now, more);
  begun = subst (λ (l : List ℕ). AreBegun c.begun l) (sym (begun-one lines line))
      (begun (numbers_begun lines) (subst (λ (s : NumbersBegun). AreBegun s (numbers_begun lines)) (sym follows.begun) audited.begun));
}

-- A legal run that goes on with an entry numbers it so, and the entry agrees.
pub audited-numbers : (start : Start) (first last : World Record) (lines more : List Line) (line : Line) (a : Auditor) → HasAudited start first lines a → IsLegal record_rules start first (lines ++ line ∷ more) last → HasNextNumbers a line.mark (number_begun line.call)
audited-numbers start first last lines more line a audited legal = numbers_of start first lines line a audited (legal-numbered record_rules start first last lines more line legal)

pub audited-agrees : Alone record_rules → OneEnd record_rules → (start : Start) (first last : World Record) (lines more : List Line) (line : Line) (a : Auditor) → HasAudited start first lines a → IsLegal record_rules start first (lines ++ line ∷ more) last
    → Agrees record_rules (world_of a.map) (entry_of line)
audited-agrees alone one start first last lines more line a audited legal = legal-agrees record_rules alone one start first (world_of a.map) last lines more line audited.legal legal
