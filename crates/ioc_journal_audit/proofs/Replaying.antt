-- Replays with one more entry.
use Rattle.std.proofs.Common.{◌≡◌, List, [], ◌∷◌, ◌++◌, map, refl, sym, ap, subst, ◌∙◌}
use Rattle.ioc_ledger.specs.Requests.{Requests}
use Rattle.ioc_record.specs.RecordRules.{RecordRules}
use Rattle.ioc_events.specs.declared.event.Entry.{Entry}
use Rattle.ioc_events.specs.declared.event.Call.{Call}
use Rattle.ioc_events.specs.Calls.{called}
use Rattle.ioc_events.specs.StepRules.{Calls, Replay, at_the_end, and_then}
use Rattle.ioc_journal_file.specs.declared.line.Line.{Line}
use Rattle.ioc_store.specs.Given.{Answers, answers_of, listed}
use Rattle.ioc_store.specs.World.{World, begun_at}
use Rattle.ioc_journal_audit.specs.Numbering.{Start, IsNumbered}
use Rattle.ioc_journal_audit.specs.Legal.{entry_of, IsLegal, redone, Agrees}
use Rattle.ioc_journal_audit.proofs.Following.{numbered-more, numbered-next}

entries-append : (xs ys : List Line) → map entry_of (xs ++ ys) ≡ map entry_of xs ++ map entry_of ys
entries-append [] ys = refl
entries-append (x ∷ xs) ys = ap (λ l. entry_of x ∷ l) (entries-append xs ys)

module _ {R : Type 0} (k : RecordRules R) where
  -- The entry is the next one after this database.
  pub record Next (w : World R) (e : Entry) (after : World R) : Type 0 where
    pub requests : Requests
    pub calls : Calls k (listed e.answers) (begun_at e.moment w) e.call after requests
    pub used : answers_of after.calls ≡ e.answers

  replay-more : {w v : World R} {xs : List Entry} (e : Entry) (after : World R) → Replay k w xs v → Next v e after → Replay k w (xs ++ e ∷ []) after
  replay-more e after at_the_end next = and_then next.calls next.used at_the_end
  replay-more e after (and_then calls used rest) next = and_then calls used (replay-more e after rest next)

  -- A replay, cut before an entry.
  record Cut (w : World R) (xs : List Entry) (e : Entry) : Type 0 where
    middle : World R
    front : Replay k w xs middle
    after : World R
    next : Next middle e after

  replay-cut : (w last : World R) (xs : List Entry) (e : Entry) (more : List Entry) → Replay k w (xs ++ e ∷ more) last → Cut w xs e
  replay-cut w last [] e more (and_then calls used rest) = record { middle = w; front = at_the_end; after = _; next = record { requests = _; calls = calls; used = used } }
  replay-cut w last (x ∷ xs) e more (and_then {w' = w'} {requests = requests} calls used rest) =
      let cut = replay-cut w' last xs e more rest in
      record { middle = cut.middle; front = and_then calls used cut.front; after = cut.after; next = cut.next }

  -- The rules allow exactly what `called` gives.
  abbrev pub Allowed : Type 0
  Allowed = (answers : Answers) (w : World R) (c : Call) → Calls k answers w (called k answers w c).call (called k answers w c).world (called k answers w c).requests

  abbrev pub Alone : Type 0
  Alone = (answers : Answers) (w after : World R) (c : Call) (requests : Requests) → Calls k answers w c after requests → called k answers w c ≡ record { world = after; call = c; requests = requests }

  abbrev pub OneEnd : Type 0
  OneEnd = (w after other : World R) (entries : List Entry) → Replay k w entries after → Replay k w entries other → after ≡ other

  agrees-next : Allowed → (w : World R) (e : Entry) → Agrees k w e → Next w e (redone k w e).world
  agrees-next allowed w e agrees = record {
    requests = (redone k w e).requests;
    calls = subst (λ (c : Call). Calls k (listed e.answers) (begun_at e.moment w) c (redone k w e).world (redone k w e).requests) agrees.call (allowed (listed e.answers) (begun_at e.moment w) e.call);
    used = agrees.answers;
  }

  next-agrees : Alone → (w : World R) (e : Entry) (after : World R) → Next w e after → Agrees k w e
  next-agrees alone w e after next =
      let is = alone (listed e.answers) (begun_at e.moment w) after e.call next.requests next.calls in
      record { call = ap (λ c. c.call) is; answers = ap (λ c. answers_of c.world.calls) is ∙ next.used }

  pub legal-more : Allowed → (start : Start) (first w v : World R) (lines : List Line) (line : Line) → IsLegal k start first lines w → IsNumbered start lines line → Agrees k w (entry_of line)
      → v ≡ (redone k w (entry_of line)).world → IsLegal k start first (lines ++ line ∷ []) v
  legal-more allowed start first w v lines line legal numbered agrees is = record {
    numbered = numbered-more start [] lines line legal.numbered numbered;
    replay = subst (λ (es : List Entry). Replay k first es v) (sym (entries-append lines (line ∷ [])))
        (subst (λ (u : World R). Replay k first (map entry_of lines ++ entry_of line ∷ []) u) (sym is)
        (replay-more (entry_of line) (redone k w (entry_of line)).world legal.replay (agrees-next allowed w (entry_of line) agrees)));
  }

  pub legal-numbered : (start : Start) (first last : World R) (lines more : List Line) (line : Line) → IsLegal k start first (lines ++ line ∷ more) last → IsNumbered start lines line
  legal-numbered start first last lines more line legal = numbered-next start [] lines more line legal.numbered

  pub legal-agrees : Alone → OneEnd → (start : Start) (first w last : World R) (lines more : List Line) (line : Line) → IsLegal k start first lines w → IsLegal k start first (lines ++ line ∷ more) last → Agrees k w (entry_of line)
  legal-agrees alone one start first w last lines more line before legal =
      let cut = replay-cut first last (map entry_of lines) (entry_of line) (map entry_of more) (subst (λ (es : List Entry). Replay k first es last) (entries-append lines (line ∷ more)) legal.replay) in
      let same : cut.middle ≡ w = one first cut.middle w (map entry_of lines) cut.front before.replay in
      subst (λ (u : World R). Agrees k u (entry_of line)) same (next-agrees alone cut.middle (entry_of line) cut.after cut.next)
