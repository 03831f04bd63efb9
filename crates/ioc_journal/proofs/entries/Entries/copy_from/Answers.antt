use Rattle.std.proofs.Common.{◌≡◌, ◌+◌, ◌++◌, ◌∷◌, [], Some, slice_get, sym, ap, ap₂, ◌∙◌, arith, Bor}
use Rattle.std.specs.Option.{option_map}
use Rattle.std.proofs.lemmas.Option.{slice_get_within}
use Rattle.ioc_journal.specs.declared.entry.JournalEntry.{JournalEntry}
use Rattle.ioc_journal.proofs.Excerpts.{taken_more}
use Rattle.ioc_journal.proofs.entries.Entries.copy_from.Goals as goal

pub overflow_add-place : goal.overflow_add-place
overflow_add-place g c =
    let found : slice_get c.args.self.now.filled c.loop.place ≡ Some c.in-Some.entry.now = sym c.at.ensures ∙ ap (option_map (λ (e : Bor JournalEntry). e.now)) c.in-Some.is in
    let low = slice_get_within c.args.self.now.filled c.loop.place c.in-Some.entry.now found in
    omega (arith, low, c.len.ensures.count, c.len.ensures.within, c.len.ensures.few)

pub loop-preserved : goal.loop-preserved
loop-preserved g c =
    let found : slice_get c.args.self.now.filled c.loop.place ≡ Some c.in-Some.entry.now = sym c.at.ensures ∙ ap (option_map (λ (e : Bor JournalEntry). e.now)) c.in-Some.is in
    let place = c.loop.invariant.place in
    let more = taken_more c.args.self.now.filled c.args.from c.loop.counter c.in-Some.entry.now (ap (slice_get c.args.self.now.filled) (sym place) ∙ found) in
    record {
      copies = c.in_ok-push.ensures.items ∙ (ap₂ (λ l e. l ++ e ∷ []) c.loop.invariant.copies c.in_ok-copy.ensures ∙ sym more);
      place = omega (arith, place);
    }
