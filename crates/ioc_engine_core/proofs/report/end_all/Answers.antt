use Rattle.std.proofs.Common.{◌≡◌, ◌+◌, ◌<◌, ◌≤◌, ◌∙◌, List, [], ◌∷◌, ◌++◌, length, refl, sym, ap, subst, arith, rules}
use Rattle.ioc_ledger.specs.declared.tally.Tally.{Tally}
use Rattle.ioc_ledger.specs.Requests.{no_counts, FitsAll}
use Rattle.ioc_ledger.specs.Shared.{ShareView}
use Rattle.ioc_journaled_set.specs.Holding.{HeldView}
use Rattle.ioc_engine_core.proofs.Counts.{counted_with, counted_all}
use Rattle.ioc_engine_core.proofs.Merging.{counts_more, parts_more}
use Rattle.ioc_engine_core.proofs.report.end_all.Goals as goal

pub loop-set-init : goal.loop-set-init
loop-set-init g c = record {
  ended = c.requires.room.0;
  room = c.requires.room.1;
  fits = subst (λ (t : Tally). FitsAll t) (sym c.requires.none) (c.counts_are_added.ensures.fits no_counts no_counts);
  parts = omega arith;
  counts = c.requires.none;
}

pub loop-set-preserved : goal.loop-set-preserved
loop-set-preserved g c =
    let inv = c.loop-set.invariant in
    let set = c.in-Some.set in
    let yielded = c.loop-set.yielded in
    let merged = c.into_ended.ensures.merged in
    record {
      ended = c.push_reserved.ensures.items
          ∙ ap (λ (l : List (HeldView g.row.K.Denot g.row.D.Denot)). l ++ c.into_ended.result ∷ []) inv.ended
          ∙ ap (λ (h : HeldView g.row.K.Denot g.row.D.Denot). yielded ++ h ∷ []) c.into_ended.ensures.set;
      room = subst (λ n. length c.args.sets.items ≤ n) (sym c.push_reserved.ensures.capacity) inv.room;
      fits = subst (λ (s : ShareView). FitsAll s.counts) (sym merged) (c.counts_are_added.ensures.fits c.loop-set.all.counts set.set.tally);
      parts = parts_more c.loop-set.all c.into_ended.new.all yielded set merged c.args.spare.parts inv.parts;
      counts = counts_more c.loop-set.all c.into_ended.new.all yielded set merged inv.counts;
    }

pub returns-clause-counts : goal.returns-clause-counts
returns-clause-counts g c =
    let inv = c.loop-set.invariant in
    inv.counts ∙ ap (λ (l : List (HeldView g.row.K.Denot g.row.D.Denot)). counted_with no_counts l) (sym inv.ended) ∙ counted_all c.loop-set.ended.items
