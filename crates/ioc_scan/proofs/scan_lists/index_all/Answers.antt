use Rattle.std.proofs.Common.{ℕ, cond, ◌∙◌, ap}
use Rattle.std.proofs.lemmas.List.{get_or_default}
use Rattle.std.specs.BTreeMap.{get}
use Rattle.ioc_scan.specs.contracts.position.PositionOrd.TheImpl as order_of
use Rattle.ioc_scan.specs.Positions.{entry_of, new_entry}
use Rattle.ioc_scan.specs.Members.{is_at_place, listed_at}
use Rattle.ioc_scan.proofs.Agreement.{as_indexed, one_more}
use Rattle.ioc_scan.proofs.scan_lists.index_all.Goals as goal

pub returns-in_err-put_on-clause-kept : goal.returns-in_err-put_on-clause-kept
returns-in_err-put_on-clause-kept c = λ last before.
    as_indexed (entry_of c.args.entries.now) last c.loop-indexed.indexed (get order_of.ghosts.cmp c.loop-indexed.members) (get order_of.ghosts.cmp c.put_on.new.members)
    c.in_err-put_on.ensures.err (c.loop-indexed.invariant last before)

pub loop-indexed-preserved : goal.loop-indexed-preserved
loop-indexed-preserved c = λ last before.
    one_more c.args.entries.now last c.loop-indexed.indexed (get order_of.ghosts.cmp c.loop-indexed.members) (get order_of.ghosts.cmp c.put_on.new.members)
    c.index-entries-indexed.result
    (c.index-entries-indexed.is ∙ get_or_default c.args.entries.now c.loop-indexed.indexed _ new_entry c.loop-indexed-test.true)
    (λ k. c.in_ok-put_on.ensures.ok k
    ∙ ap (λ (n : ℕ). cond (is_at_place c.index-entries-indexed.result.place c.index-entries-indexed.result.order k) (listed_at n c.index-entries-indexed.result.place)
    (get order_of.ghosts.cmp c.loop-indexed.members k)) c.new.ensures)
    (c.loop-indexed.invariant last before)
