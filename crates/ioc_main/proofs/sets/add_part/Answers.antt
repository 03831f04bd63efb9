use Rattle.std.proofs.Common.{◌+◌, sym, arith}
use Rattle.std.proofs.lemmas.Result.{on_ok_weaker}
use Rattle.rec_types.specs.Record.{record_rules}
use Rattle.ioc_store.specs.OneMap.{world_of}
use Rattle.ioc_graph.specs.Members.{members_from}
use Rattle.ioc_main.proofs.Bracing.{follow_step, follow_end, names_begin, names_step, names_end}
use Rattle.ioc_main.proofs.sets.add_part.Goals as goal

pub loop-number-init : goal.loop-number-init
loop-number-init c =
    let first = c.args.first in
    let numbers = c.args.numbers.now in
    (members_from numbers first (first + 1), c.requires.follow.follow first c.requires.there c.requires.is_first, names_begin record_rules (world_of c.args.map.now) numbers c.args.line.now.items c.begin_set.new.line.items first (rw (sym c.name_of.ensures) c.in_ok-begin_set.ensures))

pub loop-number-smaller : goal.loop-number-smaller
loop-number-smaller c =
    let i = c.loop-number.invariant in
    let s = follow_step c.args.next.now c.loop-number.number i.0 i.1 c.loop-number-test.true in
    omega (arith, s.2, c.loop-number-test.true)

pub loop-number-preserved : goal.loop-number-preserved
loop-number-preserved c =
    let i = c.loop-number.invariant in
    let s = follow_step c.args.next.now c.loop-number.number i.0 i.1 c.loop-number-test.true in
    (s.0, s.3, names_step record_rules (world_of c.args.map.now) c.loop-number.line.items c.add_to_set.new.line.items _ i.0 s.0 c.loop-number.number (rw (sym c.name_of-in-loop-number.ensures) c.in_ok-add_to_set.ensures) s.1 i.2)

pub returns : goal.returns
returns c =
    let i = c.loop-number.invariant in
    let ends = follow_end c.args.next.now c.loop-number.number i.0 i.1 c.loop-number-test.false in
    on_ok_weaker c.end_set.result (λ e. names_end record_rules (world_of c.args.map.now) c.loop-number.line.items c.end_set.new.line.items _ i.0 e ends i.2) c.end_set.ensures
