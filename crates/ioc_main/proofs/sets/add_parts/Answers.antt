use Rattle.std.proofs.Common.{◌∙◌, arith}
use Rattle.rec_types.specs.Record.{record_rules}
use Rattle.ioc_store.specs.OneMap.{world_of}
use Rattle.ioc_main.proofs.Bracing.{parts_first, parts_other}
use Rattle.ioc_main.proofs.sets.add_parts.Goals as goal
use Rattle.ioc_main.proofs.sets.add_parts.Goals.{then-numbers-number+in_ok-add_part, else-numbers-number}

pub loop-number-preserved : goal.loop-number-preserved
loop-number-preserved c =
    let world = world_of c.args.map.now in
    let numbers = c.args.numbers.now in
    let i = c.loop-number.invariant in
    elim c.if-numbers-number.branch [
      | then-numbers-number+in_ok-add_part w ↦ (
        rw w.line-is (parts_first record_rules world numbers c.loop-number.line.items w.add_part.new.line.items c.loop-number.number c.loop-number-test.true w.if-numbers-number.true w.in_ok-add_part.ensures ∙ i.0),
        omega (arith, c.loop-number-test.true),
      )
      | else-numbers-number w ↦ (
        rw w.line-is (parts_other record_rules world numbers c.loop-number.line.items c.loop-number.number c.loop-number-test.true w.if-numbers-number.false ∙ i.0),
        omega (arith, c.loop-number-test.true),
      )
    ]
