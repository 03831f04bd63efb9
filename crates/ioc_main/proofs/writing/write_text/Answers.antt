use Rattle.ioc_main.proofs.WrittenLemmas.{writes_more, writes_zero, writes_kept, part_left}
use Rattle.ioc_main.proofs.writing.write_text.Goals as goal

pub loop-rest-preserved : goal.loop-rest-preserved
loop-rest-preserved g c = writes_more _ _ _ _ _ _ c.in-Ok.n c.loop-rest.invariant c.in-Ok.ensures.bytes c.split_at.ensures.back

pub returns-in-Ok-eq0-clause-err : goal.returns-in-Ok-eq0-clause-err
returns-in-Ok-eq0-clause-err g c = part_left _ _ _ c.loop-rest.rest.now c.loop-rest-test.ensures (writes_zero _ _ _ _ _ _ c.in-Ok-eq0.field-0-test c.loop-rest.invariant c.in-Ok-eq0.ensures.bytes)

pub returns-in-Err-clause-err : goal.returns-in-Err-clause-err
returns-in-Err-clause-err g c = part_left _ _ _ c.loop-rest.rest.now c.loop-rest-test.ensures (writes_kept _ _ _ _ _ c.loop-rest.invariant c.in-Err.ensures.bytes)
