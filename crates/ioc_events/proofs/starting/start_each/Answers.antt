use Rattle.std.proofs.Common.{◌≡◌, ◌-◌, ℕ, suc, length, ap, sym, subst, ◌∙◌, arith}
use Rattle.ioc_device.specs.declared.Answer.TheVariants.{Fault}
use Rattle.ioc_events.specs.Starting.{all_started}
use Rattle.ioc_process.specs.Answering.{accords_before}
use Rattle.ioc_process.specs.Keeping.{can_process_on, can_run_next, has_run_same, has_run_after, has_run_on}
use Rattle.ioc_events.proofs.QuietEvents.{unqueued-keeps}
use Rattle.ioc_events.proofs.StartRules.{no-start}
use Rattle.ioc_events.proofs.StartCode.{LeadsOn, leads-here, leads-next, leads-end, leads-done, next-has}
use Rattle.ioc_events.proofs.starting.start_each.Goals as goal

pub loop-left-init : goal.loop-left-init
loop-left-init g c =
    let k = g.S.Record.RecordKind.rules in
    let lawful = g.met.S.Record.RecordKind.lawful in
    let w = g.S.Store.world c.args.store.now in
    record {
      leads = λ answers begins. subst (λ (n : ℕ). LeadsOn k lawful answers (length w.waiting) n w w c.args.tally.now c.args.tally.now) (ap length (sym c.waiting-left.ensures)) (leads-here k lawful answers (length w.waiting) w c.args.tally.now);
      run = has_run_same k w c.requires.empty;
      next = c.requires;
    }

pub returns-in_default-clause-started : goal.returns-in_default-clause-started
unfolding all_started
returns-in_default-clause-started g c = λ answers begins.
    let k = g.S.Record.RecordKind.rules in
    let lawful = g.met.S.Record.RecordKind.lawful in
    leads-end k lawful answers _ c.loop-left.left _ _ _ _ (c.loop-left.invariant.leads answers begins) (no-start k lawful answers c.loop-left.left _ (sym c.next_waiting.ensures ∙ c.in_default.is))

pub start-requires : goal.start-requires
start-requires g c =
    let k = g.S.Record.RecordKind.rules in
    let lawful = g.met.S.Record.RecordKind.lawful in
    let w = g.S.Store.world c.loop-left.store in
    let i = c.loop-left.invariant in
    let there = next-has k lawful (λ calls target ask. Fault) w c.in-Some.waiting (sym c.next_waiting.ensures ∙ c.in-Some.is) in
    rw c.unqueue.ensures.world
    (can_process_on k lawful (unqueued-keeps k lawful c.in-Some.waiting.number w) (record { there = there; run = i.next }))

pub loop-left-preserved : goal.loop-left-preserved
loop-left-preserved g c =
    let k = g.S.Record.RecordKind.rules in
    let lawful = g.met.S.Record.RecordKind.lawful in
    let i = c.loop-left.invariant in
    let w0 = g.S.Store.world c.args.store.now in
    let w = g.S.Store.world c.loop-left.store in
    let x = c.in-Some.waiting in
    let came = c.start.ensures in
    let one_less : c.loop-left.left ≡ suc (c.loop-left.left - 1) = omega (arith, c.loop-left-test.true) in
    let run = has_run_after k (unqueued-keeps k lawful x.number w) (rw (c.unqueue.ensures.world, c.unqueue.ensures.given) at came.run) in
    record {
      leads = λ answers begins.
          leads-next k lawful answers _ (c.loop-left.left - 1) w0 w _ x c.args.tally.now c.loop-left.tally _
          (subst (λ (n : ℕ). LeadsOn k lawful answers (length w0.waiting) n w0 w c.args.tally.now c.loop-left.tally) one_less (i.leads answers (accords_before run.given begins)))
          (sym c.next_waiting.ensures ∙ c.in-Some.is) (rw c.unqueue.ensures.world at (came.started answers begins));
      run = has_run_on k i.run run;
      next = can_run_next k lawful run i.next;
    }

pub returns-clause-started : goal.returns-clause-started
unfolding all_started
returns-clause-started g c = λ answers begins.
    let k = g.S.Record.RecordKind.rules in
    let lawful = g.met.S.Record.RecordKind.lawful in
    leads-done k lawful answers _ c.loop-left.left _ _ _ _ (c.loop-left.invariant.leads answers begins) (omega (arith, c.loop-left-test.false))
