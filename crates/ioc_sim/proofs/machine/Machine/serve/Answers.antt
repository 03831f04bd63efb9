use Rattle.std.proofs.Common.{◌≡◌, ◌-◌, suc, ℕ, length, refl, sym, ap, ◌∙◌, arith}
use Rattle.ioc_callback.specs.declared.queues.Queues.{Queues}
use Rattle.ioc_callback.specs.Serving.{in_turn}
use Rattle.rec_types.specs.Record.{Record, record_rules}
use Rattle.ioc_events.specs.declared.event.Event.TheVariants.{Process}
use Rattle.ioc_sim.specs.Machine.{Machine, done, serve}
use Rattle.ioc_sim.specs.Scanner.{Scanner}
use Rattle.ioc_sim.specs.SeenMachine.{machine_of}
use Rattle.ioc_sim.proofs.Eventing.{same_machine}
use Rattle.ioc_sim.proofs.Serving.{first_is, none_first, none_counted_by, serve-none, serve-some, serve-zero, served-none}
use Rattle.ioc_sim.proofs.machine.Machine.serve.Goals as goal

pub returns-in_default : goal.returns-in_default
returns-in_default c =
    let queues = c.loop-turns.self.scanner.queues in
    let none : length (in_turn queues) ≡ 0 = none_counted_by (length (in_turn queues)) c.next.result c.in_default.is c.next.ensures.some in
    same_machine _ _ _ _ _ _ _ _ _ _ _ _ refl refl refl refl (c.next.ensures.after ∙ ap (λ (q : Queues ℕ). let s : Scanner = record { lists = c.loop-turns.self.scanner.lists; queues = q } in s) (served-none queues none))
    ∙ sym (serve-none record_rules c.loop-turns.turns (machine_of c.loop-turns.self) (none_first (in_turn queues) none)) ∙ c.loop-turns.invariant

pub loop-turns-preserved : goal.loop-turns-preserved
loop-turns-preserved c =
    let m = machine_of c.loop-turns.self in
    let number = c.in-Some.number in
    let waits : Machine Record = record m { scanner = c.next.new.self } in
    let after : machine_of c.process_untold.new.self ≡ (done record_rules waits (Process number)).machine = c.in_ok-process_untold.ensures in
    let turns : suc (c.loop-turns.turns - 1) ≡ c.loop-turns.turns = omega (arith, c.loop-turns-test.true) in
    ap (serve record_rules (c.loop-turns.turns - 1)) (after ∙ ap (λ (s : Scanner). (done record_rules (record m { scanner = s }) (Process number)).machine) c.next.ensures.after)
    ∙ sym (serve-some record_rules (c.loop-turns.turns - 1) m number (first_is (in_turn m.scanner.queues) (in_turn c.next.new.self.queues) c.next.result number c.in-Some.is c.next.ensures.taken))
    ∙ ap (λ (n : ℕ). serve record_rules n m) turns ∙ c.loop-turns.invariant

pub returns : goal.returns
returns c =
    let m = machine_of c.loop-turns.self in
    let turns : 0 ≡ c.loop-turns.turns = omega (arith, c.loop-turns-test.false) in
    sym (serve-zero record_rules m) ∙ ap (λ (n : ℕ). serve record_rules n m) turns ∙ c.loop-turns.invariant
