use Rattle.std.proofs.Common.{ℕ, ◌-◌, refl, subst}
use Rattle.ioc_journaled_set.specs.Changing.{size_of, KeepsLargest}
use Rattle.ioc_journaled_set.proofs.Counting.{part_count}
use Rattle.ioc_journaled_set.proofs.changing.lead_first.Goals as goal

pub returns-clause-leads : goal.returns-clause-leads
returns-clause-leads g c =
    let joined = c.lead_into.new.self in
    let emptied = c.lead_into.new.other in
    let rest = c.in_ok-rest.rest in
    let kept = c.keep_largest-moved in
    let led = c.in_ok-rest.ensures.leads in
    let part = part_count g.K.RecordKind.rules c.args.first.now.set led.leads.stay rest.set c.args.change.number c.args.change.field c.requires.field led.leads.falls in
    record {
      joined = joined;
      emptied = emptied;
      rest = rest;
      leads = led;
      places =
          subst (λ (n : ℕ). KeepsLargest n (size_of c.args.second.now) joined emptied rest kept.new.first kept.new.second kept.new.spare kept.result) part
          (subst (λ (n : ℕ). KeepsLargest (n - size_of rest) (size_of c.args.second.now) joined emptied rest kept.new.first kept.new.second kept.new.spare kept.result) c.size-before.ensures.size
          (subst (λ (n : ℕ). KeepsLargest (c.size-before.result - size_of rest) n joined emptied rest kept.new.first kept.new.second kept.new.spare kept.result) c.size-other.ensures.size kept.ensures));
      done = refl;
    }
