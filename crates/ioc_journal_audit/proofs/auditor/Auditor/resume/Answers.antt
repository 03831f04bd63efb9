use Rattle.std.proofs.Common.{◌≡◌, ℕ, [], Option, ap, subst, ◌∙◌, rules}
use Rattle.std.specs.Prelude.{IfSome}
use Rattle.ioc_journal_audit.specs.declared.counts.DeskCounts.{DeskCounts}
use Rattle.ioc_journal_audit.specs.Numbers.{count_to, count_in}
use Rattle.ioc_journal_audit.specs.Resuming.{held_by_records, held_by_waiting, calls_of}
use Rattle.ioc_journal_audit.proofs.Restarting.{resumed}
use Rattle.ioc_journal_audit.proofs.auditor.Auditor.resume.Goals as goal

pub returns : goal.returns
returns c =
    let base = c.args.base in
    let by_records : c.hold_records.new.puts.live.live ≡ held_by_records base.records.items [] = search rules in
    let by_waiting : c.hold_waiting.new.puts.live.live ≡ held_by_waiting base.waiting.items c.hold_records.new.puts.live.live = search rules in
    let waits : c.hold_waiting.new.puts.waiting.waiting ≡ base.waiting.items = search rules in
    let of_lines : (desk : ℕ) → count_in c.in-Some.counts desk ≡ calls_of c.as_slice-2.result.now desk =
    subst (λ (o : Option DeskCounts). IfSome o (λ counts. (desk : ℕ) → count_in counts desk ≡ calls_of c.as_slice-2.result.now desk)) c.in-Some.is c.in_ok-counts.ensures in
    resumed c.in_ok-auditor.auditor c.args.place base.records.items base.waiting.items _ _ base.desks.items
    c.in_ok-auditor.ensures.world (by_waiting ∙ ap (held_by_waiting base.waiting.items) by_records) waits
    (ap count_to c.in_ok-auditor.ensures.place ∙ c.place_before.ensures)
    (λ desk. ap (λ d. count_in d desk) c.in_ok-auditor.ensures.desks ∙ of_lines desk ∙ ap (λ ds. calls_of ds desk) c.as_slice-2.ensures.value)
    c.in_ok-auditor.ensures.begun
