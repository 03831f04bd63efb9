use Rattle.std.proofs.Common.{rules, ◌≡◌, ℕ, [], ◌∷◌, ◌++◌, length, ap, ◌∙◌}
use Rattle.ioc_engine.specs.declared.numbered.Numbered.{Numbered}
use Rattle.ioc_engine.proofs.Numbers.{next_numbered}
use Rattle.ioc_engine.proofs.numbered.with_numbers.Goals as goal

pub loop-name-preserved : goal.loop-name-preserved
loop-name-preserved g c =
    let all = c.loop-name.all.items in
    let many : c.len-number.result ≡ length all = search rules in
    let numbered : ℕ → Numbered g.row.D.Denot = λ n. record { number = n; device = c.in-Some.device } in
    next_numbered c.loop-name.yielded all c.push.new.self.items (c.in-Some.name, c.in-Some.device) c.loop-name.invariant
    (c.in_ok-push.ensures.items ∙ ap (λ (n : ℕ). all ++ (c.in-Some.name, numbered n) ∷ []) many)
