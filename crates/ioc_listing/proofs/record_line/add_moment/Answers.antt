use Rattle.std.proofs.Common.{rules, ◌≡◌, ◌∙◌, List, ℕ, [], ◌∷◌, ◌++◌, ap, append_assoc}
use Rattle.ioc_listing.specs.Lines.{AddsMoment}
use Rattle.ioc_listing.proofs.record_line.add_moment.Goals as goal

pub returns : goal.returns
unfolding AddsMoment
returns c =
    let old : List ℕ = c.args.out.now.items in
    let time : List ℕ = c.moment_text.result.bytes in
    let one : c.push.new.self.items ≡ old ++ 32 ∷ [] = search rules in
    let two : c.extend_from_slice.new.self.items ≡ c.push.new.self.items ++ time = search rules in
    let three : c.push-2.new.self.items ≡ c.extend_from_slice.new.self.items ++ 10 ∷ [] = search rules in
    let all = three ∙ ap (λ (xs : List ℕ). xs ++ 10 ∷ []) (two ∙ ap (λ (xs : List ℕ). xs ++ time) one ∙ append_assoc old (32 ∷ []) time) in
    (time, c.moment_text.ensures, all)
