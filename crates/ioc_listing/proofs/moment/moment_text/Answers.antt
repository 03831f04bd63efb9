use Rattle.std.proofs.Common.{rules, ◌≡◌, ◌∙◌, ℕ, List, ◌++◌, Bool, Option, Some, ap, subst, pos}
use Rattle.jiff_fmt.specs.Text.{datetime_text, zulu_text}
use Rattle.ioc_listing.proofs.moment.moment_text.Goals as goal

pub returns : goal.returns
returns c =
    let text : List ℕ = c.timestamp_text.result.bytes in
    let shown = c.timestamp_text.ensures.0 in
    let at : c.to_plain.result.nanosecond ≡ pos c.args.nanoseconds = search rules in
    let options = c.precision.ensures ∙ ap (λ (o : Bool × ℕ × Option ℕ). (o.0, o.1, Some 9)) c.new.ensures in
    let printed = subst (λ (o : Bool × ℕ × Option ℕ). text ≡ datetime_text o.0 o.1 o.2 shown ++ zulu_text o.0) options c.timestamp_text.ensures.2 in
    (shown, c.timestamp_text.ensures.1 ∙ at, printed)
