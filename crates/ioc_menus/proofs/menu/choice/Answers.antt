use Rattle.std.proofs.Common.{◌≡◌, ◌∙◌, ap, position, None, rules}
use Rattle.std.specs.Str.{bytes_eq}
use Rattle.ioc_menus.proofs.Positions.{position-now}
use Rattle.ioc_menus.proofs.menu.choice.Goals as goal

pub returns-in_err-number : goal.returns-in_err-number
returns-in_err-number c =
    let e : c.from_residual.result ≡ None = search rules in
    e ∙ c.in_err-number.ensures.value ∙ position-now c.args.text.now c.choices.result.now ∙ ap (λ xs. position (λ x. bytes_eq x c.args.text.now) xs) c.choices.ensures.texts

pub returns : goal.returns
returns c =
    c.in_ok-number.ensures.value ∙ position-now c.args.text.now c.choices.result.now ∙ ap (λ xs. position (λ x. bytes_eq x c.args.text.now) xs) c.choices.ensures.texts
