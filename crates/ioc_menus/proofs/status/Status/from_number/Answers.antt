use Rattle.std.proofs.Common.{◌∙◌, sym, ap}
use Rattle.std.specs.Prelude.{slice_get}
use Rattle.ioc_menus.specs.Numbers.{statuses}
use Rattle.ioc_menus.proofs.StatusNumbers.{at_number, number_of}
use Rattle.ioc_menus.proofs.status.Status.from_number.Goals as goal

pub returns-clause-numbered : goal.returns-clause-numbered
returns-clause-numbered c choice =
    let e = c.choice_at.ensures in
    (λ h. number_of c.args.number choice (sym e ∙ h), λ h. e ∙ (ap (slice_get statuses) (sym h) ∙ at_number choice))
