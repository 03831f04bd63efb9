use Rattle.std.proofs.Common.{◌∙◌, sym}
use Rattle.ioc_set_records.proofs.Ordered.{none_stands, stands_for_none}
use Rattle.std.proofs.lemmas.Bool.Decides.{Decides-eqb}
use Rattle.std.specs.Vec.{vec_len}
use Rattle.ioc_set_records.proofs.members.Members.is_empty.Goals as goal

pub returns : goal.returns
returns g c =
    let test = Decides-eqb (vec_len c.self.inside.slots) 0 in (
      λ e. sym c.self.view_is ∙ none_stands c.self.inside.slots.items (sym c.self.inside.slots.ok.0 ∙ test.0 (sym c.is_empty.ensures ∙ e)),
      λ e. c.is_empty.ensures ∙ test.1 (c.self.inside.slots.ok.0 ∙ stands_for_none c.self.inside.slots.items c.self.invariant.ascending (c.self.view_is ∙ e)),
    )
