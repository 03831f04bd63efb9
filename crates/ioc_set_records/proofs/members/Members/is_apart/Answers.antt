use Rattle.std.proofs.Common.{◌≡◌, ℕ, None, ap, subst, ◌∙◌}
use Rattle.std.specs.Prelude.{◌↔◌, IsTrue, IsSome}
use Rattle.std.specs.FinMap.{get}
use Rattle.ioc_set_records.specs.Contents.{Records}
use Rattle.ioc_set_records.specs.Slots.{records_of}
use Rattle.ioc_set_records.proofs.members.Members.is_apart.Goals as goal

pub returns : goal.returns
returns g c =
    let P : Records g.row.K.Denot → Records g.row.K.Denot → Type 0 = λ a b. IsTrue c.are_apart.result ↔ ((q : ℕ) → IsSome (get a q) → get b q ≡ None) in
    subst (λ a. P a c.args.other.now.records) (ap records_of c.deref.ensures.value ∙ ap (λ z. z.records) c.self.view_is)
    (subst (λ b. P (records_of c.deref.result.now) b) (ap records_of c.deref-2.ensures.value ∙ ap (λ z. z.records) c.other.view_is) c.are_apart.ensures)
