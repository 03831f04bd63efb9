use Rattle.std.proofs.Common.{sym, subst, ◌⊎◌, ◌≡◌, ℕ, List}
use Rattle.std.specs.Prelude.{IsTrue}
use Rattle.std.specs.FinMap.{contains_key}
use Rattle.ioc_set_records.specs.Changed.{IsListed}
use Rattle.ioc_set_records.specs.Contents.{record_at}
use Rattle.ioc_set_records.proofs.Marked.{listed_or_same}
use Rattle.ioc_set_records.proofs.members.Members.changed.Goals as goal

pub returns : goal.returns
returns g c =
    let k = g.K.RecordKind.rules in
    let m = c.args.self.now in
    subst (λ (places : List ℕ). (n : ℕ) → IsTrue (contains_key m.records n) → IsListed m.records places n ⊎ (record_at k m.base n ≡ record_at k m.records n))
    (sym c.as_slice.ensures.value)
    (listed_or_same k c.self.inside.slots.items m c.self.invariant.ascending c.self.view_is c.self.inside.changed.items c.self.invariant.tracked)
