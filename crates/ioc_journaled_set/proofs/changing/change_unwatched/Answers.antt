use Rattle.std.proofs.Common.{◌≡◌, ℕ, false, true, sym, ◌∙◌, subst}
use Rattle.std.specs.Prelude.{Contains, IsSome}
use Rattle.std.specs.FinMap.{get}
use Rattle.ioc_dbcommon.specs.Links.{use_of, named_by}
use Rattle.ioc_journaled_set.specs.Holding.{HeldView}
use Rattle.ioc_journaled_set.proofs.Lending.{lent_known, lent_to}
use Rattle.ioc_journaled_set.proofs.changing.change_unwatched.Goals as goal

false_true : false ≡ true → ⊥
false_true e = cc

pub refuse_link-requires-clause-known : goal.refuse_link-requires-clause-known
refuse_link-requires-clause-known g c =
    let k = g.K.RecordKind.rules in
    let base = g.B.JournalName.base in
    lent_known k base c.args.change.number c.args.first.now c.args.second.now c.args.spare.now c.is_sound.ensures c.is_sound-then-forbids.ensures (use_of c.args.change.link) c.requires.lent

pub lead_first-requires-clause-to : goal.lead_first-requires-clause-to
lead_first-requires-clause-to g c =
    lent_to c.args.change.number c.args.first.now c.args.second.now c.args.spare.now (use_of c.args.change.link) c.requires.lent
    (λ within. false_true (sym c.if-leads_within.false ∙ c.leads_within.ensures.1
    (subst (λ (v : HeldView g.row.K.Denot g.row.D.Denot). (t : ℕ) → Contains (named_by (use_of c.args.change.link)) t → IsSome (get v.set.records t)) (sym c.first.view_is) within)))
