use Rattle.std.proofs.Common.{◌≡◌, sym, subst, ⊎_elim}
use Rattle.crossbeam_utils.specs.Seq.{cell_view}
use Rattle.ioc_journal.specs.Key.{Key, Has}
use Rattle.ioc_journal.proofs.pass.claim_as.Goals as goal

pub claim-requires-clause-fresh : goal.claim-requires-clause-fresh
claim-requires-clause-fresh g c = λ k has born.
    ⊎_elim
    (λ (e : (c.args.kind, c.args.number) ≡ k). c.requires.fresh (subst (λ (q : Key). Has q (cell_view c.args.master.now).born) (sym e) born))
    (λ (b : ⊥). b)
    (subst (Has k) c.requires.keys has)
