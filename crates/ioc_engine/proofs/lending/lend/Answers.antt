use Rattle.std.proofs.lemmas.Result.{err_from_is_err_and}
use Rattle.std.proofs.Common.{◌⊎◌, inl, inr}
use Rattle.ioc_engine.proofs.lending.lend.Goals as goal

-- The errors of a desk among those of an engine that is lent.
among : {A B C D : Type 0} → A ⊎ (B ⊎ C) → D ⊎ (C ⊎ (B ⊎ A))
among (inl a) = inr (inr (inr a))
among (inr (inl b)) = inr (inr (inl b))
among (inr (inr c)) = inr (inl c)

pub returns-in_err-desk-clause-refused : goal.returns-in_err-desk-clause-refused
returns-in_err-desk-clause-refused g c =
    let p = err_from_is_err_and c.from_residual-in_err-desk.result c.from_residual-in_err-desk.ensures.1 in
    rw (p.1, p.2) (among c.in_err-desk.ensures.refused)
