-- The keys of all records.
use Rattle.std.proofs.Common.{◌≡◌, List, ◌∷◌, ap, subst, ⊎_elim, arith}
use Rattle.ioc_journal.specs.Key.{Key, Has}

-- Keys of records together with the key of the puts with notification include no key of a desk.
pub no_desks_with : (born now : List Key) → ((key : Key) → Has key born → key.0 ≡ 0) → now ≡ (2, 0) ∷ born → (key : Key) → Has key now → key.0 ≡ 1 → ⊥
no_desks_with born now records is key has one =
    ⊎_elim (λ (e : (2, 0) ≡ key). let z = ap (λ (p : Key). p.0) e in absurd (omega (arith, one, z)))
    (λ (t : Has key born). let z = records key t in absurd (omega (arith, one, z)))
    (subst (λ (ks : List Key). Has key ks) is has)
