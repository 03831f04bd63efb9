-- A set without records is held as a part of any world.
use Rattle.std.proofs.Common.{◌≡◌, ℕ, true, false, List, [], Option, None, sym, ap, ◌∙◌, subst, arith}
use Rattle.std.specs.Prelude.{Contains, is_some, unwrap_or}
use Rattle.std.specs.Ordering.{nat_cmp}
use Rattle.std.specs.FinMap.{empty, get, get-empty, keys}
use Rattle.atomic_table.specs.Seated.{TableId}
use Rattle.ioc_record.specs.RecordRules.{RecordRules, targets}
use Rattle.ioc_store.specs.World.{World, Has, IsClosed, at}
use Rattle.ioc_journal.specs.Covering.{Holds}
use Rattle.ioc_set.specs.SetState.{SetState, nothing_held}
use Rattle.ioc_set.specs.Resting.{resting}
use Rattle.ioc_journaled_set.specs.Holding.{IsHeld}
use Rattle.ioc_journaled_set.proofs.Keys.{no_keys}

none_in : {A : Type 0} (x : A) → Contains [] x → ⊥
none_in x c = let l = c.1 in omega arith

false_true : false ≡ true → ⊥
false_true e = cc

none_at : (R : Type 0) (n : ℕ) → get (empty {K = ℕ} {X = R} {R = nat_cmp}) n ≡ None
none_at R n = get-empty nat_cmp n

nowhere : (R : Type 0) (n : ℕ) → is_some (get (empty {K = ℕ} {X = R} {R = nat_cmp}) n) ≡ true → ⊥
nowhere R n has = false_true (sym (ap (λ (o : Option R). is_some o) (none_at R n)) ∙ has)

module _ {R : Type 0} (k : RecordRules R) (missing : targets k k.missing ≡ []) where
  closed : IsClosed k (resting empty [] [])
  unfolding at
  closed = record { closed = λ n target c. absurd (none_in target (subst (λ (l : List ℕ). Contains l target) (ap (λ (o : Option R). targets k (unwrap_or o k.missing)) (none_at R n) ∙ missing) c)) }

  pub nothing_is_held : {D : Type 0} (base : World R) (had : ℕ → Option D → Type 0) (table : TableId) (h : SetState R D) → h ≡ nothing_held → IsHeld k base had table None h
  nothing_is_held {D} base had table h is = subst (λ (x : SetState R D). IsHeld k base had table None x) (sym is) (record {
    owner = λ n has. nowhere R n has;
    holds = record { records = λ n has. absurd (nowhere R n has); waiting = λ n has. absurd (nowhere R n has); within = λ x c. absurd (none_in x c); shut = closed; apart = λ a n out has names. nowhere R n has };
    devices = λ n has. absurd (nowhere R n has);
  })

pub no_numbers : {R D : Type 0} (h : SetState R D) → h ≡ nothing_held → keys h.records ≡ []
no_numbers {R} {D} h is = ap (λ (x : SetState R D). keys x.records) is ∙ no_keys R

-- A set without records is held as a part of any world.
pub nothing_known : {R : Type 0} (k : RecordRules R) (m m' v : World R) → ((n : ℕ) → Has v n → ⊥) → Holds k m v → Holds k m' v
nothing_known k m m' v none h = record { records = λ n has. absurd (none n has); waiting = λ n has. absurd (none n has); within = h.within; shut = h.shut; apart = λ a n out has c. none n has }
