-- The device of a record answers as the attached device of its set does.
use Rattle.std.proofs.Common.{◌≡◌, ℕ, Bool, Option, Some, None, true, false, cond, refl, sym, ap, ◌∙◌, subst, arith}
use Rattle.std.specs.Prelude.{◌==◌, is_some}
use Rattle.std.proofs.lemmas.Bool.Decides.{nat_tests}
use Rattle.std.specs.Option.{option_map}
use Rattle.std.specs.Cmp.{nat_cmp_total, unsigned_tied}
use Rattle.std.specs.FinMap.{get, get-insert}
use Rattle.ioc_device.specs.declared.Ask.{Ask}
use Rattle.ioc_device.specs.declared.Answer.{Answer}
use Rattle.ioc_set_records.specs.Contents.{Records, Devices, with_device as with_device_of}
use Rattle.ioc_set_records.specs.Answers.{Gives, GivesAt}
use Rattle.ioc_store.specs.Given.{DeviceGives, its_device, with_device}
use Rattle.ioc_set.specs.declared.attached.Attached.{Attached}
use Rattle.ioc_set.specs.Attached.{AttachedGives}

pub same_number : (m n : ℕ) → (m == n) ≡ true → m ≡ n
same_number m n e = grind (arith, nat_tests)

pub some_of : {X : Type 0} (o : Option X) → is_some o ≡ true → (x : X) × (o ≡ Some x)
some_of None is = absurd (let h : false ≡ true = is in cc)
some_of (Some x) is = (x, refl)

module _ {R D : Type 0} where
  abbrev pub beside : Option D → R → Attached R D
  beside device base = record { base = base; device = device }

  module _ (gives : D → Ask → ℕ → Answer → D → Type 0) (base : Records R) (ds es : Devices D) (n : ℕ) (ask : Ask) (moment : ℕ) (answer : Answer) where
    no_other : (m : ℕ) (b : Bool) → (m == n) ≡ b → get ds n ≡ None → get ds m ≡ cond b None (get ds m)
    no_other m true same none = ap (get ds) (same_number m n same) ∙ none
    no_other m false other none = refl

    -- The devices after an answer.
    after_all : (o after : Option D) → get ds n ≡ o → Gives gives o ask moment answer after → es ≡ with_device_of ds n after → (m : ℕ) → get es m ≡ cond (m == n) after (get ds m)
    after_all (Some before) after is given e m =
        ap (λ (z : Devices D). get z m) (e ∙ ap (with_device_of ds n) given.2)
        ∙ get-insert nat_cmp_total ds n given.0 m
        ∙ ap (λ b. cond b (Some given.0) (get ds m)) (unsigned_tied m n)
        ∙ ap (λ (o : Option D). cond (m == n) o (get ds m)) (sym given.2)
    after_all None after is given e m =
        ap (λ (z : Devices D). get z m) (e ∙ ap (with_device_of ds n) given.1)
        ∙ no_other m (m == n) refl is
        ∙ ap (λ (o : Option D). cond (m == n) o (get ds m)) (sym given.1)

    one_set : (m : ℕ) (b : Bool) (r : R) (after : Option D) → (m == n) ≡ b → get base n ≡ Some r
        → option_map (beside (cond b after (get ds m))) (get base m) ≡ cond b (Some (beside after r)) (option_map (beside (get ds m)) (get base m))
    one_set m true r after same is = ap (λ q. option_map (beside after) (get base q)) (same_number m n same) ∙ ap (option_map (beside after)) is
    one_set m false r after other is = refl

    pub given_at : (r : R) → get base n ≡ Some r → GivesAt gives ds n ask moment answer es
        → DeviceGives (AttachedGives {R = R} gives) (λ m. option_map (beside (get ds m)) (get base m)) moment (record { target = n; ask = ask; answer = answer })
        (λ m. option_map (beside (get es m)) (get base m))
    unfolding with_device
    given_at r is g =
        let before : ℕ → Option (Attached R D) = λ m. option_map (beside (get ds m)) (get base m) in
        let after : Attached R D = beside g.0 r in
        let all : (λ (m : ℕ). option_map (beside (get es m)) (get base m)) ≡ with_device before n after =
        λ i m. (ap (λ (o : Option D). option_map (beside o) (get base m)) (after_all (get ds n) g.0 refl g.1 g.2 m) ∙ one_set m (m == n) r g.0 refl is) i in
        subst (λ (z : ℕ → Option (Attached R D)). DeviceGives (AttachedGives {R = R} gives) before moment (record { target = n; ask = ask; answer = answer }) z) (sym all)
        (its_device (ap (option_map (beside (get ds n))) is) (g.1, refl))
