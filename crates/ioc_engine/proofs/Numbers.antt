-- Devices with numbers.
use Rattle.std.proofs.Common.{◌≡◌, ◌+◌, ℕ, List, [], ◌∷◌, ◌++◌, length, refl, sym, ap, ◌∙◌, arith}
use Rattle.ioc_device.specs.declared.Ask.{Ask}
use Rattle.ioc_device.specs.declared.Answer.{Answer}
use Rattle.ioc_journaled_set.specs.SameDevice.{AnswersLead, no_answer, one_more}
use Rattle.ioc_engine.specs.declared.numbered.Numbered.{Numbered}
use Rattle.ioc_engine.specs.Numbers.{numbered_gives, numbered_from}

module _ {N D : Type 0} where
  append_from : (first : ℕ) (ds : List (N × D)) (d : N × D) → numbered_from first (ds ++ d ∷ []) ≡ numbered_from first ds ++ (d.0, record { number = first + length ds; device = d.1 }) ∷ []
  append_from first [] d = let e : first ≡ first + 0 = omega arith in ap (λ (n : ℕ). (d.0, record { number = n; device = d.1 }) ∷ []) e
  append_from first (e ∷ es) d =
      let same : first + 1 + length es ≡ first + length (e ∷ es) = omega arith in
      ap (λ (l : List (N × Numbered D)). (e.0, record { number = first; device = e.1 }) ∷ l)
      (append_from (first + 1) es d ∙ ap (λ (n : ℕ). numbered_from (first + 1) es ++ (d.0, record { number = n; device = d.1 }) ∷ []) same)

  as_many : (first : ℕ) (ds : List (N × D)) → length (numbered_from first ds) ≡ length ds
  as_many first [] = refl
  as_many first (d ∷ ds) = let e = as_many (first + 1) ds in omega (arith, e)

  -- One more device gets the next number.
  pub next_numbered : (gone : List (N × D)) (all then : List (N × Numbered D)) (d : N × D) → all ≡ numbered_from 0 gone → then ≡ all ++ (d.0, record { number = length all; device = d.1 }) ∷ []
      → then ≡ numbered_from 0 (gone ++ d ∷ [])
  next_numbered gone all then d so is =
      let many : length all ≡ 0 + length gone = let e = as_many 0 gone in let f = ap (λ (l : List (N × Numbered D)). length l) so in omega (arith, e, f) in
      is ∙ ap (λ (l : List (N × Numbered D)). l ++ (d.0, record { number = length all; device = d.1 }) ∷ []) so
      ∙ ap (λ (n : ℕ). numbered_from 0 gone ++ (d.0, record { number = n; device = d.1 }) ∷ []) many ∙ sym (append_from 0 gone d)

module _ {D : Type 0} where
  -- The number stays over all answers of the device.
  pub number_stays : (gives : D → Ask → ℕ → Answer → D → Type 0) {first last : Numbered D} → AnswersLead (numbered_gives gives) first last → (last.number ≡ first.number) × AnswersLead gives first.device last.device
  number_stays gives no_answer = (refl, no_answer)
  number_stays gives (one_more before given) = let b = number_stays gives before in (given.0 ∙ b.0, one_more b.1 given.1)
