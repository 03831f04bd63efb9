-- Texts that are read byte by byte, and cut.
use Rattle.std.proofs.Common.{◌≡◌, ℕ, zero, suc, ◌≤◌, ◌<◌, List, [], ◌∷◌, ◌++◌, length, take, refl, sym, ap, ◌∙◌, append_assoc, append-nil, arith, Option, Some, None, option_map}
use Rattle.std.proofs.lemmas.List.{take_all, length-take}
use Rattle.ioc_commands.specs.declared.texts.Escape.{Escape}
use Rattle.ioc_commands.specs.declared.texts.Escape.TheVariants.{No, Begun, Number, High}
use Rattle.ioc_commands.specs.declared.texts.Step.{Step}
use Rattle.ioc_commands.specs.declared.texts.Step.TheVariants.{Bad, GoesOn, Ends}
use Rattle.ioc_commands.specs.Texts.{step_of, unescaped, then_read, at_end}

-- The first 64 bytes of a text whose beginning was read.
abbrev pub behind_step : (Escape → List ℕ → Option (List ℕ)) → List ℕ → Step → Option (List ℕ)
behind_step rest text Bad = None
behind_step rest text (GoesOn state) = rest state text
behind_step rest text (Ends byte) = rest No (take 64 (text ++ byte ∷ []))

abbrev pub whole_at_end : Escape → List ℕ → Option (List ℕ)
whole_at_end No text = Some text
whole_at_end state text = None

abbrev pub read_behind : List ℕ → Escape → List ℕ → Option (List ℕ)
read_behind [] state text = whole_at_end state text
read_behind (b ∷ bs) state text = behind_step (read_behind bs) text (step_of state b)

cut_again : (n : ℕ) (xs ys : List ℕ) → take n (take n xs ++ ys) ≡ take n (xs ++ ys)
cut_again zero xs ys = refl
cut_again (suc n) [] ys = refl
cut_again (suc n) (x ∷ xs) ys = ap (λ (l : List ℕ). x ∷ l) (cut_again n xs ys)

-- What is read behind a text that was read.
abbrev after : List ℕ → Option (List ℕ) → Option (List ℕ)
after text more = option_map (λ (t : List ℕ). take 64 (text ++ t)) more

byte_cut : (text : List ℕ) (b : ℕ) (more : Option (List ℕ)) → after (take 64 (text ++ b ∷ [])) more ≡ after text (option_map (λ (t : List ℕ). b ∷ t) more)
byte_cut text b None = refl
byte_cut text b (Some t) = ap Some (cut_again 64 (text ++ b ∷ []) t ∙ ap (take 64) (append_assoc text (b ∷ []) t))

end_read : (state : Escape) (text : List ℕ) → length text ≤ 64 → whole_at_end state text ≡ after text (at_end state)
end_read No text h = ap Some (sym (ap (take 64) (append-nil text) ∙ take_all 64 text h))
end_read Begun text h = refl
end_read Number text h = refl
end_read (High high) text h = refl

step_read : (bs : List ℕ) → ((state : Escape) (text : List ℕ) → length text ≤ 64 → read_behind bs state text ≡ after text (unescaped bs state)) → (step : Step) (text : List ℕ) → length text ≤ 64 → behind_step (read_behind bs) text step ≡ after text (then_read (unescaped bs) step)
step_read bs more Bad text h = refl
step_read bs more (GoesOn state) text h = more state text h
step_read bs more (Ends b) text h = more No (take 64 (text ++ b ∷ [])) (omega (arith, length-take 64 (text ++ b ∷ []))) ∙ byte_cut text b (unescaped bs No)

read_on : (bs : List ℕ) (state : Escape) (text : List ℕ) → length text ≤ 64 → read_behind bs state text ≡ after text (unescaped bs state)
read_on [] state text h = end_read state text h
read_on (b ∷ bs) state text h = step_read bs (read_on bs) (step_of state b) text h

pub read_from_the_start : (bs : List ℕ) → read_behind bs No [] ≡ option_map (take 64) (unescaped bs No)
read_from_the_start bs = read_on bs No [] (omega arith)

-- What was read is whole when no byte is left.
pub read_to_the_end : (bs rest text : List ℕ) (state : Escape) → length rest < 1 → read_behind rest state text ≡ read_behind bs No [] → whole_at_end state text ≡ option_map (take 64) (unescaped bs No)
read_to_the_end bs [] text state h i = i ∙ read_from_the_start bs
read_to_the_end bs (b ∷ r) text state h i = absurd (omega (arith, h))

-- No text is whole while an escape is open.
pub cut_short : (state : Escape) (text : List ℕ) → (state ≡ No → ⊥) → whole_at_end state text ≡ None
cut_short No text h = absurd (h refl)
cut_short Begun text h = refl
cut_short Number text h = refl
cut_short (High high) text h = refl
