-- Counts that add up: the empty ones, those of two sets together, and those of the two parts of a
-- set that is divided.
use Rattle.std.proofs.Common.{◌≡◌, ℕ, zero, suc, ◌+◌, ◌-◌, ◌^◌, ◌<◌, ◌≤◌, ◌⊎◌, Bool, true, false, cond, eqb, inl, inr, refl, sym, subst, ◌∙◌, ⊎_elim, arith}
use Rattle.std.proofs.lemmas.Bool.{eqb-true, eqb-false, cases_lt}
use Rattle.ioc_ledger.specs.declared.tally.Tally.{Tally}
use Rattle.ioc_ledger.specs.Requests.{filled, more, more_by, counted_started, counted_completion}
use Rattle.ioc_set.specs.Linking.{awaited_alone}
use Rattle.ioc_ledger.specs.Requests.{added}
use Rattle.ioc_ledger.specs.Shared.{less_awaited}
use Rattle.ioc_set.specs.Sound.{CountsAddUp}
use Rattle.ioc_set.proofs.Sums.{added_fits, added_adds_up, filled-fits}

pub none_add_up : (t : Tally) → (t.begun ≡ 0) × ((t.processed ≡ 0) × ((t.disabled ≡ 0) × ((t.active ≡ 0) × ((t.reprocess ≡ 0) × ((t.started ≡ 0) × (t.completed ≡ 0)))))) → (still : ℕ) → still ≡ 0 → CountsAddUp t still
none_add_up t none still is = record {
  fits = (omega (arith, none.0), omega (arith, none.1.0), omega (arith, none.1.1.0), omega (arith, none.1.1.1.0), omega (arith, none.1.1.1.1.0));
  adds_up = inr (omega (arith, none.0, none.1.0, none.1.1.0, none.1.1.1.0, none.1.1.1.1.0));
  answers_fit = (omega (arith, none.1.1.1.1.1.0), omega (arith, none.1.1.1.1.1.1));
  answers_add_up = inr (omega (arith, none.1.1.1.1.1.0, none.1.1.1.1.1.1, is));
}

-- Lemmas about calls that are answered later, those completed, and those still awaited.

-- The counts add up after two sets have become one.
both_full : (s u : ℕ) → s ≡ 2 ^ 64 - 1 → filled s u ≡ 2 ^ 64 - 1
both_full s u is = omega (arith, is)

other_full : (s u : ℕ) → u ≡ 2 ^ 64 - 1 → filled s u ≡ 2 ^ 64 - 1
other_full s u is = omega (arith, is)

sums : (s c still u d more_still : ℕ) → s ≡ c + still → u ≡ d + more_still → (s + u < 2 ^ 64) ⊎ (2 ^ 64 ≤ s + u) → (filled s u ≡ 2 ^ 64 - 1) ⊎ (filled s u ≡ filled c d + (still + more_still))
sums s c still u d more_still one two (inl few) = inr (omega (arith, one, two, few))
sums s c still u d more_still one two (inr many) = inl (omega (arith, many))

both_answers : (s c still u d more_still : ℕ) → (s ≡ 2 ^ 64 - 1) ⊎ (s ≡ c + still) → (u ≡ 2 ^ 64 - 1) ⊎ (u ≡ d + more_still) → (filled s u ≡ 2 ^ 64 - 1) ⊎ (filled s u ≡ filled c d + (still + more_still))
both_answers s c still u d more_still (inl is) two = inl (both_full s u is)
both_answers s c still u d more_still (inr one) (inl is) = inl (other_full s u is)
both_answers s c still u d more_still (inr one) (inr two) = sums s c still u d more_still one two (cases_lt (s + u) (2 ^ 64))

pub both_add_up : (t u : Tally) (still more_still all : ℕ) → CountsAddUp t still → CountsAddUp u more_still → all ≡ still + more_still → CountsAddUp (added t u) all
both_add_up t u still more_still all one other is = record {
  fits = added_fits t u;
  adds_up = added_adds_up t u one.adds_up other.adds_up;
  answers_fit = (filled-fits t.started u.started, filled-fits t.completed u.completed);
  answers_add_up =
      subst (λ (n : ℕ). (filled t.started u.started ≡ 2 ^ 64 - 1) ⊎ (filled t.started u.started ≡ filled t.completed u.completed + n)) (sym is)
      (both_answers t.started t.completed still u.started u.completed more_still one.answers_add_up other.answers_add_up);
}

-- The counts of the rest add up after a set is divided.
pub rest_adds_up : (count : ℕ) → count < 2 ^ 63 → CountsAddUp (awaited_alone count) count
rest_adds_up count few = record {
  fits = (omega arith, omega arith, omega arith, omega arith, omega arith);
  adds_up = inr (omega arith);
  answers_fit = (omega (arith, few), omega arith);
  answers_add_up = inr (omega arith);
}

-- The counts of what stays fit after a set is divided.
left_fits : (s count : ℕ) (b : Bool) → s < 2 ^ 64 → cond b s (s - count) < 2 ^ 64
left_fits s count true fits = fits
left_fits s count false fits = omega (arith, fits)

left_answers : (s c still stays count : ℕ) (b : Bool) → eqb s (2 ^ 64 - 1) ≡ b → (s ≡ 2 ^ 64 - 1) ⊎ (s ≡ c + still) → still ≡ stays + count → (cond b s (s - count) ≡ 2 ^ 64 - 1) ⊎ (cond b s (s - count) ≡ c + stays)
left_answers s c still stays count true full one is = inl (eqb-true s (2 ^ 64 - 1) full)
left_answers s c still stays count false full (inl one) is = absurd (eqb-false s (2 ^ 64 - 1) full one)
left_answers s c still stays count false full (inr one) is = inr (omega (arith, one, is))

pub stay_adds_up : (t : Tally) (still stays count : ℕ) → CountsAddUp t still → still ≡ stays + count → CountsAddUp (less_awaited t count) stays
stay_adds_up t still stays count one is = record {
  fits = one.fits;
  adds_up = one.adds_up;
  answers_fit = (left_fits t.started count (eqb t.started (2 ^ 64 - 1)) one.answers_fit.0, one.answers_fit.1);
  answers_add_up = left_answers t.started t.completed still stays count (eqb t.started (2 ^ 64 - 1)) refl one.answers_add_up is;
}

-- Both parts together have the former counts.
alone_filled : (n : ℕ) → n < 2 ^ 64 → filled n 0 ≡ n
alone_filled n fits = omega (arith, fits)

left_filled : (s c still stays count : ℕ) (b : Bool) → eqb s (2 ^ 64 - 1) ≡ b → s < 2 ^ 64 → (s ≡ 2 ^ 64 - 1) ⊎ (s ≡ c + still) → still ≡ stays + count → filled (cond b s (s - count)) count ≡ s
left_filled s c still stays count true full fits one is = let same = eqb-true s (2 ^ 64 - 1) full in omega (arith, same)
left_filled s c still stays count false full fits (inl one) is = absurd (eqb-false s (2 ^ 64 - 1) full one)
left_filled s c still stays count false full fits (inr one) is = omega (arith, one, is, fits)

pub parts_add_up : (t : Tally) (still stays count : ℕ) → CountsAddUp t still → still ≡ stays + count → added (less_awaited t count) (awaited_alone count) ≡ t
parts_add_up t still stays count one is = λ i. record {
  begun = alone_filled t.begun one.fits.0 i;
  processed = alone_filled t.processed one.fits.1 i;
  disabled = alone_filled t.disabled one.fits.2 i;
  active = alone_filled t.active one.fits.3 i;
  reprocess = alone_filled t.reprocess one.fits.4 i;
  started = left_filled t.started t.completed still stays count (eqb t.started (2 ^ 64 - 1)) refl one.answers_fit.0 one.answers_add_up is i;
  completed = alone_filled t.completed one.answers_fit.1 i;
}

-- After an event, this many more calls are answered later, and one or none is completed.
more_is_filled : (s later : ℕ) → s < 2 ^ 64 → more_by s later ≡ filled s later
more_is_filled s zero fits = omega (arith, fits)
more_is_filled s (suc later) fits = refl

-- The count with one or none completed.
abbrev one_completed : Bool → ℕ → ℕ
one_completed true c = more c
one_completed false c = c

few_completed : (c : ℕ) (b : Bool) → c < 2 ^ 64 → one_completed b c < 2 ^ 64
few_completed c true fits = omega arith
few_completed c false fits = fits

exact : (s c still later after : ℕ) (b : Bool) → s ≡ c + still → after + cond b 1 0 ≡ still + later → s + later < 2 ^ 64 - 1 → filled s later ≡ one_completed b c + after
exact s c still later after true one law few = omega (arith, one, law, few)
exact s c still later after false one law few = omega (arith, one, law, few)

then_answers : (s c still later after : ℕ) (b : Bool) → (s ≡ 2 ^ 64 - 1) ⊎ (s ≡ c + still) → after + cond b 1 0 ≡ still + later → (filled s later ≡ 2 ^ 64 - 1) ⊎ (filled s later ≡ one_completed b c + after)
then_answers s c still later after b (inl is) law = inl (omega (arith, is))
then_answers s c still later after b (inr one) law =
    ⊎_elim (λ few. inr (exact s c still later after b one law few)) (λ many. inl (omega (arith, many))) (cases_lt (s + later) (2 ^ 64 - 1))

-- The counts beside those of the requests.
pub record AnswersAddUp (t : Tally) (still : ℕ) : Type 0 where
  pub fit : (t.started < 2 ^ 64) × (t.completed < 2 ^ 64)
  pub add_up : (t.started ≡ 2 ^ 64 - 1) ⊎ (t.started ≡ t.completed + still)

pub answers_same : (t u : Tally) (still : ℕ) → u.started ≡ t.started → u.completed ≡ t.completed → AnswersAddUp t still → AnswersAddUp u still
answers_same t u still started completed one = record {
  fit = (omega (arith, started, one.fit.0), omega (arith, completed, one.fit.1));
  add_up = ⊎_elim (λ is. inl (started ∙ is)) (λ is. inr (omega (arith, started, completed, is))) one.add_up;
}

then_add_up : (s c still later after : ℕ) (b : Bool) → (s < 2 ^ 64) × (c < 2 ^ 64) → (s ≡ 2 ^ 64 - 1) ⊎ (s ≡ c + still) → after + cond b 1 0 ≡ still + later
    → (more_by s later ≡ 2 ^ 64 - 1) ⊎ (more_by s later ≡ one_completed b c + after)
then_add_up s c still later after b fit add_up law =
    subst (λ (n : ℕ). (n ≡ 2 ^ 64 - 1) ⊎ (n ≡ one_completed b c + after)) (sym (more_is_filled s later fit.0)) (then_answers s c still later after b add_up law)

more_fits : (s later : ℕ) → s < 2 ^ 64 → more_by s later < 2 ^ 64
more_fits s later fits = subst (λ (n : ℕ). n < 2 ^ 64) (sym (more_is_filled s later fits)) (filled-fits s later)

pub answers_then : (b : Bool) (t : Tally) (still later after : ℕ) → AnswersAddUp t still → after + cond b 1 0 ≡ still + later
    → AnswersAddUp (cond b (counted_completion (counted_started t later)) (counted_started t later)) after
answers_then true t still later after one law = record {
  fit = (more_fits t.started later one.fit.0, few_completed t.completed true one.fit.1);
  add_up = then_add_up t.started t.completed still later after true one.fit one.add_up law;
}
answers_then false t still later after one law = record {
  fit = (more_fits t.started later one.fit.0, one.fit.1);
  add_up = then_add_up t.started t.completed still later after false one.fit one.add_up law;
}
