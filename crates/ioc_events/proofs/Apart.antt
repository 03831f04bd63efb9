-- Between events, those that wait for some records are apart from those that wait for others.
use Rattle.std.proofs.Common.{◌≡◌, ◌≢◌, ℕ, zero, suc, ◌+◌, ◌≤◌, Bool, true, false, cond, not, eqb, nat_lt, length, List, [], ◌∷◌, Option, Some, None as Nothing_, refl, sym, ap, subst, ◌∙◌, arith}
use Rattle.std.specs.Prelude.{Contains}
use Rattle.std.proofs.lemmas.Bool.{eq-eqb, and_parts}
use Rattle.ioc_notify.specs.declared.waiting_lists.Waiting.{Waiting}
use Rattle.ioc_notify.specs.Living.{is_live}
use Rattle.ioc_record.specs.RecordRules.{RecordRules}
use Rattle.ioc_record.specs.Laws.{IsLawful}
use Rattle.ioc_store.specs.World.{World, has_place}
use Rattle.ioc_events.specs.declared.event.Event.{Event}
use Rattle.ioc_events.specs.declared.event.Event.TheVariants.{Process, Put, Complete, Notify, Cancel}
use Rattle.ioc_events.specs.declared.event.Call.{Call}
use Rattle.ioc_events.specs.declared.event.Call.TheVariants as call
use Rattle.ioc_events.specs.Calls.{named}
use Rattle.ioc_events.specs.Holding.{how_many, IsCounted, in_a_waiting_list, Cancels}
use Rattle.ioc_events.specs.Local.{number_of, KeepsApart, IsWithin, IsCallWithin}
use Rattle.ioc_events.specs.Starting.{NoneReady}
use Rattle.ioc_events.specs.Step.{names}
use Rattle.ioc_events.proofs.Besides.{not_both}
use Rattle.ioc_events.proofs.Ended.{there-counted, live-is}

abbrev waiters : ℕ → List Waiting → ℕ
waiters = how_many (λ (x : Waiting). x.number)

-- Two that wait for different records with one number are counted twice.
counted-twice : (xs : List Waiting) (x y : Waiting) → Contains xs x → Contains xs y → x.number ≡ y.number → x.target ≢ y.target → 2 ≤ waiters x.number xs
counted-twice [] x y (i, lt, is) other same apart = absurd (omega arith)
counted-twice (z ∷ xs) x y (zero, lt, is) (zero, other_lt, other_is) same apart = absurd (apart (ap (λ (v : Waiting). v.target) (sym is ∙ other_is)))
counted-twice (z ∷ xs) x y (zero, lt, is) (suc j, other_lt, other_is) same apart =
    let rest : 1 ≤ waiters x.number xs = subst (λ (n : ℕ). 1 ≤ waiters n xs) (sym same) (there-counted (λ (v : Waiting). v.number) xs y (j, omega (arith, other_lt), other_is)) in
    let here : z.number ≡ x.number = ap (λ (v : Waiting). v.number) is in
    rw (eq-eqb z.number x.number here) (omega (arith, rest))
counted-twice (z ∷ xs) x y (suc i, lt, is) (zero, other_lt, other_is) same apart =
    let rest : 1 ≤ waiters x.number xs = there-counted (λ (v : Waiting). v.number) xs x (i, omega (arith, lt), is) in
    let here : z.number ≡ x.number = ap (λ (v : Waiting). v.number) other_is ∙ sym same in
    rw (eq-eqb z.number x.number here) (omega (arith, rest))
counted-twice (z ∷ xs) x y (suc i, lt, is) (suc j, other_lt, other_is) same apart =
    let rest = counted-twice xs x y (i, omega (arith, lt), is) (j, omega (arith, other_lt), other_is) same apart in
    elim (eqb z.number x.number) as (λ b. 2 ≤ cond b (1 + waiters x.number xs) (waiters x.number xs)) [
      | true ↦ omega (arith, rest)
      | false ↦ rest
    ]

none_some : {n : ℕ} → Nothing_ ≡ Some n → ⊥
none_some is = cc

one_number : {m n : ℕ} → Some m ≡ Some n → m ≡ n
one_number is = cc

not_true : (b : Bool) → not b ≡ true → b ≡ false
not_true true is = cc
not_true false is = refl

module _ {R : Type 0} (k : RecordRules R) (lawful : IsLawful k) where
  pub counted-apart : (mine : ℕ → Bool) (w : World R) → IsCounted k w → NoneReady k w → KeepsApart k mine w
  counted-apart mine w counted none = record {
    none_ready = λ x waits out. none.none x waits;
    numbers = λ x y waits other_waits may out same.
        let twice = counted-twice w.waiting x y waits other_waits same (λ e. not_both may (ap mine e ∙ out)) in
        let once = counted.counted.waits_once x.number in
        omega (arith, twice, once);
  }

  -- A waiting put with notification is live, so none may begin with its number.
  no-place : (w : World R) → IsCounted k w → (x : Waiting) → Contains w.waiting x → (number : ℕ) → has_place w number ≡ true → number ≢ x.number
  no-place w counted x waits number place same =
      let live : is_live x.number w.live ≡ true = (live-is k lawful w x.number counted).1 (in_a_waiting_list x waits) in
      let free : is_live number w.live ≡ false = not_true (is_live number w.live) (and_parts (nat_lt (length w.waiting) 256) _ (and_parts (nat_lt (length w.live + length w.ended) 256) _ place).1).1 in
      not_both live (ap (λ (n : ℕ). is_live n w.live) (sym same) ∙ free)

  other-number : (w : World R) → IsCounted k w → (event : Event) → ((number : ℕ) → event ≢ Cancel number) → (x : Waiting) → Contains w.waiting x → number_of w event ≢ Some x.number
  other-number w counted (Process s) not_cancel x waits = none_some
  other-number w counted (Put s field given) not_cancel x waits = none_some
  other-number w counted (Complete s number finished) not_cancel x waits = none_some
  other-number w counted (Notify s number field given) not_cancel x waits =
      elim (has_place w number) as (λ b. has_place w number ≡ b → cond {A = Option ℕ} b (Some number) Nothing_ ≢ Some x.number) [
        | true ↦ λ place is. no-place w counted x waits number place (one_number is)
        | false ↦ λ _. none_some
      ] refl
  other-number w counted (Cancel number) not_cancel x waits = absurd (not_cancel number refl)

  pub counted-within : (mine : ℕ → Bool) (w : World R) (event : Event) → IsCounted k w → ((n : ℕ) → Contains (names event) n → mine n ≡ true) → ((number : ℕ) → event ≢ Cancel number) → IsWithin k mine w event
  counted-within mine w event counted within not_cancel = record {
    named = within;
    waiting = λ x waits out. other-number w counted event not_cancel x waits;
    holders = λ number n is. absurd (not_cancel number is);
  }

  -- A call other than a cancel is done within the records that it names.
  pub calls-within : (mine : ℕ → Bool) (w : World R) (c : Call) → IsCounted k w → ((n : ℕ) → Contains (named c) n → mine n ≡ true) → ((number : ℕ) → Cancels c number → ⊥) → IsCallWithin k mine w c
  calls-within mine w (call.Event event reply) counted within not_cancel = counted-within mine w event counted within not_cancel
  calls-within mine w (call.Get s field text) counted within not_cancel = within
  calls-within mine w (call.IsLive number live) counted within not_cancel = within
  calls-within mine w (call.Link s field link reply) counted within not_cancel = within
  calls-within mine w (call.Post name count) counted within not_cancel = within
  calls-within mine w (call.Interrupt device count) counted within not_cancel = within
