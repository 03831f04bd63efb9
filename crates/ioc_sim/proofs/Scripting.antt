-- Devices with queued answers return them one after another.
use Rattle.std.proofs.Common.{◌≡◌, ℕ, zero, suc, Bool, true, false, cond, eqb, Option, Some, List, [], ◌∷◌, ◌++◌, drop, set, get_or, length, ◌<◌, arith, refl, sym, ap, subst, ◌∙◌}
use Rattle.std.proofs.Common.{None as Nothing_}
use Rattle.std.specs.Prelude.{option_map, slice_get}
use Rattle.std.proofs.lemmas.Bool.{eqb-true}
use Rattle.ioc_values.specs.declared.error.IocError.TheVariants.{NoField}
use Rattle.ioc_events.specs.declared.reply.Reply.TheVariants.{Plain, Refused}
use Rattle.ioc_store.specs.OneMap.{device_at}
use Rattle.ioc_store.specs.OneMapLaws.{device-set}
use Rattle.ioc_device.specs.declared.Answer.{Answer}
use Rattle.ioc_store.specs.declared.call.Call.{Call}
use Rattle.ioc_store.specs.Given.{Given, Accords, with_device, DeviceGives, its_device, no_device, DevicesWork, no_call, and_then, Begins}
use Rattle.ioc_sim.specs.Machine.{Machine, MachineReply, queued_at, Queued, TakesAnswer, next_answer, times_asked, left_after, answers_from}

drop-drop1 : (n : ℕ) (answers : List Answer) → drop n (drop 1 answers) ≡ drop (suc n) answers
drop-drop1 zero [] = refl
drop-drop1 (suc n) [] = refl
drop-drop1 n (answer ∷ answers) = refl

-- The device that was called has its first answer removed.
taken_here : (here : Option (List Answer)) (before after : List Answer) (count : ℕ) → here ≡ Some before → after ≡ drop 1 before
    → option_map (drop count) (Some after) ≡ option_map (drop (suc count)) here
taken_here here before after count is left = rw (is, left) (ap (λ (answers : List Answer). Some answers) (drop-drop1 count before))

-- The same at each record.
gave-at : (b : Bool) (own : Option (List Answer)) (before after : List Answer) (count : ℕ) → (b ≡ true → own ≡ Some before) → after ≡ drop 1 before
    → option_map (drop count) (cond b (Some after) own) ≡ option_map (drop (cond b (suc count) count)) own
gave-at true own before after count is left = taken_here own before after count (is refl) left
gave-at false own before after count is left = refl

kept-at : (b : Bool) (own : Option (List Answer)) (count : ℕ) → (b ≡ true → own ≡ Nothing_) → option_map (drop count) own ≡ option_map (drop (cond b (suc count) count)) own
kept-at true own count is = rw (is refl) refl
kept-at false own count is = refl

at_target : (ds : Queued) (n target : ℕ) (own : Option (List Answer)) → ds target ≡ own → eqb n target ≡ true → ds n ≡ own
at_target ds n target own is same = let e : n ≡ target = eqb-true n target same in ap ds e ∙ is

-- The answers that are left after a call and then others.
gave : {ds : Queued} {moment : ℕ} {call : Call} {es : Queued} → DeviceGives TakesAnswer ds moment call es → (calls : List Call) (n : ℕ) → left_after es calls n ≡ left_after ds (call ∷ calls) n
unfolding left_after with_device
gave {ds} {call = call} (its_device {before = before} {after = after} is given) calls n =
    gave-at (eqb n call.target) (ds n) before after (times_asked n calls) (λ same. at_target ds n call.target (Some before) is same) given.1
gave {ds} {call = call} (no_device is fault) calls n = kept-at (eqb n call.target) (ds n) (times_asked n calls) (λ same. at_target ds n call.target Nothing_ is same)

none_given : (queued : Queued) (n : ℕ) → left_after queued [] n ≡ queued n
unfolding left_after
none_given queued n = drop_none (queued n)
  where
    drop_none : (own : Option (List Answer)) → option_map (drop 0) own ≡ own
    drop_none Nothing_ = refl
    drop_none (Some answers) = refl

-- The answers that are left after all calls of an event.
work-left : {ds es : Queued} {moment : ℕ} {calls : List Call} → DevicesWork TakesAnswer ds moment calls es → (n : ℕ) → es n ≡ left_after ds calls n
work-left {ds} no_call n = sym (none_given ds n)
work-left (and_then {calls = calls} first more) n = work-left more n ∙ gave first calls n

-- The answer to a call is the next answer of its device.
answered_now : {ds : Queued} {moment : ℕ} {call : Call} {es : Queued} → DeviceGives TakesAnswer ds moment call es → next_answer (ds call.target) ≡ call.answer
answered_now (its_device is given) = ap next_answer is ∙ sym given.0
answered_now (no_device is fault) = ap next_answer is ∙ sym fault

-- The answer to each call is the next one after the calls before it.
work-accords : {ds es : Queued} {moment : ℕ} {calls : List Call} → DevicesWork TakesAnswer ds moment calls es
    → (before after : List Call) (call : Call) → calls ≡ before ++ call ∷ after → next_answer (left_after ds before call.target) ≡ call.answer
work-accords no_call [] after call e = absurd cc
work-accords no_call (b ∷ bs) after call e = absurd cc
work-accords {ds} (and_then {call = c} first more) [] after call e =
    let same : c ≡ call = cc in
    let now : next_answer (left_after ds [] c.target) ≡ c.answer = ap next_answer (none_given ds c.target) ∙ answered_now first in
    subst (λ (x : Call). next_answer (left_after ds [] x.target) ≡ x.answer) same now
work-accords {ds} (and_then {mid = mid} {call = c} {calls = cs} first more) (b ∷ bs) after call e =
    let same : c ≡ b = cc in
    let others : cs ≡ bs ++ call ∷ after = cc in
    let later : next_answer (left_after mid bs call.target) ≡ call.answer = work-accords more bs after call others in
    let before : left_after mid bs call.target ≡ left_after ds (b ∷ bs) call.target = rw (← same) (gave first bs call.target) in
    ap next_answer (sym before) ∙ later

-- An event that began with these queued answers and without calls.
module _ (queued : Queued) (before after : Given (List Answer)) (devices : before.devices ≡ queued) (none : before.calls ≡ []) (begins : Begins TakesAnswer before after) where
  these : after.calls ≡ begins.more
  these = begins.calls ∙ ap (λ (l : List Call). l ++ begins.more) none

  -- The answers that are left after the event.
  pub left_is : after.devices ≡ left_after queued after.calls
  left_is =
      (λ i n. work-left begins.work n i) ∙ ap (λ (ds : Queued). left_after ds begins.more) devices ∙ ap (left_after queued) (sym these)

  -- The answers of the event came from the queues.
  pub accords : Accords after.calls (answers_from queued)
  unfolding answers_from
  accords = record {
    accords = λ first others call e. ap (λ (ds : Queued). next_answer (left_after ds first call.target)) (sym devices) ∙ work-accords begins.work first others call (sym these ∙ e);
  }

set_same : {X : Type 0} (xs : List X) (n : ℕ) (x : X) → slice_get xs n ≡ Some x → set xs n x ≡ xs
set_same [] n x is = cc
set_same (y ∷ ys) zero x is = let e : y ≡ x = cc in ap (λ z. z ∷ ys) (sym e)
set_same (y ∷ ys) (suc n) x is = ap (λ zs. y ∷ zs) (set_same ys n x is)

pub item_there : {X : Type 0} (xs : List X) (n : ℕ) (x y : X) → n < length xs → x ≡ get_or xs n x → x ≡ y → slice_get xs n ≡ Some y
item_there [] n x y within is same = absurd (omega (arith, within))
item_there (z ∷ zs) zero x y within is same = cc
item_there (z ∷ zs) (suc n) x y within is same = item_there zs n x y (omega (arith, within)) is same

-- An answer is queued for the device at a place, if there is one.
module _ {R : Type 0} (m : Machine R) (items : List (Option (List Answer))) (n place : ℕ) (answer : Answer) (same : place ≡ n) (queued : m.queued ≡ device_at items) where
  pub queue_there : (before after : List Answer) → place < length items → slice_get items place ≡ Some (Some before) → after ≡ before ++ answer ∷ []
      → (let told : MachineReply R = record { machine = record m { queued = device_at (set items place (Some after)) }; reply = Plain } in told ≡ queued_at m n answer (device_at items n))
  queue_there before after within is longer =
      let own : device_at items n ≡ Some before = rw (← same, is) refl in
      let devices : device_at (set items place (Some after)) ≡ with_device m.queued n (before ++ answer ∷ []) =
      device-set items place after within ∙ ap (λ (d : Queued). with_device d place after) (sym queued) ∙ ap (λ (i : ℕ). with_device m.queued i after) same ∙ ap (with_device m.queued n) longer
      in
      rw own (ap (λ (d : Queued). let told : MachineReply R = record { machine = record m { queued = d }; reply = Plain } in told) devices)

  pub queue_none : slice_get items place ≡ Some Nothing_
      → (let told : MachineReply R = record { machine = record m { queued = device_at (set items place Nothing_) }; reply = Refused NoField } in told ≡ queued_at m n answer (device_at items n))
  queue_none is =
      let own : device_at items n ≡ Nothing_ = rw (← same, is) refl in
      rw (own, set_same items place Nothing_ is) (ap (λ (d : Queued). let told : MachineReply R = record { machine = record m { queued = d }; reply = Refused NoField } in told) (sym queued))
