-- The answers of an event in the order in which they are made, and the effect of reading a device.
use Rattle.std.proofs.Common.{◌≡◌, ℕ, suc, ◌-◌, ◌^◌, ◌<◌, Bool, true, false, cond, List, [], ◌∷◌, ◌++◌, length, Option, Some, None as Nothing_, IsSome, IsTrue, refl, sym, ap, subst, ◌∙◌, arith, append_assoc}
use Rattle.std.specs.Prelude.{slice_get, unwrap_or, Result, Ok, Err}
use Rattle.ioc_values.specs.declared.value.Value.{Value}
use Rattle.ioc_values.specs.declared.error.IocError.{IocError}
use Rattle.std.proofs.lemmas.Grind.{common_steps}
use Rattle.ioc_device.specs.declared.Answer.{Answer}
use Rattle.ioc_device.specs.declared.Answer.TheVariants.{Done, Later, Fault as Fault-answer}
use Rattle.ioc_dbcommon.specs.declared.body.Got.{Got}
use Rattle.ioc_record.specs.RecordRules.{RecordRules}
use Rattle.ioc_store.specs.World.{World, at, common_at, Stays, called}
use Rattle.ioc_store.specs.declared.call.Call.{Call}
use Rattle.ioc_store.specs.Given.{Given, Devices, DeviceGives, DevicesWork, no_call, and_then, Begins, Answers, Accords, listed, answers_of}
use Rattle.ioc_device.specs.declared.Ask.{Ask}
use Rattle.ioc_device.specs.declared.Ask.TheVariants.{Read as Read-ask, Write as Write-ask}
use Rattle.ioc_process.specs.Processing.{Reading, PutOut, device_gave, received, read_device, acknowledged, write_device, next_call, can_ask}
use Rattle.ioc_ledger.specs.Requests.{None}
use Rattle.ioc_process.specs.Runs.{HasRead, HasPutOut}
use Rattle.ioc_process.specs.Depth.{Reads, Outs}

slice_get-after : (xs ys : List Answer) (x : Answer) → slice_get (xs ++ x ∷ ys) (length xs) ≡ Some x
slice_get-after [] ys x = refl
slice_get-after (x' ∷ xs) ys x = slice_get-after xs ys x

answers-append : (xs ys : List Call) → answers_of (xs ++ ys) ≡ answers_of xs ++ answers_of ys
answers-append [] ys = refl
answers-append (x ∷ xs) ys = ap (λ l. x.answer ∷ l) (answers-append xs ys)

answers-length : (calls : List Call) → length (answers_of calls) ≡ length calls
answers-length [] = refl
answers-length (x ∷ calls) = ap (λ n. suc n) (answers-length calls)

-- The listed answers of some calls are those that the calls got.
pub listed-accords : (calls : List Call) → Accords calls (listed (answers_of calls))
unfolding listed
listed-accords calls = record {
  accords = λ before after call is.
      ap (λ o. unwrap_or o Fault-answer)
      (ap (λ l. slice_get l (length before)) (ap answers_of is ∙ answers-append before (call ∷ after))
      ∙ ap (slice_get (answers_of before ++ call.answer ∷ answers_of after)) (sym (answers-length before))
      ∙ slice_get-after (answers_of before) (answers_of after) call.answer);
}

-- Answers that accord with the later calls accord with the earlier ones.
pub accords_before : {D : Type 0} {gives : D → Ask → ℕ → Answer → D → Type 0} {before after : Given D} {answers : Answers}
    → Begins gives before after → Accords after.calls answers → Accords before.calls answers
accords_before {before = before} one two = record {
  accords = λ xs ys call is. two.accords xs (ys ++ one.more) call (one.calls ∙ ap (λ l. l ++ one.more) is ∙ append_assoc xs (call ∷ ys) one.more);
}

devices-on : {D : Type 0} {gives : D → Ask → ℕ → Answer → D → Type 0} {ds mid es : Devices D} {moment : ℕ} {xs ys : List Call}
    → DevicesWork gives ds moment xs mid → DevicesWork gives mid moment ys es → DevicesWork gives ds moment (xs ++ ys) es
devices-on no_call rest = rest
devices-on (and_then first more) rest = and_then first (devices-on more rest)

pub begins_same : {D : Type 0} {gives : D → Ask → ℕ → Answer → D → Type 0} {before after : Given D} → after ≡ before → Begins gives before after
begins_same {gives = gives} {before} {after} is = subst (Begins gives before) (sym is) (record { more = []; calls = search common_steps; moment = refl; work = no_call })

pub begins_on : {D : Type 0} {gives : D → Ask → ℕ → Answer → D → Type 0} {one two three : Given D} → Begins gives one two → Begins gives two three → Begins gives one three
begins_on {gives = gives} {one} {two} {three} first second = record {
  more = first.more ++ second.more;
  calls = second.calls ∙ ap (λ l. l ++ second.more) first.calls ∙ append_assoc one.calls first.more second.more;
  moment = second.moment ∙ first.moment;
  work = devices-on first.work (subst (λ m. DevicesWork gives two.devices m second.more three.devices) first.moment second.work);
}

-- One more call is a step of the devices.
pub begins_call : {D : Type 0} {gives : D → Ask → ℕ → Answer → D → Type 0} {before after : Given D} (call : Call) → after.calls ≡ before.calls ++ call ∷ [] → after.moment ≡ before.moment
    → DeviceGives gives before.devices before.moment call after.devices → Begins gives before after
begins_call call calls moment given = record { more = call ∷ []; calls = calls; moment = moment; work = and_then given no_call }

-- The answer that accords with one more call is the answer of that call.
pub answer-given : (before after : List Call) (answers : Answers) (call : Call) → after ≡ before ++ call ∷ [] → Accords after answers → answers before call.target call.ask ≡ call.answer
answer-given before after answers call at_end accords = accords.accords before [] call at_end

module _ {R : Type 0} (k : RecordRules R) where
  pub read_device-asked : (answers : Answers) (w : World R) (s : ℕ) (answer : Answer) → can_ask k w s ≡ true → answers w.calls s Read-ask ≡ answer →
      read_device k answers w s ≡ received k (called (record { target = s; ask = Read-ask; answer = answer }) w) s answer
  unfolding read_device
  read_device-asked answers w s answer can is = rw (can, is) refl

  pub read_device-not_asked : (answers : Answers) (w : World R) (s : ℕ) → can_ask k w s ≡ false → read_device k answers w s ≡ received k w s Fault-answer
  unfolding read_device
  read_device-not_asked answers w s can = rw can refl

  device_gave-requests : (w : World R) (s : ℕ) (value : Result Value IocError) → (device_gave k w s value).requests ≡ None
  unfolding device_gave
  device_gave-requests w s (Ok v) = refl
  device_gave-requests w s (Err e) = refl

  pub received-requests : (w : World R) (s : ℕ) (answer : Answer) → (received k w s answer).requests ≡ None
  unfolding received
  received-requests w s (Done v) = device_gave-requests w s _
  received-requests w s Fault-answer = refl
  received-requests w s Later = refl

  pub read_device-requests : (answers : Answers) (w : World R) (s : ℕ) → (read_device k answers w s).requests ≡ None
  unfolding read_device
  read_device-requests answers w s =
      let call = next_call k answers w s Read-ask in
      elim (can_ask k w s) as (λ b. (cond b (received k (called call w) s call.answer) (received k w s Fault-answer)).requests ≡ None) [
        | true ↦ received-requests _ s _
        | false ↦ received-requests w s _
      ]

  -- A property of the world after the requests holds of the world that the code leaves.
  pub by_world : (calls : List Call) (after : World R) (world : Answers → World R) (P : World R → Type 0) →
      ((answers : Answers) → Accords calls answers → after ≡ world answers) → ((answers : Answers) → P (world answers)) → P after
  by_world calls after world P is h = subst P (sym (is (listed (answers_of calls)) (listed-accords calls))) (h (listed (answers_of calls)))

  -- A device is asked only if the record has a number left for its answer.
  pub can_ask-more : (call : Call) (w : World R) (s : ℕ) → can_ask k w s ≡ true → (common_at k (called call w) s).last_pending < 2 ^ 64 - 1
  unfolding at called
  can_ask-more call w s can = grind (arith, common_steps)

  got_some : (o : Option Got) → IsSome o → (got : Got) × (o ≡ Some got)
  got_some Nothing_ is = cc
  got_some (Some got) is = (got, refl)

  -- A record whose reading returned something is as active as it was.
  pub stays_if_read : (calls : List Call) (w after : World R) (s : ℕ) (result : Option Got) (reading : Answers → Reading R) →
      ((answers : Answers) → Accords calls answers → HasRead after result (reading answers)) → ((answers : Answers) → Reads k w s (reading answers)) →
      IsSome result → Stays k w s after
  stays_if_read calls w after s result reading is reads some =
      let here = is (listed (answers_of calls)) (listed-accords calls) in
      let r = reads (listed (answers_of calls)) in
      let got = got_some result some in
      rw here.world (record { fewer = r.fewer; active = r.active got.0 (sym here.came ∙ got.1) })

  pub write_device-asked : (answers : Answers) (w : World R) (s : ℕ) (v : Value) (answer : Answer) → can_ask k w s ≡ true → answers w.calls s (Write-ask v) ≡ answer →
      write_device k answers w s v ≡ acknowledged k (called (record { target = s; ask = Write-ask v; answer = answer }) w) s answer
  unfolding write_device
  write_device-asked answers w s v answer can is = rw (can, is) refl

  pub write_device-not_asked : (answers : Answers) (w : World R) (s : ℕ) (v : Value) → can_ask k w s ≡ false → write_device k answers w s v ≡ acknowledged k w s Fault-answer
  unfolding write_device
  write_device-not_asked answers w s v can = rw can refl

  acknowledged-requests : (w : World R) (s : ℕ) (answer : Answer) → (acknowledged k w s answer).requests ≡ None
  unfolding acknowledged
  acknowledged-requests w s (Done v) = refl
  acknowledged-requests w s Fault-answer = refl
  acknowledged-requests w s Later = refl

  pub write_device-requests : (answers : Answers) (w : World R) (s : ℕ) (v : Value) → (write_device k answers w s v).requests ≡ None
  unfolding write_device
  write_device-requests answers w s v =
      let call = next_call k answers w s (Write-ask v) in
      elim (can_ask k w s) as (λ b. (cond b (acknowledged k (called call w) s call.answer) (acknowledged k w s Fault-answer)).requests ≡ None) [
        | true ↦ acknowledged-requests _ s _
        | false ↦ acknowledged-requests w s _
      ]

  -- A record whose body continues after an output is as active as it was.
  pub stays_if_out : (calls : List Call) (w after : World R) (s : ℕ) (result : Bool) (out : Answers → PutOut R) →
      ((answers : Answers) → Accords calls answers → HasPutOut after result (out answers)) → ((answers : Answers) → Outs k w s (out answers)) →
      IsTrue result → Stays k w s after
  stays_if_out calls w after s result out is outs on =
      let here = is (listed (answers_of calls)) (listed-accords calls) in
      let o = outs (listed (answers_of calls)) in
      rw here.world (record { fewer = o.fewer; active = o.active (sym here.goes_on ∙ on) })
