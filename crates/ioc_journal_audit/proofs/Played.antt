-- The answers of a list, given by whichever devices are asked.
use Rattle.std.proofs.Common.{◌≡◌, ℕ, suc, ◌+◌, Bool, true, false, cond, List, [], ◌∷◌, ◌++◌, length, Option, Some, None, refl, sym, ap, subst, ◌∙◌, arith, append_assoc}
use Rattle.std.specs.Prelude.{slice_get, unwrap_or, ◌==◌}
use Rattle.std.proofs.lemmas.Grind.{common_steps}
use Rattle.ioc_device.specs.declared.Ask.{Ask}
use Rattle.ioc_device.specs.declared.Answer.{Answer}
use Rattle.ioc_device.specs.declared.Answer.TheVariants.{Fault}
use Rattle.ioc_store.specs.World.{World, begun, begun_at}
use Rattle.ioc_store.specs.declared.call.Call.{Call}
use Rattle.ioc_store.specs.Given.{Given, Devices, DeviceGives, its_device, no_device, DevicesWork, no_call, and_then, Begins, Answers, Accords, listed, answers_of, with_device}

-- Every record has a device with this list.
abbrev pub all_have : List Answer → Devices (List Answer)
all_have answers n = Some answers

-- A device keeps its list, whatever it is asked and answers.
abbrev pub Keeps : List Answer → Ask → ℕ → Answer → List Answer → Type 0
Keeps before ask moment answer after = after ≡ before

one_kept : (answers : List Answer) (b : Bool) → cond b (Some answers) (Some answers) ≡ Some answers
one_kept answers true = refl
one_kept answers false = refl

pub all_kept : (answers : List Answer) (n : ℕ) → with_device (all_have answers) n answers ≡ all_have answers
unfolding with_device
all_kept answers n = λ i m. one_kept answers (m == n) i

-- An answer leaves all devices as they are.
pub gives-any : (answers : List Answer) (moment : ℕ) (call : Call) → DeviceGives Keeps (all_have answers) moment call (all_have answers)
gives-any answers moment call = subst (λ (ds : Devices (List Answer)). DeviceGives Keeps (all_have answers) moment call ds) (all_kept answers call.target) (its_device refl refl)

same_list : {xs ys : List Answer} → Some xs ≡ Some ys → xs ≡ ys
same_list e = cc

-- After a call every device still has the list.
after_one : (answers : List Answer) {ds : Devices (List Answer)} {moment : ℕ} (call : Call) (mid : Devices (List Answer)) → ds ≡ all_have answers → DeviceGives Keeps ds moment call mid → mid ≡ all_have answers
after_one answers {ds} call _ is (its_device {before = before} {after = after} there kept) =
    let own : Some answers ≡ Some before = sym (ap (λ (d : Devices (List Answer)). d call.target) is) ∙ there in
    ap (λ (d : Devices (List Answer)). with_device d call.target after) is ∙ ap (with_device (all_have answers) call.target) (kept ∙ sym (same_list own)) ∙ all_kept answers call.target
after_one answers call _ is (no_device there fault) = is

-- After calls every device still has the list.
still_have : (answers : List Answer) {ds es : Devices (List Answer)} {moment : ℕ} {calls : List Call} → ds ≡ all_have answers → DevicesWork Keeps ds moment calls es → es ≡ all_have answers
still_have answers is no_call = is
still_have answers is (and_then first more) = still_have answers (after_one answers _ _ is first) more

pub same_playing : (before after : List Answer) (ds es : Given (List Answer)) → ds.devices ≡ all_have before → es.devices ≡ all_have after → Begins Keeps ds es → after ≡ before
same_playing before after ds es one two begins = same_list (sym (ap (λ (d : Devices (List Answer)). d 0) two) ∙ ap (λ (d : Devices (List Answer)). d 0) (still_have before one begins.work))

none-among : (x : Call) (before after : List Call) → [] ≡ before ++ x ∷ after → ⊥
none-among x [] after e = cc
none-among x (b ∷ before) after e = cc

-- Any answers accord with no call.
pub accords-none : (answers : Answers) → Accords [] answers
accords-none answers = record { accords = λ before after call is. absurd (none-among call before after is) }

-- Either the call is the last one, or it is among those before.
data Split (calls : List Call) (last : Call) (before : List Call) (call : Call) (after : List Call) : Type 0 where
  at_end : before ≡ calls → call ≡ last → Split calls last before call after
  earlier : (rest : List Call) → calls ≡ before ++ call ∷ rest → Split calls last before call after

split-on : (c b : Call) (calls : List Call) (last : Call) (before : List Call) (call : Call) (after : List Call) → c ≡ b → Split calls last before call after → Split (c ∷ calls) last (b ∷ before) call after
split-on c b calls last before call after same (at_end is last_is) = at_end (λ i. (sym same i) ∷ (is i)) last_is
split-on c b calls last before call after same (earlier rest is) = earlier rest (λ i. same i ∷ is i)

split_call : (calls : List Call) (last : Call) (before : List Call) (call : Call) (after : List Call) → calls ++ last ∷ [] ≡ before ++ call ∷ after → Split calls last before call after
split_call [] last [] call after e = at_end refl cc
split_call [] last (b ∷ before) call after e = absurd (none-among call before after cc)
split_call (c ∷ calls) last [] call after e = let same : c ≡ call = cc in earlier calls (ap (λ (x : Call). x ∷ calls) same)
split_call (c ∷ calls) last (b ∷ before) call after e =
    let same : c ≡ b = cc in
    let others : calls ++ last ∷ [] ≡ before ++ call ∷ after = cc in
    split-on c b calls last before call after same (split_call calls last before call after others)

-- One more call that has the next answer.
pub accords-more : (calls : List Call) (last : Call) (answers : Answers) → Accords calls answers → answers calls last.target last.ask ≡ last.answer → Accords (calls ++ last ∷ []) answers
accords-more calls last answers accords next = record { accords = λ before after call is. from (split_call calls last before call after is) }
  where
    from : {before after : List Call} {call : Call} → Split calls last before call after → answers before call.target call.ask ≡ call.answer
    from (at_end is same) = rw (is, same) next
    from {before} {after} {call} (earlier rest is) = accords.accords before rest call is

slice_get-after : (xs ys : List Answer) (x : Answer) → slice_get (xs ++ x ∷ ys) (length xs) ≡ Some x
slice_get-after [] ys x = refl
slice_get-after (z ∷ xs) ys x = slice_get-after xs ys x

length-on : {A : Type 0} (xs : List A) (x : A) → length (xs ++ x ∷ []) ≡ suc (length xs)
length-on [] x = refl
length-on (y ∷ xs) x = ap suc (length-on xs x)

-- From some call on, the calls have the answers of the list.
played-from : (calls done rest : List Call) (answers front back : List Answer) → Accords calls (listed answers) → calls ≡ done ++ rest → answers ≡ front ++ back
    → length front ≡ length done → length back ≡ length rest → answers_of rest ≡ back
unfolding listed
played-from calls done [] answers front [] accords is cut even all = refl
played-from calls done [] answers front (y ∷ back) accords is cut even all = absurd (omega (arith, all))
played-from calls done (x ∷ rest) answers front [] accords is cut even all = absurd (omega (arith, all))
played-from calls done (x ∷ rest) answers front (y ∷ back) accords is cut even all =
    let here : slice_get answers (length done) ≡ Some y = ap (λ l. slice_get l (length done)) cut ∙ ap (slice_get (front ++ y ∷ back)) (sym even) ∙ slice_get-after front back y in
    let same : x.answer ≡ y = sym (accords.accords done rest x is) ∙ ap (λ o. unwrap_or o Fault) here in
    let more = played-from calls (done ++ x ∷ []) rest answers (front ++ y ∷ []) back accords (is ∙ sym (append_assoc done (x ∷ []) rest)) (cut ∙ sym (append_assoc front (y ∷ []) back))
    (length-on front y ∙ ap suc even ∙ sym (length-on done x)) (omega (arith, all)) in
    λ i. same i ∷ more i

-- As many calls as the list has answers have these answers.
pub all-played : (calls : List Call) (answers : List Answer) → Accords calls (listed answers) → length calls ≡ length answers → answers_of calls ≡ answers
all-played calls answers accords all = played-from calls [] calls answers [] answers accords refl refl refl (sym all)

pub answers-length : (calls : List Call) → length (answers_of calls) ≡ length calls
answers-length [] = refl
answers-length (x ∷ calls) = ap suc (answers-length calls)

-- No call is made when an event begins.
pub none_begun : {R : Type 0} (moment : ℕ) (before after : World R) → after ≡ begun_at moment before → after.calls ≡ []
unfolding begun_at begun
none_begun moment before after e = ap (λ (w : World _). w.calls) e
