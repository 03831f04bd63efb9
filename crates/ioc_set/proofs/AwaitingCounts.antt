-- The number of records that await a completion, in the course of an event from the world in which
-- it began.
use Rattle.std.proofs.Common.{◌≡◌, ℕ, ◌+◌, Bool, true, false, cond, List, [], ◌∷◌, ◌++◌, length, filter, Option, Some, None as Nothing_, is_some, IsSome, refl, sym, ap, subst, ◌∙◌, append_assoc, arith, length-append}
use Rattle.std.specs.Prelude.{Contains}
use Rattle.std.proofs.lemmas.List.Elements.{filter-append}
use Rattle.ioc_device.specs.declared.Answer.{Answer}
use Rattle.ioc_device.specs.declared.Ask.{Ask}
use Rattle.ioc_dbcommon.specs.declared.common.Common.{Common}
use Rattle.ioc_dbcommon.specs.declared.body.Got.{Got}
use Rattle.ioc_dbcommon.specs.Steps.{waiting}
use Rattle.ioc_record.specs.RecordRules.{RecordRules, targets}
use Rattle.ioc_record.specs.Laws.{IsLawful}
use Rattle.ioc_store.specs.declared.call.Call.{Call}
use Rattle.ioc_store.specs.declared.outbox.OutboxItem.TheVariants.{Once}
use Rattle.ioc_store.specs.World.{World, Has, SameLinks, Keeps, IsClosed, at, common_at, put, changed, called}
use Rattle.ioc_store.specs.Worlds.{at-put_same}
use Rattle.ioc_store.specs.StepFrames.{OwnLinks, targets_same, links-set}
use Rattle.ioc_store.specs.Given.{Answers, comes_later, later_among}
use Rattle.ioc_store.specs.Marks.{at_rest, resumed}
use Rattle.ioc_process.specs.Keeping.{keeps_on, keeps-put}
use Rattle.ioc_store.specs.Notifying.{notified}
use Rattle.ioc_process.specs.Rules.{Gives, next, asked_too_often, no_more_numbers, Receives, a_value, a_bad_value, a_fault, not_yet, Acknowledges, written, written_badly, not_written_yet, Rests, for_good, once_more}
use Rattle.ioc_set.specs.Awaiting.{awaited}
use Rattle.ioc_set.proofs.AwaitingAlike.{Alike, alike-notified, alike-sent, awaited-put, each-put, keeps-same, put-calls}

-- One if the answer comes later, and zero otherwise.
abbrev pub one_if_later : Answer → ℕ
one_if_later answer = cond (comes_later answer) 1 0

not-both : true ≡ false → ⊥
not-both is = cc

weight-of : (o : Option ℕ) → o ≡ Nothing_ → cond {A = ℕ} (is_some o) 1 0 ≡ 0
weight-of Nothing_ is = refl
weight-of (Some n) is = cc

weight-some : (o : Option ℕ) → IsSome o → cond {A = ℕ} (is_some o) 1 0 ≡ 1
weight-some Nothing_ is = cc
weight-some (Some n) is = refl

later-one : (call : Call) → later_among (call ∷ []) ≡ one_if_later call.answer
later-one call = elim (comes_later call.answer) as (λ b. length (cond b (call ∷ []) []) ≡ cond b 1 0) [
  | true ↦ refl
  | false ↦ refl
]

later-more : (calls : List Call) (call : Call) → later_among (calls ++ call ∷ []) ≡ later_among calls + one_if_later call.answer
later-more calls call =
    ap (λ (xs : List Call). length xs) (filter-append (λ (c : Call). comes_later c.answer) calls (call ∷ []))
    ∙ length-append (filter (λ (c : Call). comes_later c.answer) calls) (filter (λ (c : Call). comes_later c.answer) (call ∷ []))
    ∙ ap (λ (n : ℕ). later_among calls + n) (later-one call)

module _ {R : Type 0} (k : RecordRules R) (lawful : IsLawful k) (w0 : World R) (closed : IsClosed k w0) where
  -- In the course of an event that began in `w0`, as many records await a completion as before,
  -- plus one for each call that is answered later, minus those that are due; and no idle record
  -- awaits one.
  pub record Fine (due : ℕ) (w : World R) : Type 0 where
    pub keeps : Keeps k w0 w
    pub made : List Call
    pub calls : w.calls ≡ w0.calls ++ made
    pub count : awaited k w.records + due ≡ awaited k w0.records + later_among made
    pub idle : (n : ℕ) → Has w0 n → (common_at k w n).active ≡ false → (common_at k w n).pending ≡ Nothing_

  -- `Fine` holds while the body of `s` runs, which awaits no completion then.
  pub record Under (due s : ℕ) (w : World R) : Type 0 where
    pub fine : Fine due w
    pub there : Has w0 s
    pub none : (common_at k w s).pending ≡ Nothing_

  pub target-has : {due : ℕ} {w : World R} → Fine due w → (s t : ℕ) → Contains (targets k (at k w s)) t → Has w0 t
  target-has fine s t named = closed.closed s t (subst (λ (l : List ℕ). Contains l t) (targets_same k lawful (fine.keeps.links s)) named)

  pub fine-alike : {due : ℕ} {w v : World R} → Alike k w v → Fine due w → Fine due v
  fine-alike alike fine = record {
    keeps = keeps_on k fine.keeps alike.keeps;
    made = fine.made;
    calls = alike.calls ∙ fine.calls;
    count = omega (arith, alike.count, fine.count);
    idle = λ n there idle. alike.pending n ∙ fine.idle n there (sym (alike.active n) ∙ idle);
  }

  pub under-alike : {due s : ℕ} {w v : World R} → Alike k w v → Under due s w → Under due s v
  under-alike {s = s} alike under = record { fine = fine-alike alike under.fine; there = under.there; none = alike.pending s ∙ under.none }

  pub under-has : {due s : ℕ} {w : World R} → Under due s w → Has w s
  under-has {s = s} under = under.fine.keeps.has s under.there

  pub begins : {due : ℕ} (s : ℕ) (w : World R) → Has w0 s → (common_at k w s).active ≡ false → Fine due w → Under due s w
  begins s w there idle fine = record { fine = fine; there = there; none = fine.idle s there idle }

  -- Putting the record at work keeps `Under`, with any active mark, if it awaits no completion.
  pub under-put : {due : ℕ} (w : World R) (s : ℕ) (r : R) → SameLinks k (at k w s) r → (k.common r).pending ≡ Nothing_ → Under due s w → Under due s (put w s r)
  under-put w s r links none under =
      let here = under-has under in
      record {
        fine = record {
          keeps = keeps_on k under.fine.keeps (keeps-put k w s here r links);
          made = under.fine.made;
          calls = put-calls k w s r ∙ under.fine.calls;
          count = omega (arith, awaited-put k w s r here, weight-of _ under.none, weight-of _ none, under.fine.count);
          idle = each-put k w s r (λ n x. Has w0 n → (k.common x).active ≡ false → (k.common x).pending ≡ Nothing_) (λ _ _. none) (λ n _. under.fine.idle n);
        };
        there = under.there;
        none = ap (λ (x : R). (k.common x).pending) (at-put_same k w s r) ∙ none;
      }

  pub under-changed : {due : ℕ} (w : World R) (s : ℕ) (f : Common → Common) → ((c : Common) → OwnLinks c (f c)) → ((c : Common) → (f c).pending ≡ c.pending) → Under due s w → Under due s (changed k w s f)
  unfolding changed
  under-changed w s f links pending under =
      under-put w s _ (links-set k lawful (at k w s) _ (links _)) (ap (λ (c : Common). c.pending) (lawful.common_set _ _) ∙ pending _ ∙ under.none) under

  -- When it waits for its device, one more record awaits a completion.
  pub waits-fine : {due : ℕ} (w : World R) (s : ℕ) → Under (due + 1) s w → Fine due (changed k w s waiting)
  unfolding changed
  waits-fine {due} w s under =
      let here = under-has under in
      let r = k.with_common (at k w s) (waiting (common_at k w s)) in
      let set = lawful.common_set (at k w s) (waiting (common_at k w s)) in
      let some : cond {A = ℕ} (is_some (k.common r).pending) 1 0 ≡ 1 = ap (λ (c : Common). cond {A = ℕ} (is_some c.pending) 1 0) set in
      record {
        keeps = keeps_on k under.fine.keeps (keeps-put k w s here r (links-set k lawful (at k w s) _ (refl, refl)));
        made = under.fine.made;
        calls = put-calls k w s r ∙ under.fine.calls;
        count = omega (arith, awaited-put k w s r here, weight-of _ under.none, some, under.fine.count);
        idle = each-put k w s r (λ n x. Has w0 n → (k.common x).active ≡ false → (k.common x).pending ≡ Nothing_)
            (λ _ idle. absurd (not-both (sym (ap (λ (c : Common). c.active) set) ∙ idle))) (λ n _. under.fine.idle n);
      }

  -- When its device has answered later, one record less awaits a completion.
  pub resumes-under : {due : ℕ} (w : World R) (s : ℕ) → Has w0 s → IsSome (common_at k w s).pending → Fine due w → Under (due + 1) s (changed k w s resumed)
  unfolding changed
  resumes-under {due} w s there awaits fine =
      let here = fine.keeps.has s there in
      let r = k.with_common (at k w s) (resumed (common_at k w s)) in
      let set = lawful.common_set (at k w s) (resumed (common_at k w s)) in
      let none : (k.common r).pending ≡ Nothing_ = ap (λ (c : Common). c.pending) set in
      record {
        fine = record {
          keeps = keeps_on k fine.keeps (keeps-put k w s here r (links-set k lawful (at k w s) _ (refl, refl)));
          made = fine.made;
          calls = put-calls k w s r ∙ fine.calls;
          count = omega (arith, awaited-put k w s r here, weight-some _ awaits, weight-of _ none, fine.count);
          idle = each-put k w s r (λ n x. Has w0 n → (k.common x).active ≡ false → (k.common x).pending ≡ Nothing_) (λ _ _. none) (λ n _. fine.idle n);
        };
        there = there;
        none = ap (λ (x : R). (k.common x).pending) (at-put_same k w s r) ∙ none;
      }

  -- Lemmas about a device call and its answer.

  called-at : (call : Call) (w : World R) (n : ℕ) → common_at k (called call w) n ≡ common_at k w n
  unfolding at called
  called-at call w n = refl

  called-records : (call : Call) (w : World R) → (called call w).records ≡ w.records
  unfolding called
  called-records call w = refl

  called-calls : (call : Call) (w : World R) → (called call w).calls ≡ w.calls ++ call ∷ []
  unfolding called
  called-calls call w = refl

  called-fine : {due : ℕ} (call : Call) (w : World R) → Fine due w → Fine (due + one_if_later call.answer) (called call w)
  called-fine call w fine = record {
    keeps = keeps_on k fine.keeps (keeps-same k w (called call w) (called-records call w));
    made = fine.made ++ call ∷ [];
    calls = called-calls call w ∙ ap (λ (xs : List Call). xs ++ call ∷ []) fine.calls ∙ append_assoc w0.calls fine.made (call ∷ []);
    count = omega (arith, ap (awaited k) (called-records call w), later-more fine.made call, fine.count);
    idle = λ n there idle. ap (λ (c : Common). c.pending) (called-at call w n) ∙ fine.idle n there (sym (ap (λ (c : Common). c.active) (called-at call w n)) ∙ idle);
  }

  none_due : {due s : ℕ} {w : World R} → Under due s w → Under (due + 0) s w
  none_due {due} {s} {w} under = let e : due ≡ due + 0 = omega arith in subst (λ (d : ℕ). Under d s w) e under

  none_due_back : {due s : ℕ} {w : World R} → Under (due + 0) s w → Under due s w
  none_due_back {due} {s} {w} under = let e : due + 0 ≡ due = omega arith in subst (λ (d : ℕ). Under d s w) e under

  pub gives-under : (answers : Answers) {due s : ℕ} {w : World R} {ask : Ask} {w' : World R} {answer : Answer} → Gives k answers w s ask w' answer → Under due s w → Under (due + one_if_later answer) s w'
  gives-under answers (next {w} {s} {ask} {answer} _ _ _) under =
      let call : Call = record { target = s; ask = ask; answer = answer } in
      record { fine = called-fine call w under.fine; there = under.there; none = ap (λ (c : Common). c.pending) (called-at call w s) ∙ under.none }
  gives-under answers (asked_too_often _) under = none_due under
  gives-under answers (no_more_numbers _) under = none_due under

  -- Record `s` waits for its device, or it has its input.
  pub data After : ℕ → ℕ → World R → Option Got → Type 0 where
    still_waits : {due s : ℕ} {w : World R} → Fine due w → After due s w Nothing_
    has_come : {due s : ℕ} {w : World R} {got : Got} → Under due s w → After due s w (Some got)

  pub waiting-fine : {due s : ℕ} {w : World R} → After due s w Nothing_ → Fine due w
  waiting-fine (still_waits fine) = fine

  pub come-under : {due s : ℕ} {w : World R} {got : Got} → After due s w (Some got) → Under due s w
  come-under (has_come under) = under

  raised-under : {due s : ℕ} (w : World R) (f : Common → Common) → ((c : Common) → OwnLinks c (f c)) → ((c : Common) → (f c).pending ≡ c.pending) → Under (due + 0) s w → Under due s (changed k w s f)
  raised-under {s = s} w f links pending under = under-changed w s f links pending (none_due_back under)

  pub receives-after : {due s : ℕ} {w : World R} {answer : Answer} {w' : World R} {came : Option Got} → Receives k w s answer w' came → Under (due + one_if_later answer) s w → After due s w' came
  receives-after (a_value _) under = has_come (none_due_back under)
  receives-after (a_bad_value {w} _) under = has_come (raised-under w _ (λ c. (refl, refl)) (λ c. refl) under)
  receives-after (a_fault {w}) under = has_come (raised-under w _ (λ c. (refl, refl)) (λ c. refl) under)
  receives-after (not_yet {w} {s}) under = still_waits (waits-fine w s under)

  -- The body continues, or `s` waits for its device.
  pub data AfterOutput : ℕ → ℕ → World R → Bool → Type 0 where
    waits_on : {due s : ℕ} {w : World R} → Fine due w → AfterOutput due s w false
    goes_on : {due s : ℕ} {w : World R} → Under due s w → AfterOutput due s w true

  pub waits_on-fine : {due s : ℕ} {w : World R} → AfterOutput due s w false → Fine due w
  waits_on-fine (waits_on fine) = fine

  pub goes_on-under : {due s : ℕ} {w : World R} → AfterOutput due s w true → Under due s w
  goes_on-under (goes_on under) = under

  pub acknowledges-after : {due s : ℕ} {w : World R} {answer : Answer} {w' : World R} {went : Bool} → Acknowledges k w s answer w' went → Under (due + one_if_later answer) s w
      → AfterOutput due s w' went
  acknowledges-after written under = goes_on (none_due_back under)
  acknowledges-after (written_badly {w}) under = goes_on (raised-under w _ (λ c. (refl, refl)) (λ c. refl) under)
  acknowledges-after (not_written_yet {w} {s}) under = waits_on (waits-fine w s under)

  -- Lemmas about the end of a body.

  rested : {due : ℕ} (w : World R) (s : ℕ) → Under due s w → Fine due (changed k (notified k w s) s at_rest)
  rested w s under =
      let told = under-alike (alike-notified k lawful w s (under-has under)) under in
      let last = under-changed (notified k w s) s at_rest (λ c. (refl, refl)) (λ c. refl) told in
      last.fine

  pub rests-fine : {due s : ℕ} {w w' : World R} → Rests k w s w' → Under due s w → Fine due w'
  rests-fine (for_good {w} {s} _) under = rested w s under
  rests-fine (once_more {w} {s} _) under = fine-alike (alike-sent k (Once s) _) (rested w s under)
