-- Waiting requests are served one after another.
use Rattle.std.proofs.Common.{◌≡◌, ℕ, zero, suc, ◌<◌, Option, Some, List, [], ◌∷◌, ◌++◌, length, refl, ap, ◌∙◌, arith}
use Rattle.std.proofs.Common.{None as Nothing_}
use Rattle.std.specs.Prelude.{slice_get, option_to_list, IsSome, ◌↔◌}
use Rattle.ioc_callback.specs.declared.queues.Queues.{Queues}
use Rattle.ioc_callback.specs.Serving.{in_turn, served}
use Rattle.ioc_record.specs.RecordRules.{RecordRules}
use Rattle.ioc_events.specs.declared.event.Event.TheVariants.{Process}
use Rattle.ioc_sim.specs.Machine.{Machine, with_queues, served_one, serve, done}

-- The request that was taken is the first that waits.
pub first_is : (all others : List ℕ) (taken : Option ℕ) (n : ℕ) → taken ≡ Some n → all ≡ option_to_list taken ++ others → slice_get all 0 ≡ Some n
first_is all others Nothing_ n is e = absurd cc
first_is all others (Some m) n is e = rw e is

-- If nothing was taken, nothing waits.
pub none_counted_by : (count : ℕ) (taken : Option ℕ) → taken ≡ Nothing_ → IsSome taken ↔ (0 < count) → count ≡ 0
none_counted_by zero taken is some = refl
none_counted_by (suc n) Nothing_ is some = let there : IsSome {T = ℕ} Nothing_ = some.1 (omega arith) in cc
none_counted_by (suc n) (Some m) is some = absurd cc

pub none_first : (all : List ℕ) → length all ≡ 0 → slice_get all 0 ≡ Nothing_
none_first [] e = refl
none_first (x ∷ xs) e = absurd (omega (arith, e))

module _ {R : Type 0} (k : RecordRules R) where
  -- If no request waits, none is served.
  pub serve-none : (turns : ℕ) (m : Machine R) → slice_get (in_turn m.scanner.queues) 0 ≡ Nothing_ → serve k turns m ≡ m
  unfolding serve
  serve-none zero m none = refl
  serve-none (suc turns) m none = ap (λ (o : Option ℕ). serve k turns (served_one k m o)) none ∙ serve-none turns m none

  -- The first request is served, and then the others.
  pub serve-some : (turns : ℕ) (m : Machine R) (n : ℕ) → slice_get (in_turn m.scanner.queues) 0 ≡ Some n
      → serve k (suc turns) m ≡ serve k turns (done k (with_queues m (served m.scanner.queues)) (Process n)).machine
  unfolding serve
  serve-some turns m n is = ap (λ (o : Option ℕ). serve k turns (served_one k m o)) is

  pub serve-zero : (m : Machine R) → serve k 0 m ≡ m
  unfolding serve
  serve-zero m = refl

-- Empty queues stay as they are.
served_parts : (high medium low once : List ℕ) (dropped : ℕ) → length (high ++ medium ++ low ++ once) ≡ 0
    → (let q : Queues ℕ = record { high = high; medium = medium; low = low; once = once; dropped = dropped } in served q ≡ q)
served_parts [] [] [] [] dropped e = refl
served_parts [] [] [] (x ∷ xs) dropped e = absurd (omega (arith, e))
served_parts [] [] (x ∷ xs) once dropped e = absurd (omega (arith, e))
served_parts [] (x ∷ xs) low once dropped e = absurd (omega (arith, e))
served_parts (x ∷ xs) medium low once dropped e = absurd (omega (arith, e))

pub served-none : (q : Queues ℕ) → length (in_turn q) ≡ 0 → served q ≡ q
served-none q e = served_parts q.high q.medium q.low q.once q.dropped e
