-- The work that is left in the frames, as a number that decreases with each turn.
use Rattle.std.proofs.Common.{◌≡◌, ℕ, zero, suc, ◌+◌, ◌-◌, ◌*◌, ◌<◌, ◌≤◌, List, [], ◌∷◌, length, refl, arith}
use Rattle.std.proofs.Math.Nat.{mul-le-mul_right}
use Rattle.ioc_store.specs.declared.frames.ResumePoint.{ResumePoint}
use Rattle.ioc_store.specs.declared.frames.Frame.{Frame}
use Rattle.ioc_process.specs.Frames.{Turn, Ended, Calls, next_of, calls_left, turn_left, calls, most_of_request}
use Rattle.ioc_store.specs.declared.frames.Next.{Next}
use Rattle.ioc_store.specs.declared.frames.Next.TheVariants.{Requests, Ends}
use Rattle.ioc_ledger.specs.declared.outcome.Outcome.{Outcome}
use Rattle.ioc_process.proofs.FrameTurns.{opened_first}

-- The number of turns that a request may take with this many idle records.
abbrev pub cost : ℕ → ℕ
cost zero = 1
cost (suc i) = 1 + most_of_request * (cost i + 1)

cost-pos : (i : ℕ) → 1 ≤ cost i
cost-pos zero = omega arith
cost-pos (suc i) = omega arith

-- The number of turns of a body that resumes at this point.
abbrev pub place_work : ℕ → ResumePoint → ℕ
place_work i place = 1 + calls_left place * (cost i + 1)

abbrev pub frames_work : ℕ → List Frame → ℕ
frames_work n [] = 0
frames_work n (frame ∷ frames) = place_work (n - suc (length frames)) frame.place + frames_work n frames

-- The number of turns of the request that begins, if one does.
abbrev pub next_work : ℕ → ℕ → Next → ℕ
next_work n open_frames (Ends outcome) = 0
next_work n open_frames Requests = cost (n - open_frames)

abbrev pub work : ℕ → List Frame → Next → ℕ
work n frames next = frames_work n frames + next_work n (length frames) next

-- The cost of a request in terms of the cost one level deeper.
cost-less : (n open_frames : ℕ) → suc open_frames ≤ n → cost (n - open_frames) ≡ 1 + most_of_request * (cost (n - suc open_frames) + 1)
cost-less n open_frames h = let e : n - open_frames ≡ suc (n - suc open_frames) = omega arith in rw e refl

-- `a` calls and one under way cost no more than `b` calls, if `a` is less than `b`.
within : (a b c : ℕ) → 1 + a ≤ b → (1 + a * (c + 1)) + c ≤ b * (c + 1)
within a b c h = let m : (1 + a) * (c + 1) ≤ b * (c + 1) = mul-le-mul_right (c + 1) h in omega (arith, m)

-- The work decreases when a request begins and its record takes a turn.
pub work-called : (n : ℕ) (frames : List Frame) (turn : Turn) → length frames + calls turn ≤ n → turn_left turn ≤ most_of_request
    → work n (opened_first frames turn) (next_of turn) < work n frames Requests
work-called n frames (Ended outcome) h left = omega (arith, cost-pos (n - length frames))
work-called n frames (Calls frame) h left =
    omega (arith, cost-less n (length frames) (omega arith), within (calls_left frame.place) most_of_request (cost (n - suc (length frames))) left)

-- The work decreases when a frame is removed and its body takes a turn.
pub work-went_on : (n : ℕ) (frames : List Frame) (frame : Frame) (outcome : Outcome) (turn : Turn) → turn_left turn ≤ calls_left frame.place
    → work n (opened_first frames turn) (next_of turn) < work n (frame ∷ frames) (Ends outcome)
work-went_on n frames frame outcome (Ended other) h = omega arith
work-went_on n frames frame outcome (Calls other) h = omega (arith, within (calls_left other.place) (calls_left frame.place) (cost (n - suc (length frames))) h)
