-- The turn that was taken, given the open frames and the record that is requested.
use Rattle.std.proofs.Common.{◌≡◌, ℕ, zero, suc, subst, sym, ◌+◌, ◌≤◌, List, [], ◌∷◌, ◌++◌, length, reverse, Option, Some, None as Nothing_, refl, ap, ◌∙◌, arith}
use Rattle.std.proofs.lemmas.List.{reverse-append, reverse-reverse, length_push}
use Rattle.std.specs.List.{last_or}
use Rattle.std.specs.Prelude.{slice_get, ◌-◌}
use Rattle.ioc_ledger.specs.Requests.{None}
use Rattle.ioc_record.specs.RecordRules.{RecordRules}
use Rattle.ioc_store.specs.declared.frames.Frame.{Frame}
use Rattle.ioc_store.specs.World.{World}
use Rattle.ioc_process.specs.Processing.{Ran}
use Rattle.ioc_store.specs.declared.frames.Next.{Next}
use Rattle.ioc_store.specs.declared.frames.Next.TheVariants.{Requests, Ends}
use Rattle.ioc_ledger.specs.declared.outcome.Outcome.{Outcome}
use Rattle.ioc_process.specs.Frames.{Turn, Ended, Calls, newest_of, waits_with, turn_of, next_of, opened, Opens, calls, called_by, after_turn, then_frames, FrameStands, AllStand, TurnStands}
use Rattle.ioc_store.specs.Given.{Answers}

-- The open frames after a turn, the newest first.
abbrev pub opened_first : List Frame → Turn → List Frame
opened_first frames (Ended outcome) = frames
opened_first frames (Calls frame) = frame ∷ frames

pub reverse_push : (frames : List Frame) (frame : Frame) → reverse (frames ++ frame ∷ []) ≡ frame ∷ reverse frames
reverse_push frames frame = reverse-append frames (frame ∷ [])

pub reverse_opened : (frames : List Frame) (turn : Turn) → reverse (opened frames turn) ≡ opened_first (reverse frames) turn
reverse_opened frames (Ended outcome) = refl
reverse_opened frames (Calls frame) = reverse_push frames frame

pub all_opened : (frames after : List Frame) (turn : Turn) → after ≡ opened frames turn → reverse after ≡ opened_first (reverse frames) turn
all_opened frames after turn is = ap reverse is ∙ reverse_opened frames turn

pub length_opened : (frames : List Frame) (turn : Turn) → length (opened frames turn) ≡ length frames + calls turn
length_opened frames (Ended outcome) = omega arith
length_opened frames (Calls frame) = length_push frames frame

last_push : (frames : List Frame) (frame : Frame) (other : Option Frame) → last_or other (frames ++ frame ∷ []) ≡ Some frame
last_push [] frame other = refl
last_push (first ∷ frames) frame other = last_push frames frame (Some first)

-- The newest frame waits for the record that is requested.
pub turn_pushed : (frames : List Frame) (frame : Frame) → turn_of (frames ++ frame ∷ []) Requests ≡ Calls frame
turn_pushed frames frame = ap (λ (newest : Option Frame). waits_with newest) (last_push frames frame Nothing_)

-- A frame was opened.
pub opens_pushed : (frames after : List Frame) (frame : Frame) → after ≡ frames ++ frame ∷ [] → Opens frames after Requests
opens_pushed frames after frame is = rw is (record { frames = rw (turn_pushed frames frame) refl; next = rw (turn_pushed frames frame) refl })

-- No frame was opened.
pub opens_none : (frames after : List Frame) (outcome : Outcome) → after ≡ frames → Opens frames after (Ends outcome)
opens_none frames after outcome is = record { frames = is; next = refl }

-- A frame is open if a record is requested.
abbrev pub NextOpens : List Frame → Next → Type 0
NextOpens frames (Ends outcome) = Unit {0}
NextOpens frames Requests = 1 ≤ length frames

pub next_opens : (frames : List Frame) (turn : Turn) → NextOpens (opened_first frames turn) (next_of turn)
next_opens frames (Ended outcome) = tt
next_opens frames (Calls frame) = omega arith

pub all_stand : {R : Type 0} (w : World R) (frames : List Frame) (turn : Turn) → TurnStands w turn → AllStand w frames → AllStand w (opened_first frames turn)
all_stand w frames (Ended outcome) stands all = all
all_stand w frames (Calls frame) stands all = (stands, all)

module _ {R : Type 0} (k : RecordRules R) (answers : Answers) where
  -- What the next step leads to.
  abbrev pub now : World R → List Frame → Next → Ran R
  now w frames (Ends outcome) = record { world = w; requests = None; outcome = outcome }
  now w frames Requests = called_by k answers w (newest_of frames)

  pub turn_now : (w : World R) (frames : List Frame) (turn : Turn)
      → then_frames k answers (after_turn k answers w turn) frames ≡ then_frames k answers (now w (opened_first frames turn) (next_of turn)) (opened_first frames turn)
  unfolding after_turn
  turn_now w frames (Ended outcome) = refl
  turn_now w frames (Calls frame) = refl

module _ {R : Type 0} (k : RecordRules R) (answers : Answers) where
  -- A turn that was taken while no frame was open leads to its own result.
  pub begun_now : (w : World R) (frames : List Frame) (first : Next) → Opens [] frames first
      → after_turn k answers w (turn_of frames first) ≡ then_frames k answers (now k answers w (reverse frames) first) (reverse frames)
  begun_now w frames first opens =
      let turn = turn_of frames first in
      turn_now k answers w [] turn
      ∙ ap (λ (next : Next). then_frames k answers (now k answers w (opened_first [] turn) next) (opened_first [] turn)) opens.next
      ∙ ap (λ (fs : List Frame). then_frames k answers (now k answers w fs first) fs) (sym (all_opened [] frames turn opens.frames))

-- Reversing the frames puts the newest one last.
reverse-cons : (frame : Frame) (frames : List Frame) → reverse (frame ∷ frames) ≡ reverse frames ++ frame ∷ []
reverse-cons frame frames = reverse-append (frame ∷ []) frames

newest_push : (frames : List Frame) (next frame : Frame) → newest_of ((frames ++ next ∷ []) ++ frame ∷ []) ≡ newest_of (frames ++ next ∷ [])
newest_push [] next frame = refl
newest_push (first ∷ frames) next frame = refl

last_newest : (frames : List Frame) (frame : Frame) → newest_of (reverse frames ++ frame ∷ []) ≡ last_or (Some frame) frames
last_newest [] frame = refl
last_newest (next ∷ frames) frame = ap (λ fs. newest_of (fs ++ frame ∷ [])) (reverse-cons next frames) ∙ newest_push (reverse frames) next frame ∙ last_newest frames next

pub newest_reverse : (frames : List Frame) → newest_of (reverse frames) ≡ last_or Nothing_ frames
newest_reverse [] = refl
newest_reverse (frame ∷ frames) = ap newest_of (reverse-cons frame frames) ∙ last_newest frames frame

last_from : (frames : List Frame) (first : Frame) (other : Option Frame) (frame : Frame) → slice_get (first ∷ frames) (length frames) ≡ Some frame → last_or other (first ∷ frames) ≡ Some frame
last_from [] first other frame is = is
last_from (next ∷ frames) first other frame is = last_from frames next (Some first) frame is

-- The last frame is the newest.
pub last_is : (frames : List Frame) (frame : Frame) → slice_get frames (length frames - 1) ≡ Some frame → last_or Nothing_ frames ≡ Some frame
last_is [] frame is = cc
last_is (first ∷ frames) frame is =
    let e : length (first ∷ frames) - 1 ≡ length frames = omega arith in
    last_from frames first Nothing_ frame (sym (ap (slice_get (first ∷ frames)) e) ∙ is)

-- The records of each frame exist.
pub one_stands : {R : Type 0} (w : World R) (frames : List Frame) (n : ℕ) (frame : Frame) → AllStand w frames → slice_get frames n ≡ Some frame → FrameStands w frame
one_stands w [] n frame all is = cc
one_stands w (first ∷ frames) zero frame all is = let e : first ≡ frame = cc in subst (FrameStands w) e all.0
one_stands w (first ∷ frames) (suc n) frame all is = one_stands w frames n frame all.1 is

-- The records of all frames still exist after one more frame, in either order.
all_on : {R : Type 0} (w : World R) (frames : List Frame) (frame : Frame) → AllStand w frames → FrameStands w frame → AllStand w (frames ++ frame ∷ [])
all_on w [] frame all stands = (stands, tt)
all_on w (first ∷ frames) frame all stands = (all.0, all_on w frames frame all.1 stands)

all_reversed : {R : Type 0} (w : World R) (frames : List Frame) → AllStand w frames → AllStand w (reverse frames)
all_reversed w [] all = tt
all_reversed w (frame ∷ frames) all = subst (AllStand w) (sym (reverse-cons frame frames)) (all_on w (reverse frames) frame (all_reversed w frames all.1) all.0)

pub all_forward : {R : Type 0} (w : World R) (frames : List Frame) → AllStand w (reverse frames) → AllStand w frames
all_forward w frames all = subst (AllStand w) (reverse-reverse frames) (all_reversed w (reverse frames) all)
