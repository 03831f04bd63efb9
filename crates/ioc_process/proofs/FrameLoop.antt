-- One turn of the loop over frames.
use Rattle.std.proofs.Common.{◌≡◌, List, [], ◌∷◌, length, refl, sym, subst, ◌∙◌, arith}
use Rattle.ioc_ledger.specs.declared.tally.Tally.{Tally}
use Rattle.ioc_record.specs.RecordRules.{RecordRules}
use Rattle.ioc_record.specs.Laws.{IsLawful}
use Rattle.ioc_store.specs.declared.frames.Frame.{Frame}
use Rattle.ioc_store.specs.World.{World, Keeps}
use Rattle.ioc_process.specs.Processing.{Ran}
use Rattle.ioc_process.specs.Frames.{Turn, newest_of, next_of, called_by, went_on, then_frames, after_turn, Goes, FrameStands, AllStand}
use Rattle.ioc_store.specs.declared.frames.Next.TheVariants.{Requests, Ends}
use Rattle.ioc_ledger.specs.declared.outcome.Outcome.{Outcome}
use Rattle.ioc_ledger.specs.Requests.{counted_one}
use Rattle.ioc_process.specs.Runs.{Comes}
use Rattle.ioc_process.proofs.FrameTurns.{opened_first, now, turn_now}
use Rattle.ioc_process.proofs.FrameSteps.{goes-on, goes-popped}
use Rattle.ioc_store.specs.Given.{Answers}

pub goes_here : {R : Type 0} (before : Tally) (done : Ran R) → Goes before before done done
goes_here before done = record { world = refl; outcome = refl; tally = refl }

goes_both : {R : Type 0} {before between counts : Tally} {done mid left : Ran R} → Goes before between done mid → Goes between counts mid left → Goes before counts done left
goes_both one two = record { world = one.world ∙ two.world; outcome = one.outcome ∙ two.outcome; tally = one.tally ∙ two.tally }

module _ {R : Type 0} (k : RecordRules R) where
  pub frame-keeps : (w after : World R) (frame : Frame) → Keeps k w after → FrameStands w frame → FrameStands after frame
  frame-keeps w after frame keeps stands = record { source_there = keeps.has _ stands.source_there; requested_there = keeps.has _ stands.requested_there }

  pub all-keep : (w after : World R) (frames : List Frame) → Keeps k w after → AllStand w frames → AllStand after frames
  all-keep w after [] keeps stands = tt
  all-keep w after (frame ∷ frames) keeps stands = (frame-keeps w after frame keeps stands.0, all-keep w after frames keeps stands.1)

module _ {R : Type 0} (k : RecordRules R) (lawful : IsLawful k) (answers : Answers) (before counts : Tally) (done : Ran R) (w after : World R) (frames : List Frame) (turn : Turn) where
  -- A request began, and its record took a turn.
  pub goes-called : Goes before counts done (then_frames k answers (now k answers w frames Requests) frames) →
      called_by k answers w (newest_of frames) ≡ after_turn k answers after turn
      → Goes before counts done (then_frames k answers (now k answers after (opened_first frames turn) (next_of turn)) (opened_first frames turn))
  goes-called so_far is =
      subst (λ d. Goes before counts done d) (turn_now k answers after frames turn) (subst (λ d. Goes before counts done (then_frames k answers d frames)) is so_far)

  -- A frame was removed, the request that it waited for was counted, and its body took a turn.
  pub goes-went_on : (frame : Frame) (outcome : Outcome) (new_counts : Tally) → new_counts ≡ counted_one counts outcome
      → Goes before counts done (then_frames k answers (now k answers w (frame ∷ frames) (Ends outcome)) (frame ∷ frames)) →
      went_on k answers w frame.source frame.place ≡ after_turn k answers after turn
      → Goes before new_counts done (then_frames k answers (now k answers after (opened_first frames turn) (next_of turn)) (opened_first frames turn))
  goes-went_on frame outcome new_counts one so_far is =
      subst (λ d. Goes before new_counts done d) (turn_now k answers after frames turn)
      (subst (λ d. Goes before new_counts done (then_frames k answers d frames)) is
      (goes_both so_far (goes-on k lawful answers counts new_counts frames _ _ (goes-popped k lawful answers counts new_counts w frame outcome one))))

pub empty_of_length : (frames : List Frame) → length frames ≡ 0 → frames ≡ []
empty_of_length [] is = refl
empty_of_length (frame ∷ frames) is = absurd (omega arith)

-- No frame is open, and nothing is left to do.
pub comes-ended : {R : Type 0} (k : RecordRules R) (answers : Answers) (before counts : Tally) (done : Ran R) (w : World R) (outcome : Outcome)
    → Goes before counts done (now k answers w [] (Ends outcome)) → Comes w before counts outcome done
comes-ended k answers before counts done w outcome goes = record { world = sym goes.world; outcome = sym goes.outcome; tally = sym goes.tally }
