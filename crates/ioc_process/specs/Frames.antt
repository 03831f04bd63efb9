-- What is left to do of a request, given the open frames. How requests are made is this project's
-- own design.
use Rattle.std.specs.Prelude.{◌≡◌, ℕ, ◌+◌, ◌-◌, ◌≤◌, filter, drop, Bool, true, false, ◌||◌, if◌then◌else◌, List, [], ◌∷◌, ◌++◌, Option, Some}
use Rattle.std.specs.Prelude.{None as Nothing_}
use Rattle.std.specs.List.{last_or}
use Rattle.ioc_ledger.specs.declared.tally.Tally.{Tally}
use Rattle.ioc_ledger.specs.declared.outcome.Outcome.{Outcome}
use Rattle.ioc_ledger.specs.declared.outcome.Outcome.TheVariants.{Active, Reprocess}
use Rattle.ioc_ledger.specs.Requests.{None, followed_by, counted}
use Rattle.ioc_fields.specs.Names.{all_slots}
use Rattle.ioc_fields.specs.Slots.{slot_number}
use Rattle.ioc_fields.specs.declared.field_no.FieldSlot.{FieldSlot}
use Rattle.ioc_dbcommon.specs.declared.link_field.StandingLink.{StandingLink}
use Rattle.ioc_dbcommon.specs.Steps.{with_active, disable_kind}
use Rattle.ioc_record.specs.RecordRules.{RecordRules}
use Rattle.ioc_store.specs.declared.frames.ResumePoint.{ResumePoint}
use Rattle.ioc_store.specs.declared.frames.ResumePoint.TheVariants.{ReadingDisable, Reading as Reading-place, Choosing, ReadingEach, Writing, FollowingEach, Following}
use Rattle.ioc_store.specs.declared.frames.InputsLeft.{InputsLeft}
use Rattle.ioc_store.specs.declared.frames.Frame.{Frame}
use Rattle.ioc_store.specs.declared.frames.Next.{Next}
use Rattle.ioc_store.specs.declared.frames.Next.TheVariants.{Requests as Requests-next, Ends}
use Rattle.ioc_store.specs.World.{World, Has, common_at, changed, idle, Keeps}
use Rattle.ioc_store.specs.Marks.{is_put_down, put_down, put_mark_passed}
use Rattle.ioc_store.specs.Inputs.{is_fault}
use Rattle.ioc_store.specs.Links.{is_chosen}
use Rattle.ioc_process.specs.Processing.{Done, Ran, Came, Read, Reading, as_input, as_request, processed, ran_after, completed_if, request, ran, read_at, input_read, read_each, read_chosen, judged, completed, finished, followed_each}
use Rattle.ioc_store.specs.Given.{Answers}
use Rattle.ioc_store.specs.Notifying.{passed_on}
use Rattle.ioc_store.specs.Places.{requested_at}
use Rattle.ioc_store.specs.Rests.{rested, disable_came}

-- What a record does when it has begun or resumed.
pub data Turn : Type 0 where
  -- Its request is done, or its device answers later.
  Ended : Outcome → Turn
  -- It requests the record that the frame names, and resumes at the frame afterwards.
  Calls : Frame → Turn

-- The newest of the open frames, in a list that begins with it.
abbrev pub newest_of : List Frame → Option Frame
newest_of [] = Nothing_
newest_of (frame ∷ frames) = Some frame

-- The turn that was taken, given the open frames and what the code does next: the newest frame
-- waits for a request.
abbrev pub waits_with : Option Frame → Turn
waits_with Nothing_ = Ended Active
waits_with (Some frame) = Calls frame

abbrev pub turn_of : List Frame → Next → Turn
turn_of frames (Ends outcome) = Ended outcome
turn_of frames Requests-next = waits_with (last_or Nothing_ frames)

-- What the code does after a turn.
abbrev pub next_of : Turn → Next
next_of (Ended outcome) = Ends outcome
next_of (Calls frame) = Requests-next

-- The open frames after a turn, the newest last.
abbrev pub opened : List Frame → Turn → List Frame
opened frames (Ended outcome) = frames
opened frames (Calls frame) = frames ++ frame ∷ []

-- Holds if a turn opened one frame when it requests a record, and none otherwise.
pub record Opens (before after : List Frame) (result : Next) : Type 0 where
  pub frames : after ≡ opened before (turn_of after result)
  pub next : next_of (turn_of after result) ≡ result

-- The number of requests that a turn makes immediately.
abbrev pub calls : Turn → ℕ
calls (Ended outcome) = 0
calls (Calls frame) = 1

-- The largest number of requests that a body still makes when it resumes at this point: of the inputs that it reads, sixteen
-- links and the forward link at most.
abbrev pub calls_left : ResumePoint → ℕ
calls_left (ReadingDisable t) = 34
calls_left (Reading-place t) = 17
calls_left (Choosing t) = 33
calls_left (ReadingEach left t) = (15 - slot_number left.slot) + 17
calls_left (Writing target) = 1
calls_left (FollowingEach links target next) = (16 - next) + 1
calls_left (Following target) = 0

-- Whether a body that resumes at this point is done: it has followed its forward link.
abbrev pub is_done_at : ResumePoint → Bool
is_done_at (Following target) = true
is_done_at _ = false

-- The largest number of requests that are still made after a turn, including the one that the turn
-- makes.
abbrev pub turn_left : Turn → ℕ
turn_left (Ended outcome) = 0
turn_left (Calls frame) = 1 + calls_left frame.place

-- The largest number of requests that a body makes: of the record that it reads first, of sixteen inputs, of sixteen links, and
-- of its forward link.
abbrev pub most_calls : ℕ
most_calls = 34

-- The largest number of requests that a request makes: those of the body, and that of the record
-- that SDIS names.
abbrev pub most_of_request : ℕ
most_of_request = 35

-- Holds if the records of a frame exist.
pub record FrameStands {R : Type 0} (w : World R) (frame : Frame) : Type 0 where
  pub source_there : Has w frame.source
  pub requested_there : Has w (requested_at frame.place)

-- Holds if the records of all frames exist.
abbrev pub AllStand : {R : Type 0} → World R → List Frame → Type 0
AllStand w [] = Unit {0}
AllStand w (frame ∷ frames) = FrameStands w frame × AllStand w frames

abbrev pub TurnStands : {R : Type 0} → World R → Turn → Type 0
TurnStands w (Ended outcome) = Unit {0}
TurnStands w (Calls frame) = FrameStands w frame

-- A turn keeps all records and their links. Before each request that it makes immediately, one
-- record less is idle; up to `more` records may have become idle. Its body makes at most `most`
-- more requests.
pub record Turns {R : Type 0} (k : RecordRules R) (w after : World R) (more most : ℕ) (turn : Turn) : Type 0 where
  pub keeps : Keeps k w after
  pub fewer : idle k after + calls turn ≤ idle k w + more
  pub stands : TurnStands after turn
  pub left : turn_left turn ≤ most

-- The numbers of the chosen links from this number on.
unfoldable pub remaining : ℕ → ℕ → List FieldSlot
remaining links next = filter (is_chosen links) (drop next all_slots)

module _ {R : Type 0} (k : RecordRules R) (answers : Answers) where
  -- Record `s` finishes after this.
  unfoldable pub then_finished : ℕ → Done R → Done R
  then_finished s done =
      let rest = finished k (request k answers) done.world s in
      record { world = rest.world; requests = followed_by done.requests rest.requests }

  -- The part of a body after its input.
  unfoldable pub after_reading : ℕ → Reading R → Done R
  after_reading s reading =
      let rest = completed_if k answers (request k answers) reading.world s reading.came in
      record { world = rest.world; requests = followed_by reading.requests rest.requests }

  -- Record `s` reads these inputs, and its body goes on with what comes of them.
  unfoldable pub then_read_each : ℕ → Bool → List FieldSlot → World R → Ran R
  then_read_each s has_fault slots w = processed (after_reading s (as_input (read_each k (request k answers) w s has_fault slots)))

  -- Record `s` reads the inputs that are chosen by what came, and its body goes on.
  unfoldable pub then_chosen : ℕ → Came R → Ran R
  then_chosen s chosen = processed (after_reading s (as_input (read_chosen k (request k answers) chosen s)))

  -- Record `s` reads one of its inputs, and then those that are left.
  unfoldable pub resumed_reading : World R → ℕ → InputsLeft → StandingLink → Ran R
  resumed_reading w s left t =
      let read = input_read k w s t left.slot in
      then_read_each s (left.has_fault || is_fault read.came) (remaining left.inputs (slot_number left.slot + 1)) read.world

  -- Record `s` resumes at this point.
  unfoldable pub went_on : World R → ℕ → ResumePoint → Ran R
  went_on w s (ReadingDisable t) =
      let read = read_at k (λ _. disable_kind) (changed k w s (with_active false)) s t in
      judged k answers (request k answers) (disable_came k read.world s read.came) s
  went_on w s (Reading-place t) =
      let read = read_at k k.input_kind (changed k w s (with_active false)) s t in
      processed (completed k answers (request k answers) read.world s read.came)
  went_on w s (Choosing t) = then_chosen s (read_at k k.input_kind (changed k w s (with_active false)) s t)
  went_on w s (ReadingEach left t) = resumed_reading (changed k w s (with_active false)) s left t
  went_on w s (Writing target) = processed (finished k (request k answers) (changed k w s (with_active false)) s)
  went_on w s (FollowingEach links target next) =
      processed (then_finished s (followed_each k (request k answers) (changed k w s (with_active false)) s (remaining links next)))
  went_on w s (Following target) = processed (record { world = rested k (changed k w s (with_active true)) s; requests = None })

  -- These requests, followed by what resumes at the frame.
  unfoldable pub then_frame : Done R → Frame → Ran R
  then_frame done frame = ran_after done.requests (went_on done.world frame.source frame.place)

  -- The request of record `t` by record `s`, which is active.
  unfoldable pub asked_ran : World R → ℕ → ℕ → Ran R
  asked_ran w s t =
      let by_put = (common_at k w s).by_put in
      if is_put_down by_put (common_at k w t)
      then record { world = changed k w t put_down; requests = None; outcome = Reprocess }
      else ran k answers (passed_on k (changed k w t (put_mark_passed by_put)) s t) t

  -- The request that the frame waits for.
  abbrev pub called_by : World R → Option Frame → Ran R
  called_by w Nothing_ = record { world = w; requests = None; outcome = Active }
  called_by w (Some frame) = asked_ran w frame.source (requested_at frame.place)

  -- The part of a request after reading SDIS.
  unfoldable pub after_disable : ℕ → Read R → Ran R
  after_disable s read = ran_after read.requests (judged k answers (request k answers) (disable_came k read.world s read.came) s)

  -- Everything that follows from a turn.
  unfoldable pub after_turn : World R → Turn → Ran R
  after_turn w (Ended outcome) = record { world = w; requests = None; outcome = outcome }
  after_turn w (Calls frame) = then_frame (as_request (asked_ran w frame.source (requested_at frame.place))) frame

  -- All open frames are resumed after this, the newest first.
  abbrev pub then_frames : Ran R → List Frame → Ran R
  then_frames ran [] = ran
  then_frames ran (frame ∷ frames) = then_frames (then_frame (as_request ran) frame) frames

-- The code has come from the tally `before` to `counts`, and what is left leads to the same result
-- as `ran`.
pub record Goes {R : Type 0} (before counts : Tally) (ran left : Ran R) : Type 0 where
  pub world : ran.world ≡ left.world
  pub outcome : ran.outcome ≡ left.outcome
  pub tally : counted before ran.requests ≡ counted counts left.requests
