-- A record that a step leaves ready to begin or to resume, and the turns that follow.
use Rattle.std.proofs.Common.{◌≡◌, ℕ, ◌+◌, ◌≤◌, ◌<◌, Bool, true, false, cond, List, [], ◌∷◌, ◌++◌, ap, ◌∙◌, arith}
use Rattle.std.specs.Global.{Vec}
use Rattle.std.specs.Prelude.{vec_len, vec_capacity}
use Rattle.ioc_dbcommon.specs.declared.common.Common.{Common}
use Rattle.ioc_dbcommon.specs.Steps.{with_active}
use Rattle.ioc_ledger.specs.declared.outcome.Outcome.{Outcome}
use Rattle.ioc_record.specs.RecordRules.{RecordRules}
use Rattle.ioc_record.specs.Laws.{IsLawful}
use Rattle.ioc_store.specs.declared.frames.Frame.{Frame}
use Rattle.ioc_store.specs.declared.frames.Next.{Next}
use Rattle.ioc_store.specs.declared.frames.Next.TheVariants.{Requests}
use Rattle.ioc_store.specs.World.{World, Has, common_at, changed, idle, Stays, Keeps, IsClosed}
use Rattle.ioc_store.specs.StepFrames.{OwnLinks}
use Rattle.ioc_store.specs.Worlds.{room-active}
use Rattle.ioc_store.specs.Places.{requested_at}
use Rattle.ioc_process.specs.Frames.{Turn, Ended, Turns, turn_of, calls_left}
use Rattle.ioc_process.specs.Depth.{stays-changed}
use Rattle.ioc_process.specs.Keeping.{keeps_all, keeps_on, keeps-active, keeps-changed, closed_on}
use Rattle.ioc_process.specs.Ready.{IsReady, TakesTurn}
use Rattle.ioc_process.proofs.FrameSteps.{back-idle, back-inactive}
use Rattle.ioc_process.proofs.FrameTurns.{opens_pushed, turn_pushed}
use Rattle.ioc_process.proofs.Turning.{turns_on, turns_calls, turns_ended}

module _ {R : Type 0} (k : RecordRules R) where
  -- A step from `w` to `v` keeps all records and leaves record `s` idle; up to `more` records have
  -- become idle.
  pub record StaysReady (w v : World R) (s more : ℕ) : Type 0 where
    pub there : Has v s
    pub closed : IsClosed k v
    pub is_idle : (common_at k v s).active ≡ false
    pub keeps : Keeps k w v
    pub fewer : idle k v ≤ idle k w + more

  -- A turn after such a step is a turn from the start of the step.
  pub turns_ready : {w v after : World R} {s more most most' : ℕ} {turn : Turn} → StaysReady w v s more → most ≤ most'
      → Turns k v after 0 most turn → Turns k w after more most' turn
  turns_ready ready left turns = turns_on k ready.keeps (omega (arith, ready.fewer)) left turns

  pub is_ready : {w v : World R} {s more : ℕ} {frames : Vec Frame} → StaysReady w v s more → vec_len frames < vec_capacity frames → IsReady k v s frames
  is_ready stays room = record { there = stays.there; closed = stays.closed; is_idle = stays.is_idle; room = room }

  pub takes_ready : {w v after : World R} {s most most' : ℕ} {before frames : Vec Frame} {result : Next} → StaysReady w v s 0 → most ≤ most'
      → TakesTurn k v after most before frames result → TakesTurn k w after most' before frames result
  takes_ready stays left takes = record { turns = turns_ready stays left takes.turns; opens = takes.opens; room = takes.room }

  -- The frames are those that were open at the start.
  pub takes_ready_at : {w v after : World R} {s most most' : ℕ} {before mid frames : Vec Frame} {result : Next} → mid ≡ before → StaysReady w v s 0 → most ≤ most'
      → TakesTurn k v after most mid frames result → TakesTurn k w after most' before frames result
  takes_ready_at is stays left takes = rw (← is) (takes_ready stays left takes)

  -- A turn makes at most as many requests as a larger bound.
  pub takes_more : {w after : World R} {most most' : ℕ} {before frames : Vec Frame} {result : Next} → most ≤ most' → TakesTurn k w after most before frames result → TakesTurn k w after most' before frames result
  takes_more left takes = record { turns = turns_on k (keeps_all k _) (omega arith) left takes.turns; opens = takes.opens; room = takes.room }

module _ {R : Type 0} (k : RecordRules R) (lawful : IsLawful k) where
  -- A step that keeps the links leaves an idle record ready.
  pub ready_by : {w v mid : World R} {s : ℕ} → v ≡ mid → Keeps k w mid → Stays k w s mid
      → Has w s → IsClosed k w → (common_at k w s).active ≡ false → StaysReady k w v s 0
  ready_by is keeps stays there closed inactive = rw is (record {
    there = keeps.has _ there;
    closed = closed_on k lawful keeps closed;
    is_idle = stays.active ∙ inactive;
    keeps = keeps;
    fewer = omega (arith, stays.fewer);
  })

  -- A step that keeps the links leaves a record ready that was left ready before.
  pub ready_then : {w mid v step : World R} {s : ℕ} → StaysReady k w mid s 0 → v ≡ step → Keeps k mid step → Stays k mid s step → StaysReady k w v s 0
  ready_then first is keeps stays =
      let next = ready_by is keeps stays first.there first.closed first.is_idle in
      record { there = next.there; closed = next.closed; is_idle = next.is_idle; keeps = keeps_on k first.keeps next.keeps; fewer = omega (arith, first.fewer, next.fewer) }

  -- A record that resumes is ready.
  pub ready_again : {w v : World R} {s : ℕ} → v ≡ changed k w s (with_active false) → Has w s → IsClosed k w → StaysReady k w v s 1
  ready_again {w = w} {s = s} is there closed =
      let keeps = keeps-active k lawful w s there false in
      rw is (record {
        there = keeps.has _ there;
        closed = closed_on k lawful keeps closed;
        is_idle = back-inactive k lawful w s;
        keeps = keeps;
        fewer = back-idle k lawful w s;
      })

  -- An idle record that opens a frame is active, and the frame waits for the record that it names.
  pub turns_pushed : {w v : World R} {items : List Frame} {most : ℕ} (frames : List Frame) (frame : Frame) → v ≡ changed k w frame.source (with_active true) → items ≡ frames ++ frame ∷ []
      → Has w frame.source → Has w (requested_at frame.place) → (common_at k w frame.source).active ≡ false → calls_left frame.place + 1 ≤ most
      → Turns k w v 0 most (turn_of items Requests)
  turns_pushed {w = w} frames frame is opened there standing inactive left =
      let keeps = keeps-active k lawful w frame.source there true in
      let fewer = ap {A = Bool} {B = ℕ} (λ b. cond b 1 0) inactive in
      rw (is, opened, turn_pushed)
      (turns_calls k frame keeps (omega (arith, room-active k lawful w frame.source, fewer)) (record { source_there = keeps.has _ there; requested_there = keeps.has _ standing }) left)

  -- A ready record that opens a frame takes a turn.
  pub takes_pushed : {w v : World R} {before frames : Vec Frame} {most : ℕ} (frame : Frame) → v ≡ changed k w frame.source (with_active true) → frames.items ≡ before.items ++ frame ∷ [] → vec_capacity frames ≡ vec_capacity before
      → IsReady k w frame.source before → Has w (requested_at frame.place) → calls_left frame.place + 1 ≤ most → TakesTurn k w v most before frames Requests
  takes_pushed frame is opened room ready standing left =
      record { turns = turns_pushed _ frame is opened ready.there standing ready.is_idle left; opens = opens_pushed _ _ frame opened; room = room }

  -- A change of one record that keeps its links and its active mark may end a turn.
  pub turns_changed : {w v : World R} {most : ℕ} (s : ℕ) (f : Common → Common) → v ≡ changed k w s f → Has w s → ((c : Common) → OwnLinks c (f c))
      → (f (common_at k w s)).active ≡ (common_at k w s).active → (outcome : Outcome) → Turns k w v 0 most (Ended outcome)
  turns_changed {w = w} s f is there links active outcome =
      rw is (turns_ended k (keeps-changed k lawful w s there f links) (omega (arith, (stays-changed k lawful w s f active).fewer)) outcome)
