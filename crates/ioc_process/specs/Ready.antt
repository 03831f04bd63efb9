-- What a record needs to begin or to resume, and the turn that the code takes then.
use Rattle.std.specs.Global.{Vec}
use Rattle.std.specs.Prelude.{◌≡◌, ◌<◌, ◌≤◌, ◌+◌, ℕ, false, vec_len, vec_capacity}
use Rattle.ioc_dbcommon.specs.declared.body.Need.{Need}
use Rattle.ioc_dbcommon.specs.declared.link_field.LinkUse.{LinkUse}
use Rattle.ioc_dbcommon.specs.declared.link_field.StandingLink.{StandingLink}
use Rattle.ioc_dbcommon.specs.Wants.{need_of}
use Rattle.ioc_record.specs.RecordRules.{RecordRules}
use Rattle.ioc_store.specs.World.{World, Has, at, common_at, idle, IsClosed}
use Rattle.ioc_store.specs.declared.frames.Frame.{Frame}
use Rattle.ioc_store.specs.declared.frames.Next.{Next}
use Rattle.ioc_process.specs.Frames.{after_turn, turn_of, Turns, Opens}
use Rattle.ioc_process.specs.Runs.{ForAnswers, IsStanding}
use Rattle.ioc_process.specs.Processing.{Ran}
use Rattle.ioc_store.specs.Given.{Answers, Given}

-- Holds if record `s` exists and is idle, no link leaves the world, and one more frame has room.
pub record IsReady {R : Type 0} (k : RecordRules R) (w : World R) (s : ℕ) (frames : Vec Frame) : Type 0 where
  pub there : Has w s
  pub closed : IsClosed k w
  pub is_idle : (common_at k w s).active ≡ false
  pub room : vec_len frames < vec_capacity frames

-- Holds if record `s` is ready, and the record that this link names exists.
pub record IsReadyFor {R : Type 0} (k : RecordRules R) (w : World R) (s : ℕ) (t : StandingLink) (frames : Vec Frame) : Type 0 where
  pub ready : IsReady k w s frames
  pub standing : Has w t.number

-- Holds if record `s` is ready, and the record that this use of a link names exists, if it names
-- one.
pub record CanReadThrough {R : Type 0} (k : RecordRules R) (w : World R) (s : ℕ) (link : LinkUse) (frames : Vec Frame) : Type 0 where
  pub ready : IsReady k w s frames
  pub standing : IsStanding w link

-- Holds if record `s` is ready, and its body needs this first.
pub record IsReadyNeeding {R : Type 0} (k : RecordRules R) (w : World R) (s : ℕ) (need : Need) (frames : Vec Frame) : Type 0 where
  pub ready : IsReady k w s frames
  pub wants : need_of (k.begin (at k w s)) ≡ need

-- Holds if record `s` exists, no link leaves the world, and there is room for a frame of each
-- record that is idle.
pub record CanRequest {R : Type 0} (k : RecordRules R) (w : World R) (s : ℕ) (frames : Vec Frame) : Type 0 where
  pub there : Has w s
  pub closed : IsClosed k w
  pub room : vec_len frames + idle k w ≤ vec_capacity frames

-- Holds if record `source` may request record `target`: both exist, no link leaves the world, and
-- there is room for a frame of each record that is idle.
pub record CanCall {R : Type 0} (k : RecordRules R) (w : World R) (source target : ℕ) (frames : Vec Frame) : Type 0 where
  pub there : Has w target
  pub source_there : Has w source
  pub closed : IsClosed k w
  pub room : vec_len frames + idle k w ≤ vec_capacity frames

-- Holds if this is what follows from the turn that the code takes, for all answers that accord with
-- the calls of the devices.
abbrev pub LeadsTo : {R D : Type 0} → (Answers → Ran R) → RecordRules R → Given D → World R → Vec Frame → Next → Type 0
LeadsTo ran k given after frames result = ForAnswers given (λ answers. ran answers ≡ after_turn k answers after (turn_of frames.items result))

-- The code takes one turn, after which the body makes at most `most` more requests. It opens one
-- frame if it requests a record, and none otherwise.
pub record TakesTurn {R : Type 0} (k : RecordRules R) (w after : World R) (most : ℕ) (before frames : Vec Frame) (result : Next) : Type 0 where
  pub turns : Turns k w after 0 most (turn_of frames.items result)
  pub opens : Opens before.items frames.items result
  pub room : vec_capacity frames ≡ vec_capacity before
