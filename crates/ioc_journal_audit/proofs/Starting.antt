-- The auditor's database at the start, at the beginning of an event, and after a call.
use Rattle.std.proofs.Common.{◌≡◌, ◌≤◌, ℕ, List, [], refl, sym, ap, subst, ◌∙◌, arith}
use Rattle.std.specs.Prelude.{Result, Ok, Err, IfOk, OnErr, vec_capacity}
use Rattle.std.specs.FinMap.{len}
use Rattle.std.specs.Global.{Vec}
use Rattle.ioc_device.specs.declared.Answer.{Answer}
use Rattle.rec_types.specs.Record.{Record, record_rules}
use Rattle.ioc_record.specs.RecordRules.{RecordRules}
use Rattle.ioc_dbfile.specs.FirstWorld.{first_world}
use Rattle.ioc_events.specs.declared.event.Call.{Call}
use Rattle.ioc_events.specs.Calls.{Called, called}
use Rattle.ioc_process.specs.Rules.{IsSettled}
use Rattle.ioc_process.specs.Quieting.{settled_by}
use Rattle.ioc_store.specs.Given.{Answers, listed}
use Rattle.ioc_store.specs.OneMap.{numbered}
use Rattle.ioc_store.specs.World.{World, begun, begun_at}
use Rattle.ioc_store.specs.declared.frames.Frame.{Frame}
use Rattle.ioc_journal_audit.specs.declared.played_map.PlayedMap.{PlayedMap}
use Rattle.ioc_journal_audit.specs.declared.redo.Redone.{Redone}
use Rattle.ioc_journal_audit.specs.PlayedMap.{world_of}
use Rattle.ioc_journal_audit.specs.Redoing.{Redoes, called_on}

-- Records before any event.
pub first_is : {R : Type 0} (w : World R) (records : List R) → w.records ≡ numbered records → w.live ≡ [] → w.waiting ≡ [] → w ≡ begun_at 0 w → w ≡ first_world records
unfolding begun begun_at first_world
first_is w records is none nobody fresh =
    fresh ∙ (λ i. record { records = is i; moment = 0; calls = []; outbox = []; dropped = 0; live = none i; ended = []; waiting = nobody i })

same_records : {R : Type 0} (moment : ℕ) (w v : World R) → v ≡ begun_at moment w → w.records ≡ v.records
unfolding begun begun_at
same_records moment w v e = sym (ap (λ x. x.records) e)

pub settled_begun : (moment : ℕ) (w v : World Record) → v ≡ begun_at moment w → IsSettled record_rules w → IsSettled record_rules v
settled_begun moment w v e settled = settled_by record_rules w v (same_records moment w v e) settled

pub room_begun : (moment : ℕ) (w v : World Record) (room : ℕ) → v ≡ begun_at moment w → len w.records ≤ room → len v.records ≤ room
room_begun moment w v room e few = rw (← same_records moment w v e) few

-- What an auditor keeps.
pub record IsSound (w : World Record) (frames : Vec Frame) : Type 0 where
  pub settled : IsSettled record_rules w
  pub empty : frames.items ≡ []
  pub room : len w.records ≤ vec_capacity frames

-- Each call leaves a database settled, and keeps the number of its records.
abbrev pub LeavesSettled : Type 0
LeavesSettled = (answers : Answers) (w : World Record) (c : Call) → IsSettled record_rules w → IsSettled record_rules (called record_rules answers w c).world

abbrev pub KeepsCount : Type 0
KeepsCount = (answers : Answers) (w : World Record) (c : Call) → IsSettled record_rules w → len (called record_rules answers w c).world.records ≡ len w.records

module _ {E : Type 0} (before after : PlayedMap Record) (frames frames_then : Vec Frame) (c : Call) where
  pub sound_after : (r : Result Redone E) → LeavesSettled → KeepsCount → IfOk r (λ redone. Redoes record_rules before after frames frames_then c redone)
      → OnErr r (world_of after ≡ world_of before) → OnErr r (frames_then ≡ frames) → IsSound (world_of before) frames → IsSound (world_of after) frames_then
  sound_after (Ok redone) leaves keeps redoes same frames_same sound = record {
    settled = subst (λ (w : World Record). IsSettled record_rules w) (sym redoes.world) (leaves (listed before.playing) (world_of before) c sound.settled);
    empty = redoes.empty;
    room =
        let count : len (world_of after).records ≡ len (world_of before).records = ap (λ (w : World Record). len w.records) redoes.world ∙ keeps (listed before.playing) (world_of before) c sound.settled in
        omega (arith, count, redoes.room, sound.room);
  }
  sound_after (Err e) leaves keeps redoes same frames_same sound = record {
    settled = subst (λ (w : World Record). IsSettled record_rules w) (sym same) sound.settled;
    empty = ap (λ (v : Vec Frame). v.items) frames_same ∙ sound.empty;
    room =
        let count : len (world_of after).records ≡ len (world_of before).records = ap (λ (w : World Record). len w.records) same in
        let room : vec_capacity frames_then ≡ vec_capacity frames = ap vec_capacity frames_same in
        omega (arith, count, room, sound.room);
  }

-- A call that is made again as an event with these answers begins.
pub called_begun : (s : PlayedMap Record) (moment : ℕ) (w : World Record) (answers : List Answer) (c : Call) → world_of s ≡ begun_at moment w → s.playing ≡ answers
    → called_on record_rules s c ≡ called record_rules (listed answers) (begun_at moment w) c
called_begun s moment w answers c begins playing = λ i. called record_rules (listed (playing i)) (begins i) c
