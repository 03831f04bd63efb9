-- Between events no link leaves the database, and it is quiet.
use Rattle.std.proofs.Common.{◌≡◌, ℕ, ◌≤◌, List, [], subst, sym, ap, refl, ◌∙◌}
use Rattle.ioc_notify.specs.declared.live_numbers.Live.{Live}
use Rattle.ioc_notify.specs.declared.waiting_lists.Waiting.{Waiting}
use Rattle.std.specs.Global.{Vec}
use Rattle.std.specs.Prelude.{Contains, Result, Ok, IfOk}
use Rattle.std.specs.FinMap.{len}
use Rattle.ioc_record.specs.RecordRules.{RecordRules, targets}
use Rattle.ioc_store.specs.OneMap.{numbered, world_of, given_of}
use Rattle.ioc_dbfile.specs.FirstWorld.{first_world}
use Rattle.ioc_store.specs.declared.one_map.OneMap.{OneMap}
use Rattle.ioc_store.specs.World.{World, IsClosed, Has, at, begun, begun_at}
use Rattle.ioc_process.specs.Rules.{IsQuiet, IsSettled}

at_begun : {R : Type 0} (k : RecordRules R) (w : World R) (n : ℕ) → at k (begun w) n ≡ at k w n
unfolding at begun
at_begun k w n = refl

has_begun : {R : Type 0} (w : World R) (n : ℕ) → Has w n → Has (begun w) n
unfolding begun
has_begun w n has = has

closed_begun : {R : Type 0} (k : RecordRules R) (w : World R) → IsClosed k w → IsClosed k (begun w)
closed_begun {R} k w is = record {
  closed = λ n target named. has_begun w target (is.closed n target (subst (λ (r : R). Contains (targets k r) target) (at_begun k w n) named));
}

quiet_begun : {R : Type 0} (k : RecordRules R) (w : World R) → IsQuiet k w → IsQuiet k (begun w)
unfolding at begun
quiet_begun k w is = record { quiet = λ n has. is.quiet n has }

-- The world is settled at the beginning of an event if it was so before.
pub settled_same : {R : Type 0} (k : RecordRules R) (w v : World R) → v ≡ begun w → IsSettled k w → IsSettled k v
settled_same {R} k w v e is =
    subst (λ (x : World R). IsSettled k x) (sym e) (record { closed = closed_begun k w is.closed; quiet = quiet_begun k w is.quiet })

-- The same with any time stamp.
pub settled_at : {R : Type 0} (k : RecordRules R) (moment : ℕ) (w v : World R) → v ≡ begun_at moment w → IsSettled k w → IsSettled k v
unfolding at begun begun_at
settled_at {R} k moment w v e is =
    subst (λ (x : World R). IsSettled k x) (sym e) (record {
      closed = record { closed = λ n target named. is.closed.closed n target named };
      quiet = record { quiet = λ n has. is.quiet.quiet n has };
    })

pub room_at : {R : Type 0} (moment : ℕ) (w v : World R) (room : ℕ) → v ≡ begun_at moment w → len w.records ≤ room → len v.records ≤ room
unfolding begun begun_at
room_at moment w v room e few = rw e few

-- The number of records is unchanged at the beginning of an event.
pub room_same : {R : Type 0} (w v : World R) (room : ℕ) → v ≡ begun w → len w.records ≤ room → len v.records ≤ room
unfolding begun
room_same w v room e few = rw e few

pub begun-none : {R : Type 0} (w v : World R) → v ≡ begun w → v.calls ≡ []
unfolding begun
begun-none w v e = ap (λ (x : World _). x.calls) e

-- No device was called at the beginning of an event.
pub none_yet : {R D : Type 0} (map : OneMap R D) (w : World R) → world_of map ≡ begun w → (given_of map).calls ≡ []
none_yet map w e = begun-none w (world_of map) e

-- A map of records before its first event.
pub first_is : {R D : Type 0} (map : OneMap R D) (records : Vec R) → map.records ≡ records → (world_of map).live ≡ [] → (world_of map).waiting ≡ [] → world_of map ≡ begun_at 0 (world_of map) → world_of map ≡ first_world records.items
unfolding begun begun_at first_world
first_is {R} map records is none nobody fresh =
    fresh ∙ ap (λ (l : List Live). record { records = numbered map.records.items; moment = 0; calls = []; outbox = []; dropped = 0; live = l; ended = []; waiting = (world_of map).waiting }) none
    ∙ ap (λ (l : List Waiting). record { records = numbered map.records.items; moment = 0; calls = []; outbox = []; dropped = 0; live = []; ended = []; waiting = l }) nobody
    ∙ ap (λ (v : Vec R). record { records = numbered v.items; moment = 0; calls = []; outbox = []; dropped = 0; live = []; ended = []; waiting = [] }) is

-- What is true of a successful result is true of its value.
pub was_ok : {T E : Type 0} (r : Result T E) (x : T) (P : T → Type 0) → r ≡ Ok x → IfOk r P → P x
was_ok {E = E} r x P is p = subst (λ (s : Result _ E). IfOk s P) is p
