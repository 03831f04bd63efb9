-- The effect of a request on the records of some numbers, whatever other records exist and whatever
-- puts with notification those are part of.
--
-- Application Developer's Guide, "Database Locking, Scanning, and Processing": records of other
-- lock sets play no part.
use Rattle.std.specs.Prelude.{◌≡◌, ℕ, Bool, true, false, Contains}
use Rattle.std.specs.FinMap.{contains_key}
use Rattle.ioc_record.specs.RecordRules.{RecordRules, targets}
use Rattle.ioc_store.specs.World.{World, at}
use Rattle.ioc_process.specs.Processing.{Done, request}
use Rattle.ioc_notify.specs.Waits.{at_record}
use Rattle.ioc_store.specs.Given.{Answers}

-- `mine` holds of the numbers of these records; `U` are the records with these numbers.
module _ {R : Type 0} (k : RecordRules R) (mine : ℕ → Bool) where
  -- Every link of a record in `U` names a record in `U`.
  pub record Shut (w : World R) : Type 0 where
    pub shut : (n target : ℕ) → mine n ≡ true → Contains (targets k (at k w n)) target → mine target ≡ true

  -- The time stamp, the calls, and what was sent and dropped are equal, and so are the records in
  -- `U` and the waiting list of each. The puts with notification that are live or have ended may
  -- differ, and so may the order of two that wait for different records.
  pub record Same (w v : World R) : Type 0 where
    pub moment : w.moment ≡ v.moment
    pub calls : w.calls ≡ v.calls
    pub outbox : w.outbox ≡ v.outbox
    pub dropped : w.dropped ≡ v.dropped
    pub waiting : (n : ℕ) → mine n ≡ true → at_record n w.waiting ≡ at_record n v.waiting
    pub records : (n : ℕ) → mine n ≡ true → at k w n ≡ at k v n

  -- Outside `U`, every record and every waiting list is unchanged, and no record is added or
  -- removed.
  pub record Spares (before after : World R) : Type 0 where
    pub spared : (n : ℕ) → mine n ≡ false → at k after n ≡ at k before n
    pub there : (n : ℕ) → mine n ≡ false → contains_key after.records n ≡ contains_key before.records n
    pub waiting : (n : ℕ) → mine n ≡ false → at_record n after.waiting ≡ at_record n before.waiting

  -- The two have equal results in `U`, make the same requests, and change nothing outside `U` and
  -- no waiting list; every link of a record in `U` still names a record in `U`.
  pub record Agree (w v : World R) (done other : Done R) : Type 0 where
    pub same : Same done.world other.world
    pub requests : done.requests ≡ other.requests
    pub shut : Shut done.world
    pub spares : Spares w done.world
    pub other_spares : Spares v other.world
    pub waiting : done.world.waiting ≡ w.waiting
    pub other_waiting : other.world.waiting ≡ v.waiting

module _ {R : Type 0} (k : RecordRules R) (mine : ℕ → Bool) (answers : Answers) where
  -- A request of a record in `U` depends only on `U` and changes only `U`.
  abbrev pub RequestIsLocal : Type 0
  RequestIsLocal =
      (w v : World R) (s : ℕ) → Shut k mine w → Same k mine w v → mine s ≡ true
      → Agree k mine w v (request k answers w s) (request k answers v s)
