-- What follows a write, given its result.
use Rattle.std.proofs.Common.{◌≡◌, ℕ, Bool, true, false, cond, refl}
use Rattle.ioc_ledger.specs.Requests.{None}
use Rattle.ioc_dbcommon.specs.declared.link_field.StandingLink.{StandingLink}
use Rattle.ioc_record.specs.RecordRules.{RecordRules}
use Rattle.ioc_process.specs.declared.outputs.Written.{Written as Written-result}
use Rattle.ioc_process.specs.declared.outputs.Written.TheVariants.{InVain, Alone, AndRequests}
use Rattle.ioc_store.specs.World.{World}
use Rattle.ioc_store.specs.Links.{requests_after}
use Rattle.ioc_process.specs.Processing.{Done, Written, caused, faulted, after_writing}
use Rattle.ioc_process.specs.Runs.{how_written}

module _ {R : Type 0} (k : RecordRules R) (ask : World R → ℕ → Done R) (done : Written R) (s : ℕ) (t : StandingLink) where
  -- The result of a write, given whether the value was stored and whether the record is requested.
  abbrev result_by : Bool → Bool → Written-result
  result_by stored requests = cond stored (cond requests AndRequests Alone) InVain

  abbrev left_by : Bool → Bool → Done R
  left_by stored requests = cond {A = Done R} stored
      (cond {A = Done R} requests (caused k ask done.world s t.number) (record { world = done.world; requests = None }))
      (record { world = faulted k done.world s; requests = None })

  vain_by : (stored requests : Bool) → result_by stored requests ≡ InVain → left_by stored requests ≡ record { world = faulted k done.world s; requests = None }
  vain_by true true is = absurd cc
  vain_by true false is = absurd cc
  vain_by false requests is = refl

  alone_by : (stored requests : Bool) → result_by stored requests ≡ Alone → left_by stored requests ≡ record { world = done.world; requests = None }
  alone_by true true is = absurd cc
  alone_by true false is = refl
  alone_by false requests is = absurd cc

  requests_by : (stored requests : Bool) → result_by stored requests ≡ AndRequests → left_by stored requests ≡ caused k ask done.world s t.number
  requests_by true true is = refl
  requests_by true false is = absurd cc
  requests_by false requests is = absurd cc

  pub written-vain : how_written k done t ≡ InVain → after_writing k ask done s t ≡ record { world = faulted k done.world s; requests = None }
  unfolding how_written after_writing
  written-vain is = vain_by done.stored (requests_after k done.world t) is

  pub written-alone : how_written k done t ≡ Alone → after_writing k ask done s t ≡ record { world = done.world; requests = None }
  unfolding how_written after_writing
  written-alone is = alone_by done.stored (requests_after k done.world t) is

  pub written-requests : how_written k done t ≡ AndRequests → after_writing k ask done s t ≡ caused k ask done.world s t.number
  unfolding how_written after_writing
  written-requests is = requests_by done.stored (requests_after k done.world t) is
