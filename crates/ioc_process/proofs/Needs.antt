-- What a body needs first, its output, and the record that a link names, as the code determines
-- them.
use Rattle.std.proofs.Common.{◌≡◌, ℕ, true, false, Some, refl, ap, subst, ◌∙◌}
use Rattle.ioc_ledger.specs.Requests.{None}
use Rattle.ioc_dbcommon.specs.declared.link_field.LinkUse.{LinkUse}
use Rattle.ioc_dbcommon.specs.declared.link_field.LinkUse.TheVariants.{Unused, OwnDevice, Absent, Standing}
use Rattle.ioc_dbcommon.specs.declared.body.Want.{Want}
use Rattle.ioc_dbcommon.specs.declared.body.Want.TheVariants.{NoInput, ReadLink, ReadDevice, ReadInputs}
use Rattle.ioc_dbcommon.specs.declared.body.Need.TheVariants as need
use Rattle.ioc_dbcommon.specs.declared.body.Got.{Got}
use Rattle.ioc_dbcommon.specs.declared.body.Got.TheVariants as got
use Rattle.ioc_dbcommon.specs.declared.body.Output.TheVariants.{NoOutput}
use Rattle.ioc_dbcommon.specs.Links.{record_named}
use Rattle.ioc_dbcommon.specs.Wants.{need_of, link_wanted, puts_out, puts_none}
use Rattle.ioc_record.specs.RecordRules.{RecordRules}
use Rattle.ioc_record.specs.Laws.{IsLawful}
use Rattle.ioc_store.specs.World.{World, Has, at, put}
use Rattle.ioc_store.specs.Given.{Answers}
use Rattle.ioc_process.specs.Processing.{Ran, Reading, request, body, input, read_link, completed, finished, put_out, processed}
use Rattle.ioc_process.specs.Frames.{after_reading}
use Rattle.ioc_process.specs.Runs.{IsStanding}
use Rattle.ioc_process.proofs.FrameSteps.{body-input, after_reading-came, completed-taken, output-on, then_finished-none}

pub needs-link : (want : Want) → need_of want ≡ need.Link → want ≡ ReadLink (link_wanted want)
needs-link NoInput is = absurd cc
needs-link (ReadLink link) is = refl
needs-link ReadDevice is = absurd cc
needs-link (ReadInputs link) is = absurd cc

no_device : (link : LinkUse) → need_of (ReadLink link) ≡ need.Device → ReadLink link ≡ ReadDevice
no_device Unused is = absurd cc
no_device OwnDevice is = absurd cc
no_device Absent is = absurd cc
no_device (Standing t) is = absurd cc

pub needs-device : (want : Want) → need_of want ≡ need.Device → want ≡ ReadDevice
needs-device NoInput is = absurd cc
needs-device (ReadLink link) is = no_device link is
needs-device ReadDevice is = refl
needs-device (ReadInputs link) is = absurd cc

no_inputs : (link : LinkUse) → need_of (ReadLink link) ≡ need.Inputs → ReadLink link ≡ ReadInputs link
no_inputs Unused is = absurd cc
no_inputs OwnDevice is = absurd cc
no_inputs Absent is = absurd cc
no_inputs (Standing t) is = absurd cc

pub needs-inputs : (want : Want) → need_of want ≡ need.Inputs → want ≡ ReadInputs (link_wanted want)
needs-inputs NoInput is = absurd cc
needs-inputs (ReadLink link) is = no_inputs link is
needs-inputs ReadDevice is = absurd cc
needs-inputs (ReadInputs link) is = refl

-- The record that a standing link names exists.
pub named_there : {R : Type 0} (w : World R) (link : LinkUse) → IsStanding w link → (n : ℕ) → record_named link ≡ Some n → Has w n
named_there w (Standing t) stands n is = let e : t.number ≡ n = cc in subst (Has w) e (stands t refl)
named_there w Unused stands n is = absurd cc
named_there w OwnDevice stands n is = absurd cc
named_there w Absent stands n is = absurd cc

module _ {R : Type 0} (k : RecordRules R) (lawful : IsLawful k) where
  input-nothing : (answers : Answers) (w : World R) (s : ℕ) (want : Want) → need_of want ≡ need.Nothing →
      input k answers (request k answers) w s want ≡ record { world = w; requests = None; came = Some got.Nothing }
  unfolding input read_link
  input-nothing answers w s NoInput is = refl
  input-nothing answers w s (ReadLink Unused) is = refl
  input-nothing answers w s (ReadLink OwnDevice) is = absurd cc
  input-nothing answers w s (ReadLink Absent) is = absurd cc
  input-nothing answers w s (ReadLink (Standing t)) is = absurd cc
  input-nothing answers w s ReadDevice is = absurd cc
  input-nothing answers w s (ReadInputs link) is = absurd cc

  -- A body that needs no input continues with an empty one.
  pub body-nothing : (answers : Answers) (w : World R) (s : ℕ) → need_of (k.begin (at k w s)) ≡ need.Nothing →
      body k answers (request k answers) w s ≡ completed k answers (request k answers) w s got.Nothing
  body-nothing answers w s is =
      body-input k lawful answers w s (k.begin (at k w s)) refl
      ∙ ap (λ (reading : Reading R). after_reading k answers s reading) (input-nothing answers w s (k.begin (at k w s)) is)
      ∙ after_reading-came k lawful answers s (record { world = w; requests = None; came = Some got.Nothing }) got.Nothing refl refl

  -- A body without an output finishes immediately.
  pub completed-nothing : (answers : Answers) (w : World R) (s : ℕ) (came : Got) {left : Ran R} → puts_out (k.output (at k w s) came) ≡ false
      → processed (finished k (request k answers) (put w s (k.taken (at k w s) came)) s) ≡ left → processed (completed k answers (request k answers) w s came) ≡ left
  unfolding put_out
  completed-nothing answers w s came none left =
      let after = put w s (k.taken (at k w s) came) in
      completed-taken k lawful answers w s came NoOutput (puts_none _ none)
      (ap (λ d. processed d) (output-on k lawful answers s (record { world = after; requests = None; goes_on = true }) refl ∙ then_finished-none k lawful answers after s) ∙ left)
