-- The cases of a request and of a body, in the order of the code.
use Rattle.std.proofs.Common.{◌≡◌, ℕ, true, false, refl, ap, ◌∙◌}
use Rattle.ioc_ledger.specs.declared.tally.Tally.{Tally}
use Rattle.ioc_dbcommon.specs.declared.body.Got.{Got}
use Rattle.ioc_dbcommon.specs.declared.body.Want.TheVariants.{ReadLink, ReadInputs}
use Rattle.ioc_fields.specs.declared.field_no.FieldNo.TheVariants.{Own}
use Rattle.ioc_fields.specs.declared.field_no.OwnField.TheVariants.{Lnk}
use Rattle.ioc_fields.specs.declared.field_no.FieldSlot.{FieldSlot}
use Rattle.ioc_values.specs.declared.value.Value.{Value}
use Rattle.ioc_values.specs.declared.value.Finished.{Finished}
use Rattle.ioc_dbcommon.specs.declared.body.Output.TheVariants.{WriteLink}
use Rattle.ioc_dbcommon.specs.declared.link_field.StandingLink.{StandingLink}
use Rattle.ioc_dbcommon.specs.declared.link_field.LinkUse.TheVariants.{Standing}
use Rattle.ioc_dbcommon.specs.declared.link_field.LinkUse.{LinkUse}
use Rattle.ioc_dbcommon.specs.Links.{use_of}
use Rattle.ioc_record.specs.RecordRules.{RecordRules}
use Rattle.ioc_record.specs.Laws.{IsLawful}
use Rattle.ioc_store.specs.World.{World, Has, at, common_at, IsClosed}
use Rattle.ioc_ledger.specs.Requests.{Requests, None, Request, followed_by, counted, counted_one}
use Rattle.ioc_process.specs.Processing.{request, ran, requested, turned_away, begun_idle}
use Rattle.ioc_store.specs.Links.{link_at}
use Rattle.ioc_process.specs.Runs.{IsStanding}
use Rattle.ioc_store.specs.Named.{link_named}
use Rattle.ioc_store.specs.Given.{Answers}

pub counted-followed_by : (t : Tally) (some others : Requests) → counted t (followed_by some others) ≡ counted (counted t some) others
counted-followed_by t None others = refl
counted-followed_by t (Request outcome caused later) others = counted-followed_by (counted_one (counted t caused) outcome) later others

module _ {R : Type 0} (k : RecordRules R) (lawful : IsLawful k) where
  pub ran-turned_away : (answers : Answers) (w : World R) (s : ℕ) → (common_at k w s).active ≡ true → ran k answers w s ≡ turned_away k answers (request k answers) w s
  unfolding ran requested
  ran-turned_away answers w s active = rw active refl

  pub ran-idle : (answers : Answers) (w : World R) (s : ℕ) → (common_at k w s).active ≡ false → ran k answers w s ≡ begun_idle k answers (request k answers) w s
  unfolding ran requested
  ran-idle answers w s active = rw active refl

  pub disable_stands : (w : World R) (s : ℕ) → IsClosed k w → IsStanding w (use_of (common_at k w s).disable_link)
  disable_stands w s is = λ t e. is.closed s t.number (lawful.disable_named (at k w s) t e)

  pub last_output_stands : (w : World R) (s : ℕ) (x : Finished) → IsClosed k w → (t : StandingLink) (v : Value) → k.last_output (at k w s) x ≡ WriteLink (Standing t) v → Has w t.number
  last_output_stands w s x is t v writes = is.closed s t.number (lawful.last_output_named (at k w s) x t v writes)

  pub forward_stands : (w : World R) (s : ℕ) → IsClosed k w → IsStanding w (use_of (common_at k w s).forward_link)
  forward_stands w s is = λ t e. is.closed s t.number (lawful.forward_named (at k w s) t e)

  pub input_stands : (w : World R) (s : ℕ) (link : LinkUse) → IsClosed k w → k.begin (at k w s) ≡ ReadLink link → IsStanding w link
  input_stands w s link is reads = λ t e. is.closed s t.number (lawful.begin_named (at k w s) t (reads ∙ ap ReadLink e))

  pub choice_stands : (w : World R) (s : ℕ) (link : LinkUse) → IsClosed k w → k.begin (at k w s) ≡ ReadInputs link → IsStanding w link
  choice_stands w s link is reads = λ t e. is.closed s t.number (lawful.choice_named (at k w s) t (reads ∙ ap ReadInputs e))

  pub output_stands : (w : World R) (s : ℕ) (got : Got) → IsClosed k w → (t : StandingLink) (v : Value) → k.output (at k w s) got ≡ WriteLink (Standing t) v → Has w t.number
  output_stands w s got is t v writes = is.closed s t.number (lawful.output_named (at k w s) got t v writes)

  pub slot_stands : (w : World R) (s : ℕ) (slot : FieldSlot) → IsClosed k w → IsStanding w (link_at k w s slot)
  slot_stands w s slot is = λ t e. is.closed s t.number (link_named k lawful (at k w s) (Own (Lnk slot)) t e)
