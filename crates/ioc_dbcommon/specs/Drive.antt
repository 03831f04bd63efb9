-- The fields that control the output of the output types. Record Reference Manual, "Output
-- Specification" and "Invalid Output Action".
use Rattle.std.proofs.Common.{◌≡◌, ◌≢◌, ℕ, Bool, true, false, Option, Some, None, refl, ap, ◌⊎◌, inl, inr}
use Rattle.std.specs.Prelude.{◌<◌, unwrap_or, is_some}
use Rattle.ioc_values.specs.declared.value.Value.{Value}
use Rattle.ioc_values.specs.declared.value.Value.TheVariants as value
use Rattle.ioc_menus.specs.declared.severity.Severity.{Severity}
use Rattle.ioc_menus.specs.declared.severity.Severity.TheVariants.{Invalid}
use Rattle.ioc_menus.specs.declared.omsl.Omsl.{Omsl}
use Rattle.ioc_menus.specs.declared.omsl.Omsl.TheVariants.{Supervisory, ClosedLoop}
use Rattle.ioc_menus.specs.declared.ivoa.Ivoa.{Ivoa}
use Rattle.ioc_menus.specs.declared.ivoa.Ivoa.TheVariants.{ContinueNormally, DontDriveOutputs, SetOutputToIvov}
use Rattle.ioc_menus.specs.Numbers.{omsl_number, ivoa_number}
use Rattle.ioc_fields.specs.declared.field_no.OwnField.{OwnField}
use Rattle.ioc_fields.specs.declared.field_no.OwnField.TheVariants.{Out, Dol, Omsl as Omsl-field, Ivoa as Ivoa-field}
use Rattle.ioc_dbcommon.specs.declared.condition.Condition.{Condition}
use Rattle.ioc_dbcommon.specs.declared.drive.Drive.{Drive}
use Rattle.ioc_dbcommon.specs.declared.link_field.LinkField.{LinkField}
use Rattle.ioc_dbcommon.specs.declared.link_field.LinkUse.{LinkUse}
use Rattle.ioc_dbcommon.specs.declared.link_field.LinkUse.TheVariants.{Unused, OwnDevice, Absent, Standing}
use Rattle.ioc_dbcommon.specs.declared.link_field.StandingLink.{StandingLink}
use Rattle.ioc_dbcommon.specs.declared.body.Want.{Want}
use Rattle.ioc_dbcommon.specs.declared.body.Want.TheVariants.{NoInput, ReadLink, ReadInputs}
use Rattle.ioc_dbcommon.specs.declared.body.Output.{Output}
use Rattle.ioc_dbcommon.specs.declared.body.Output.TheVariants.{NoOutput, WriteLink, WriteDevice}
use Rattle.ioc_dbcommon.specs.Links.{no_link, use_of}
use Rattle.ioc_dbcommon.specs.Parts.{omsl_in, ivoa_in, omsl_back, ivoa_back}

unfoldable pub new_drive : Drive
new_drive = record { output = no_link; desired = no_link; mode = Supervisory; on_invalid = ContinueNormally }

-- The links OUT and DOL.
abbrev pub drive_link : LinkField → LinkField → OwnField → Option LinkField
drive_link out dol Out = Some out
drive_link out dol Dol = Some dol
drive_link out dol _ = None

unfoldable pub drive_with_link : Drive → OwnField → LinkField → Drive
drive_with_link d Out link = record d { output = link }
drive_with_link d Dol link = record d { desired = link }
drive_with_link d _ link = d

unfoldable pub drive_get : Drive → OwnField → Option Value
drive_get d Omsl-field = Some (value.Enum (omsl_number d.mode))
drive_get d Ivoa-field = Some (value.Enum (ivoa_number d.on_invalid))
drive_get d _ = None

unfoldable pub drive_stored : Drive → OwnField → Value → Drive
drive_stored d Omsl-field v = record d { mode = unwrap_or (omsl_in v) d.mode }
drive_stored d Ivoa-field v = record d { on_invalid = unwrap_or (ivoa_in v) d.on_invalid }
drive_stored d _ v = d

-- What is read first: DOL in a closed loop.
unfoldable pub drive_begin : Omsl → LinkField → Want
drive_begin ClosedLoop dol = ReadLink (use_of dol)
drive_begin Supervisory dol = NoInput

-- Whether the output is set to IVOV: with an INVALID alarm raised, IVOA decides this and whether
-- the output is driven.
abbrev pub sets_by : Severity → Ivoa → Bool
sets_by Invalid SetOutputToIvov = true
sets_by _ _ = false

unfoldable pub sets : Ivoa → Condition → Bool
sets action c = sets_by c.alarms.new_severity action

abbrev pub drives_by : Severity → Ivoa → Bool
drives_by Invalid DontDriveOutputs = false
drives_by _ _ = true

unfoldable pub drives : Ivoa → Condition → Bool
drives action c = drives_by c.alarms.new_severity action

-- The output of a value by the use of OUT.
abbrev pub written_by : LinkUse → Value → Output
written_by Unused v = NoOutput
written_by OwnDevice v = WriteDevice v
written_by Absent v = WriteLink Absent v
written_by (Standing t) v = WriteLink (Standing t) v

unfoldable pub written : LinkField → Value → Output
written out v = written_by (use_of out) v

-- ---- Laws

pub drive_stored-output : (d : Drive) (f : OwnField) (v : Value) → (drive_stored d f v).output ≡ d.output
unfolding drive_stored
drive_stored-output d Omsl-field v = refl
drive_stored-output d _ v = refl

pub drive_stored-desired : (d : Drive) (f : OwnField) (v : Value) → (drive_stored d f v).desired ≡ d.desired
unfolding drive_stored
drive_stored-desired d Omsl-field v = refl
drive_stored-desired d _ v = refl

pub omsl_reads_back : (d : Drive) (v : Value) → (n : ℕ) × (v ≡ value.Enum n) × (n < 2) → drive_get (drive_stored d Omsl-field v) Omsl-field ≡ Some v
unfolding drive_get drive_stored
omsl_reads_back d v is = rw is.1 (ap (λ n. Some (value.Enum n)) (omsl_back is.0 d.mode is.2))

pub ivoa_reads_back : (d : Drive) (v : Value) → (n : ℕ) × (v ≡ value.Enum n) × (n < 3) → drive_get (drive_stored d Ivoa-field v) Ivoa-field ≡ Some v
unfolding drive_get drive_stored
ivoa_reads_back d v is = rw is.1 (ap (λ n. Some (value.Enum n)) (ivoa_back is.0 d.on_invalid is.2))

pub begin_leads : (mode : Omsl) (dol : LinkField) (t : StandingLink) → drive_begin mode dol ≡ ReadLink (Standing t) → use_of dol ≡ Standing t
unfolding drive_begin
begin_leads ClosedLoop dol t is = cc
begin_leads Supervisory dol t is = cc

-- A type with DOL doesn't read several inputs.
pub begins_alone : (mode : Omsl) (dol : LinkField) (t : StandingLink) → drive_begin mode dol ≢ ReadInputs (Standing t)
unfolding drive_begin
begins_alone ClosedLoop dol t is = cc
begins_alone Supervisory dol t is = cc

write_leads : (to : LinkUse) (x v : Value) (t : StandingLink) → written_by to x ≡ WriteLink (Standing t) v → to ≡ Standing t
write_leads Unused x v t is = cc
write_leads OwnDevice x v t is = cc
write_leads Absent x v t is = cc
write_leads (Standing u) x v t is = cc

pub written_leads : (out : LinkField) (x v : Value) (t : StandingLink) → written out x ≡ WriteLink (Standing t) v → use_of out ≡ Standing t
unfolding written
written_leads out x v t is = write_leads (use_of out) x v t is

pub drive_set_here : (d : Drive) (f : OwnField) (l : LinkField) → is_some (drive_link d.output d.desired f) ≡ true → drive_link (drive_with_link d f l).output (drive_with_link d f l).desired f ≡ Some l
unfolding drive_with_link
drive_set_here d Out l is = refl
drive_set_here d Dol l is = refl
drive_set_here d _ l is = cc

pub drive_set_there : (d : Drive) (f g : OwnField) (l : LinkField) → (drive_link (drive_with_link d f l).output (drive_with_link d f l).desired g ≡ Some l)
    ⊎ (drive_link (drive_with_link d f l).output (drive_with_link d f l).desired g ≡ drive_link d.output d.desired g)
unfolding drive_with_link
drive_set_there d Out Out l = inl refl
drive_set_there d Out Dol l = inr refl
drive_set_there d Out _ l = inr refl
drive_set_there d Dol Dol l = inl refl
drive_set_there d Dol Out l = inr refl
drive_set_there d Dol _ l = inr refl
drive_set_there d _ g l = inr refl

pub drive_set_others : (d : Drive) (f g : OwnField) (l : LinkField) → g ≢ f
    → drive_link (drive_with_link d f l).output (drive_with_link d f l).desired g ≡ drive_link d.output d.desired g
unfolding drive_with_link
drive_set_others d Out Out l apart = absurd (apart refl)
drive_set_others d Out Dol l apart = refl
drive_set_others d Out _ l apart = refl
drive_set_others d Dol Dol l apart = absurd (apart refl)
drive_set_others d Dol Out l apart = refl
drive_set_others d Dol _ l apart = refl
drive_set_others d _ g l apart = refl

pub drive_set_twice : (d : Drive) (f : OwnField) (l m : LinkField) → drive_with_link (drive_with_link d f l) f m ≡ drive_with_link d f m
unfolding drive_with_link
drive_set_twice d Out l m = refl
drive_set_twice d Dol l m = refl
drive_set_twice d _ l m = refl

pub drive_set_values : (d : Drive) (f : OwnField) (l : LinkField) (g : OwnField) → drive_get (drive_with_link d f l) g ≡ drive_get d g
unfolding drive_get drive_with_link
drive_set_values d Out l Omsl-field = refl
drive_set_values d Out l Ivoa-field = refl
drive_set_values d Out l _ = refl
drive_set_values d Dol l Omsl-field = refl
drive_set_values d Dol l Ivoa-field = refl
drive_set_values d Dol l _ = refl
drive_set_values d _ l g = refl
