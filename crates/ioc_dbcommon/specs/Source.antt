-- The field that names the input of the input types. Record Reference Manual, "Input
-- Specification".
use Rattle.std.proofs.Common.{◌≡◌, ◌≢◌, true, Option, Some, None, refl, ◌⊎◌, inl, inr}
use Rattle.std.specs.Prelude.{is_some}
use Rattle.ioc_fields.specs.declared.field_no.OwnField.{OwnField}
use Rattle.ioc_fields.specs.declared.field_no.OwnField.TheVariants.{Inp}
use Rattle.ioc_dbcommon.specs.declared.source.Source.{Source}
use Rattle.ioc_dbcommon.specs.declared.link_field.LinkField.{LinkField}
use Rattle.ioc_dbcommon.specs.declared.link_field.LinkUse.{LinkUse}
use Rattle.ioc_dbcommon.specs.declared.link_field.LinkUse.TheVariants.{Unused, OwnDevice, Absent, Standing}
use Rattle.ioc_dbcommon.specs.declared.link_field.StandingLink.{StandingLink}
use Rattle.ioc_dbcommon.specs.declared.body.Want.{Want}
use Rattle.ioc_dbcommon.specs.declared.body.Want.TheVariants.{ReadLink, ReadDevice, ReadInputs}
use Rattle.ioc_dbcommon.specs.Links.{no_link, use_of}

unfoldable pub new_source : Source
new_source = record { input = no_link }

-- The link INP.
abbrev pub source_link : LinkField → OwnField → Option LinkField
source_link input Inp = Some input
source_link input _ = None

unfoldable pub source_with_link : Source → OwnField → LinkField → Source
source_with_link s Inp link = record s { input = link }
source_with_link s _ link = s

-- What is read first: the device if INP names the record's own, else INP itself.
abbrev pub begin_by : LinkUse → Want
begin_by OwnDevice = ReadDevice
begin_by link = ReadLink link

abbrev pub source_begin : LinkField → Want
source_begin input = begin_by (use_of input)

-- ---- Laws

pub source_set_here : (s : Source) (f : OwnField) (l : LinkField) → is_some (source_link s.input f) ≡ true → source_link (source_with_link s f l).input f ≡ Some l
unfolding source_with_link
source_set_here s Inp l is = refl
source_set_here s _ l is = cc

pub source_set_there : (s : Source) (f g : OwnField) (l : LinkField) → (source_link (source_with_link s f l).input g ≡ Some l)
    ⊎ (source_link (source_with_link s f l).input g ≡ source_link s.input g)
unfolding source_with_link
source_set_there s Inp Inp l = inl refl
source_set_there s Inp _ l = inr refl
source_set_there s _ g l = inr refl

pub source_set_others : (s : Source) (f g : OwnField) (l : LinkField) → g ≢ f → source_link (source_with_link s f l).input g ≡ source_link s.input g
unfolding source_with_link
source_set_others s Inp Inp l apart = absurd (apart refl)
source_set_others s Inp _ l apart = refl
source_set_others s _ g l apart = refl

pub source_set_twice : (s : Source) (f : OwnField) (l m : LinkField) → source_with_link (source_with_link s f l) f m ≡ source_with_link s f m
unfolding source_with_link
source_set_twice s Inp l m = refl
source_set_twice s _ l m = refl

begins_with : (in_use : LinkUse) (t : StandingLink) → begin_by in_use ≡ ReadLink (Standing t) → in_use ≡ Standing t
begins_with Unused t is = cc
begins_with OwnDevice t is = cc
begins_with Absent t is = cc
begins_with (Standing u) t is = cc

pub source_begin_leads : (input : LinkField) (t : StandingLink) → source_begin input ≡ ReadLink (Standing t) → use_of input ≡ Standing t
source_begin_leads input t is = begins_with (use_of input) t is

begins_alone : (in_use : LinkUse) (t : StandingLink) → begin_by in_use ≢ ReadInputs (Standing t)
begins_alone Unused t is = cc
begins_alone OwnDevice t is = cc
begins_alone Absent t is = cc
begins_alone (Standing u) t is = cc

-- A type with INP doesn't read several inputs.
pub source_begins_alone : (input : LinkField) (t : StandingLink) → source_begin input ≢ ReadInputs (Standing t)
source_begins_alone input t is = begins_alone (use_of input) t is
