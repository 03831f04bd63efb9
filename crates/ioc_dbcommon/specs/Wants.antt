-- The input that a body needs first, derived from what it requests, and whether it has any output.
use Rattle.std.specs.Prelude.{◌≡◌, Bool, true, false, refl, if◌then◌else◌}
use Rattle.ioc_dbcommon.specs.declared.link_field.LinkUse.{LinkUse}
use Rattle.ioc_dbcommon.specs.declared.link_field.LinkUse.TheVariants.{Unused, OwnDevice, Absent, Standing}
use Rattle.ioc_dbcommon.specs.declared.body.Want.{Want}
use Rattle.ioc_dbcommon.specs.declared.body.Want.TheVariants.{NoInput, ReadLink, ReadDevice, ReadInputs}
use Rattle.ioc_dbcommon.specs.declared.body.Need.{Need}
use Rattle.ioc_dbcommon.specs.declared.body.Need.TheVariants.{Nothing, Link, Device, Inputs}
use Rattle.ioc_dbcommon.specs.declared.body.Output.{Output}
use Rattle.ioc_dbcommon.specs.declared.body.Output.TheVariants.{NoOutput, WriteLink, WriteDevice, FollowLinks, PostEvent}
use Rattle.ioc_dbcommon.specs.Source.{begin_by}

-- Whether the link is empty or a constant.
abbrev pub is_unused : LinkUse → Bool
is_unused Unused = true
is_unused OwnDevice = false
is_unused Absent = false
is_unused (Standing t) = false

abbrev pub is_own_device : LinkUse → Bool
is_own_device Unused = false
is_own_device OwnDevice = true
is_own_device Absent = false
is_own_device (Standing t) = false

-- The input that a body that reads the link needs: none if the link is unused.
abbrev pub need_of_link : LinkUse → Need
need_of_link link = if is_unused link then Nothing else Link

abbrev pub need_of : Want → Need
need_of NoInput = Nothing
need_of (ReadLink link) = need_of_link link
need_of ReadDevice = Device
need_of (ReadInputs link) = Inputs

-- The link that a body reads first, if it reads one.
abbrev pub link_wanted : Want → LinkUse
link_wanted (ReadLink link) = link
link_wanted NoInput = Unused
link_wanted ReadDevice = Unused
link_wanted (ReadInputs link) = link

-- Whether there is any output.
abbrev pub puts_out : Output → Bool
puts_out NoOutput = false
puts_out (WriteLink link v) = true
puts_out (WriteDevice v) = true
puts_out (FollowLinks links) = true
puts_out (PostEvent name) = true

-- ---- Laws

-- A body with INP needs its device if the link leads there, nothing if the link is unused, and else
-- the link.
pub source_need : (link : LinkUse) → need_of (begin_by link) ≡ (if is_unused link then Nothing else (if is_own_device link then Device else Link))
source_need Unused = refl
source_need OwnDevice = refl
source_need Absent = refl
source_need (Standing t) = refl

-- The link that a body with INP reads, if it doesn't read its device.
abbrev pub source_link_by : LinkUse → LinkUse
source_link_by OwnDevice = Unused
source_link_by Unused = Unused
source_link_by Absent = Absent
source_link_by (Standing t) = Standing t

pub source_wanted : (link : LinkUse) → link_wanted (begin_by link) ≡ source_link_by link
source_wanted Unused = refl
source_wanted OwnDevice = refl
source_wanted Absent = refl
source_wanted (Standing t) = refl

pub puts_none : (output : Output) → puts_out output ≡ false → output ≡ NoOutput
puts_none NoOutput is = refl
puts_none (WriteLink link v) is = absurd cc
puts_none (WriteDevice v) is = absurd cc
puts_none (FollowLinks links) is = absurd cc
puts_none (PostEvent name) is = absurd cc
