-- The points at which bodies wait for the requests that they make. How requests are made is this
-- project's own design.
use Rattle.std.specs.Prelude.{ℕ}
use Rattle.ioc_store.specs.declared.frames.ResumePoint.{ResumePoint}
use Rattle.ioc_store.specs.declared.frames.ResumePoint.TheVariants.{ReadingDisable, Reading as Reading-place, Choosing, ReadingEach, Writing, FollowingEach, Following}

-- The record that is requested while a body waits at this point.
abbrev pub requested_at : ResumePoint → ℕ
requested_at (ReadingDisable t) = t.number
requested_at (Reading-place t) = t.number
requested_at (Choosing t) = t.number
requested_at (ReadingEach left t) = t.number
requested_at (Writing target) = target
requested_at (FollowingEach links target next) = target
requested_at (Following target) = target
