-- A link field as a record stores it.
use Rattle.std.specs.Prelude.{Option, Some, None, Box}
use Rattle.ioc_dbcommon.specs.declared.link_field.LinkField.{LinkField}
use Rattle.ioc_dbcommon.specs.Links.{no_link}

-- The stored link field, or an empty one if none was ever set.
abbrev pub kept_link : {Z : Type 0} → Option (Box LinkField Z) → LinkField
kept_link None = no_link
kept_link (Some place) = place.value
