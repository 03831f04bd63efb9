-- Whether a binary type reads or writes RVAL or VAL, and the input that each receives. Record
-- Reference Manual, "Device Support for Soft Records".
use Rattle.std.specs.Prelude.{ℕ, ℤ, Bool, true, false, ◌||◌, codes, Option, Some, None, unwrap_or}
use Rattle.std.specs.Option.{option_and_then}
use Rattle.std.specs.Str.{bytes_eq}
use Rattle.ioc_values.specs.declared.kind.Range.TheVariants as range
use Rattle.ioc_values.specs.Conversion.{Numbers, of_number}
use Rattle.ioc_links.specs.declared.link.Link.{Link}
use Rattle.ioc_links.specs.declared.link.Link.TheVariants.{Device}
use Rattle.ioc_dbcommon.specs.declared.condition.Condition.{Condition}
use Rattle.ioc_dbcommon.specs.declared.body.Got.{Got}
use Rattle.ioc_dbcommon.specs.declared.body.Got.TheVariants as got
use Rattle.ioc_dbcommon.specs.Parts.{ulong_in, ushort_in}

abbrev pub is_device : Link → Bool
is_device (Device text) = true
is_device _ = false

-- Whether DTYP says that the raw value is used.
abbrev pub is_raw_soft : Condition → Bool
is_raw_soft c = bytes_eq c.device_type (codes "Raw Soft Channel")

-- Whether the raw value is used: the link names a device, or DTYP says so.
unfoldable pub is_raw : Link → Condition → Bool
is_raw link c = is_device link || is_raw_soft c

-- The new RVAL for an input: the old RVAL if there was no input, and none after a fault.
abbrev pub raw_came : Got → ℕ → Option ℕ
raw_came (got.Value v) raw = Some (unwrap_or (ulong_in v) raw)
raw_came got.Nothing raw = Some raw
raw_came got.Fault raw = None

-- The new VAL for an input: none if there was no input, or after a fault.
abbrev pub state_came : Got → ℕ → Option ℕ
state_came (got.Value v) state = Some (unwrap_or (ushort_in v) state)
state_came _ state = None

-- A constant as RVAL.
abbrev pub raw_constant : ℤ → Option ℕ
raw_constant z = option_and_then ulong_in (of_number (Numbers range.ULong) z)

abbrev pub state_constant : ℤ → Option ℕ
state_constant z = option_and_then ushort_in (of_number (Numbers range.UShort) z)
