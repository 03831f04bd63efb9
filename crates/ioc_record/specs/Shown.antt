-- Values that are shown as numbers.
use Rattle.std.specs.Prelude.{ℤ, pos, Option, Some, None}
use Rattle.ioc_values.specs.declared.value.Value.{Value}
use Rattle.ioc_values.specs.declared.value.Value.TheVariants as value

-- The whole number that a value shows in a field of any sort. A choice and a state have texts, and a
-- double and a text have none.
abbrev pub number_shown : Option Value → Option ℤ
number_shown None = None
number_shown (Some (value.Long z)) = Some z
number_shown (Some (value.ULong n)) = Some (pos n)
number_shown (Some (value.Short z)) = Some z
number_shown (Some (value.UShort n)) = Some (pos n)
number_shown (Some (value.UChar n)) = Some (pos n)
number_shown (Some (value.Int64 z)) = Some z
number_shown (Some (value.Enum n)) = None
number_shown (Some (value.Double x)) = None
number_shown (Some (value.Text text)) = None
