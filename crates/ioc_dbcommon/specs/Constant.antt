-- Constant links as values. Application Developer's Guide, "Constants".
use Rattle.std.specs.Prelude.{Option, None}
use Rattle.std.specs.Option.{option_and_then}
use Rattle.ioc_double.specs.Spelled.{double_of_text}
use Rattle.ioc_values.specs.declared.value.Value.{Value}
use Rattle.ioc_values.specs.Conversion.{FieldSort, of_number, of_double}
use Rattle.ioc_links.specs.declared.link.Link.{Link}
use Rattle.ioc_links.specs.declared.link.Link.TheVariants.{Constant, Real}

-- A constant as what a field of the sort holds; none if it is out of range, or if the link is no constant.
unfoldable pub constant_in : FieldSort → Link → Option Value
constant_in sort (Constant z) = of_number sort z
constant_in sort (Real text) = option_and_then (of_double sort) (double_of_text text)
constant_in sort _ = None
