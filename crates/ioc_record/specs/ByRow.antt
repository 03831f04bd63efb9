-- What a row of the field table says about its field. There may be no row.
use Rattle.std.specs.Prelude.{◌≡◌, Bool, true, false, Option}
use Rattle.std.specs.Option.{option_and_then, option_map, option_map_or}
use Rattle.ioc_values.specs.declared.value.Value.{Value}
use Rattle.ioc_fields.specs.declared.row.Row.{Row}
use Rattle.ioc_fields.specs.Table.{is_link_kind}
use Rattle.ioc_fields.specs.Defaults.{zero_of}

-- Holds if the field can be put.
abbrev pub can_put_by : Option Row → Type 0
can_put_by row = option_map_or (λ (r : Row). r.can_put) row false ≡ true

-- The default of the field.
abbrev pub default_by : Option Row → Option Value
default_by row = option_and_then zero_of (option_map (λ (r : Row). r.kind) row)

-- Whether the field holds a link.
abbrev pub is_link_by : Option Row → Bool
is_link_by row = is_link_kind (option_map (λ (r : Row). r.kind) row)
