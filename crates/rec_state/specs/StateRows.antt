-- The rows of the field tables that bi, bo, mbbi and mbbo share. `own` has the rows of the states.
use Rattle.std.proofs.Common.{ℕ, List, Option, Some}
use Rattle.std.specs.Option.{option_map, option_or}
use Rattle.ioc_values.specs.declared.kind.Range.TheVariants.{ULong, UShort}
use Rattle.ioc_values.specs.declared.value.Value.{Value}
use Rattle.ioc_values.specs.Shapes.{IsValueOf}
use Rattle.ioc_menus.specs.declared.menu.Menu.TheVariants as menu
use Rattle.ioc_fields.specs.declared.field_kind.FieldKind.TheVariants.{Number, Menu, State}
use Rattle.ioc_fields.specs.declared.field_kind.LinkRole.TheVariants.{Input}
use Rattle.ioc_fields.specs.declared.field_no.OwnField.{OwnField}
use Rattle.ioc_fields.specs.declared.field_no.OwnField.TheVariants.{Val, Inp, Ivov, Rval, Mask, Cosv, Lalm}
use Rattle.ioc_fields.specs.declared.row.Row.{Row}
use Rattle.ioc_fields.specs.Rows.{plain, passive, fixed, given, link}
use Rattle.ioc_fields.specs.Table.{output_row}
use Rattle.ioc_record.specs.Values.{sort_in}

unfoldable pub state_row : (OwnField → Option Row) → OwnField → Option Row
state_row own Val = Some (passive State)
state_row own Rval = Some (plain (Number ULong))
state_row own Mask = Some (given (Number ULong))
state_row own Cosv = Some (passive (Menu menu.Severity))
state_row own Lalm = Some (fixed (Number UShort))
state_row own field = own field

-- The rows of an input with these states.
unfoldable pub state_input_row : (OwnField → Option Row) → OwnField → Option Row
state_input_row own Inp = Some (link Input)
state_input_row own field = state_row own field

-- The rows of an output with these states.
unfoldable pub state_output_row : (OwnField → Option Row) → OwnField → Option Row
state_output_row own Ivov = Some (passive (Number UShort))
state_output_row own field = option_or (output_row field) (state_row own field)

-- Holds if the value is of the sort of a field with this row.
abbrev pub IsValueBy : List (List ℕ) → Option Row → Value → Type 0
IsValueBy texts row v = IsValueOf (sort_in texts (option_map (λ (r : Row). r.kind) row)) v
