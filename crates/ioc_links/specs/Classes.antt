-- Classes of bytes, and texts split at a class.
use Rattle.std.specs.Prelude.{ℕ, Bool, true, List, [], ◌∷◌, nat_le, not, ◌==◌, ◌&&◌, ◌||◌, if◌then◌else◌}
use Rattle.std.specs.List.{list_all}
use Rattle.ioc_values.specs.Trim.{is_blank}
use Rattle.ioc_links.specs.declared.class.Class.{Class}
use Rattle.ioc_links.specs.declared.class.Class.TheVariants.{Digit, Point, Mark, NameByte, FieldByte, Blank}

-- Whether the byte is `0` to `9`.
abbrev pub is_digit : ℕ → Bool
is_digit b = nat_le 48 b && nat_le b 57

-- Whether the byte is `A` to `Z`.
abbrev pub is_capital : ℕ → Bool
is_capital b = nat_le 65 b && nat_le b 90

-- Whether the byte is in the class. `Mark` is `e` and `E`; `NameByte` is 33 to 126 except `"`, `$`,
-- `'` and `.`.
unfoldable pub in_class : Class → ℕ → Bool
in_class Digit b = is_digit b
in_class Point b = b == 46
in_class Mark b = (b == 101) || (b == 69)
in_class NameByte b = (nat_le 33 b && nat_le b 126) && not ((b == 34) || ((b == 36) || ((b == 39) || (b == 46))))
in_class FieldByte b = is_capital b || is_digit b
in_class Blank b = is_blank true b

-- Whether each byte is in the class.
abbrev pub all_of : Class → List ℕ → Bool
all_of class bs = list_all (in_class class) bs

-- The bytes before the first one in the class.
abbrev pub front_of : Class → List ℕ → List ℕ
front_of class [] = []
front_of class (b ∷ bs) = if in_class class b then [] else b ∷ front_of class bs

-- The bytes from the first one in the class.
abbrev pub back_of : Class → List ℕ → List ℕ
back_of class [] = []
back_of class (b ∷ bs) = if in_class class b then b ∷ bs else back_of class bs
