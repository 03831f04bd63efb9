-- Link texts, and the links that they spell. Record Reference Manual, "Database Concepts: Address
-- Specification"; Application Developer's Guide, "Database Links".
use Rattle.std.specs.Prelude.{◌≡◌, ℕ, ℤ, Bool, true, false, List, [], ◌∷◌, ◌++◌, length, Option, Some, None, codes, not, nat_le, nat_eq, ◌==◌, ◌&&◌, ◌||◌, if◌then◌else◌}
use Rattle.std.specs.Fmt.{signed_decimal}
use Rattle.std.specs.List.{list_all}
use Rattle.std.specs.Option.{option_map_or}
use Rattle.std.specs.Cmp.Lexicographic.{pointwise}
use Rattle.ioc_values.specs.Trim.{is_blank, trimmed, skip_front}
use Rattle.ioc_values.specs.Number.{signed, fits_i64}
use Rattle.ioc_links.specs.Words.{words, has}
use Rattle.ioc_links.specs.Classes.{all_of, front_of, back_of}
use Rattle.ioc_links.specs.declared.class.Class.{Class}
use Rattle.ioc_links.specs.declared.class.Class.TheVariants.{Digit, Point, Mark, NameByte, FieldByte}
use Rattle.ioc_links.specs.declared.link.Link.{Link}
use Rattle.ioc_links.specs.declared.link.Link.TheVariants.{Empty, Constant, Real, Device, Database}
use Rattle.ioc_links.specs.declared.link.LinkKind.{LinkKind}
use Rattle.ioc_links.specs.declared.link.LinkKind.TheVariants.{WithDevice, NoDevice}
use Rattle.ioc_links.specs.declared.link.Mode.{Mode}
use Rattle.ioc_links.specs.declared.link.Mode.TheVariants.{Nms, Ms, Msi, Mss}
use Rattle.ioc_links.specs.declared.link.Target.{Target}
use Rattle.ioc_links.specs.declared.link.Flags.{Flags}

-- ---- Numbers with a fraction or an exponent

-- The text after its sign, or the whole text if it has none.
abbrev pub without_sign : List ℕ → List ℕ
without_sign [] = []
without_sign (b ∷ bs) = if (b == 43) || (b == 45) then bs else b ∷ bs

-- Whether there is at least one byte and each is in the class.
abbrev pub is_some_of : Class → List ℕ → Bool
is_some_of class [] = false
is_some_of class (b ∷ bs) = all_of class (b ∷ bs)

-- Whether there is at least one digit and nothing else before the point, if there is one, and after
-- it.
abbrev pub mantissa_at : List ℕ → List ℕ → Bool
mantissa_at whole [] = is_some_of Digit whole
mantissa_at whole (point ∷ part) = is_some_of Digit (whole ++ part)

-- Whether the text consists of digits, at least one, with at most one point.
unfoldable pub is_mantissa : List ℕ → Bool
is_mantissa bs = mantissa_at (front_of Point bs) (back_of Point bs)

-- Whether the text is a mantissa, with or without an exponent after its mark.
abbrev pub float_at : List ℕ → List ℕ → Bool
float_at number [] = is_mantissa number
float_at number (mark ∷ power) = is_mantissa number && is_some_of Digit (without_sign power)

-- Whether the text is a decimal number, integer or not.
unfoldable pub is_float : List ℕ → Bool
is_float text = float_at (front_of Mark (without_sign text)) (back_of Mark (without_sign text))

-- ---- Names, fields and words

-- Whether the text has 1 to 60 bytes, each valid in a name.
abbrev pub is_record_name : List ℕ → Bool
is_record_name bs = nat_le (length bs) 60 && is_some_of NameByte bs

-- Whether the text has 1 to 8 capital letters or digits.
abbrev pub is_field_name : List ℕ → Bool
is_field_name bs = nat_le (length bs) 8 && is_some_of FieldByte bs

-- The field of the record as a target, if both names are valid.
unfoldable pub target_at : List ℕ → List ℕ → Option Target
target_at name field = if is_record_name name && is_field_name field then Some (record { record_name = name; field = field }) else None

-- The target of a name and the text after it; the field is VAL if there is no such text.
abbrev pub named_at : List ℕ → List ℕ → Option Target
named_at name [] = target_at name (codes "VAL")
named_at name (point ∷ field) = target_at name field

-- The target that a word names, split at its first point.
unfoldable pub named : List ℕ → Option Target
named word = named_at (front_of Point word) (back_of Point word)

-- Whether the word is valid after a target.
abbrev pub is_word : List ℕ → Bool
is_word w = pointwise nat_eq w (codes "PP") || (pointwise nat_eq w (codes "NPP") || (pointwise nat_eq w (codes "NMS")
    || (pointwise nat_eq w (codes "MS") || (pointwise nat_eq w (codes "MSI") || pointwise nat_eq w (codes "MSS")))))

-- Whether each word is valid after a target.
abbrev pub all_words : List (List ℕ) → Bool
all_words ws = list_all is_word ws

-- The mode that the words spell. NMS takes precedence over MSI, MSI over MSS, and MSS over MS.
unfoldable pub mode_of : List (List ℕ) → Mode
mode_of ws = if has (codes "NMS") ws then Nms else (if has (codes "MSI") ws then Msi else (if has (codes "MSS") ws then Mss else (if has (codes "MS") ws then Ms else Nms)))

-- The flags that the words after a target spell. NPP takes precedence over PP.
unfoldable pub flags_of : List (List ℕ) → Option Flags
flags_of ws = if all_words ws then Some (record { process_passive = has (codes "PP") ws && not (has (codes "NPP") ws); mode = mode_of ws }) else None

-- The database link of a target and its flags.
abbrev pub database_at : Option Target → Option Flags → Option Link
database_at (Some target) (Some flags) = Some (Database target flags)
database_at _ _ = None

-- The database link that the words spell.
abbrev pub database_of : List (List ℕ) → Option Link
database_of [] = None
database_of (w ∷ ws) = database_at (named w) (flags_of ws)

-- ---- Links

-- The device link with a text, if the field can hold one.
abbrev pub device_of : LinkKind → List ℕ → Option Link
device_of WithDevice [] = None
device_of WithDevice (c ∷ cs) = Some (Device (c ∷ cs))
device_of NoDevice text = None

-- The link of a text that isn't a number, by its first byte: none, `@`, `{` or another one.
unfoldable pub by_first : LinkKind → List ℕ → Option Link
by_first kind [] = Some Empty
by_first kind (c ∷ cs) =
    if c == 64 then device_of kind (skip_front (is_blank false) cs)
    else (if c == 123 then None else database_of (words (c ∷ cs)))

-- The constant link of a number that fits 64 bits.
abbrev pub constant_of : ℤ → Option Link
constant_of z = if fits_i64 z then Some (Constant z) else None

-- The constant of a decimal number with a point or an exponent, which keeps its text of at most 39 bytes.
abbrev pub real_of : List ℕ → Option Link
real_of text = if nat_le (length text) 39 then Some (Real text) else None

-- The link of a text without blanks at its ends.
unfoldable pub solid_link : LinkKind → List ℕ → Option Link
solid_link kind text = option_map_or constant_of (signed text) (if is_float text then real_of text else by_first kind text)

-- The link that a text spells, if it spells one.
abbrev pub link_of : LinkKind → List ℕ → Option Link
link_of kind text = if nat_le (length text) 120 then solid_link kind (trimmed (is_blank true) text) else None

-- ---- The one spelling

-- The word for the mode.
abbrev pub mode_word : Mode → List ℕ
mode_word Nms = codes "NMS"
mode_word Ms = codes "MS"
mode_word Msi = codes "MSI"
mode_word Mss = codes "MSS"

-- `NAME.FIELD`, PP or NPP, and the mode.
abbrev pub printed_database : Target → Flags → List ℕ
printed_database target flags = target.record_name ++ 46 ∷ target.field ++ (if flags.process_passive then codes " PP " else codes " NPP ") ++ mode_word flags.mode

-- The canonical spelling of a link.
abbrev pub printed : Link → List ℕ
printed Empty = []
printed (Constant z) = signed_decimal z
printed (Real text) = text
printed (Device text) = 64 ∷ text
printed (Database target flags) = printed_database target flags

-- Each link that a text spells reads back from its canonical spelling.
abbrev pub LinksAgain : Type 0
LinksAgain = (kind : LinkKind) (text : List ℕ) (link : Link) → link_of kind text ≡ Some link → link_of kind (printed link) ≡ Some link
