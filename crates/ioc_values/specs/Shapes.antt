-- A converted value is a value of the field's sort.
use Rattle.std.specs.Prelude.{◌≡◌, ℕ, zero, suc, ◌^◌, ◌<◌, min, Bool, true, false, cond, List, length, position, ℤ, pos, negsuc, Option, Some, None, option_map, Ok, Err, nat_lt, nat_eq}
use Rattle.std.specs.Option.{ok_or, option_and_then}
use Rattle.std.specs.Fmt.{signed_decimal}
use Rattle.std.specs.Float.Ieee.{Float, binary64, of_int}
use Rattle.std.proofs.Common.{refl, arith}
use Rattle.std.proofs.lemmas.Grind.{common_steps}
use Rattle.std.specs.Cmp.Lexicographic.{pointwise}
use Rattle.ioc_double.specs.Whole.{whole_of}
use Rattle.ioc_double.specs.Spelled.{double_of_text}
use Rattle.ioc_values.specs.declared.error.IocError.TheVariants.{BadValue}
use Rattle.ioc_values.specs.declared.input.Input.{Input}
use Rattle.ioc_values.specs.declared.input.Input.TheVariants.{Value as InputValue, LongText}
use Rattle.ioc_values.specs.declared.kind.Range.{Range}
use Rattle.ioc_values.specs.declared.kind.Range.TheVariants.{Long as LongRange, ULong as ULongRange, Short as ShortRange, UShort as UShortRange, UChar as UCharRange, Enum as EnumRange, Int64 as Int64Range, Zero as ZeroRange, Bits as BitsRange, Digits as DigitsRange}
use Rattle.ioc_values.specs.declared.value.Value.{Value}
use Rattle.ioc_values.specs.declared.value.Value.TheVariants.{Long, ULong, Short, UShort, UChar, Enum, Int64, Double, Text}
use Rattle.ioc_values.specs.Number.{number_of}
use Rattle.ioc_values.specs.Conversion.{FieldSort, Numbers, Doubles, Texts, Choices, States, signed_value, unsigned_value, value_in, numbered, found_or_numbered, same_text, state_of, is_text, of_number, double_text, of_double, of_text, converted, converted_input}

-- Holds if the value has the variant of the range; its type keeps it in range.
abbrev pub IsInRange : Range → Value → Type 0
IsInRange LongRange v = (z : ℤ) × (v ≡ Long z)
IsInRange ULongRange v = (n : ℕ) × (v ≡ ULong n)
IsInRange ShortRange v = (z : ℤ) × (v ≡ Short z)
IsInRange UShortRange v = (n : ℕ) × (v ≡ UShort n)
IsInRange UCharRange v = (n : ℕ) × (v ≡ UChar n)
IsInRange EnumRange v = (n : ℕ) × (v ≡ Enum n)
IsInRange Int64Range v = (z : ℤ) × (v ≡ Int64 z)
IsInRange ZeroRange v = v ≡ Short (pos 0)
IsInRange BitsRange v = (n : ℕ) × (v ≡ UShort n)
IsInRange DigitsRange v = (n : ℕ) × (v ≡ UShort n)

-- Holds if the value has the variant that a field of the sort holds; for choices, if it is the
-- number of one.
abbrev pub IsValueOf : FieldSort → Value → Type 0
IsValueOf (Numbers range) v = IsInRange range v
IsValueOf Doubles v = (x : Float) × (v ≡ Double x)
IsValueOf Texts v = (t : List ℕ) × (v ≡ Text t)
IsValueOf (Choices texts) v = (n : ℕ) × (v ≡ Enum n) × (n < length texts)
IsValueOf (States texts) v = (n : ℕ) × (v ≡ Enum n)

some_if : (b : Bool) (x v : Value) → cond b (Some x) None ≡ Some v → (b ≡ true) × (v ≡ x)
some_if true x v is = (refl, cc)
some_if false x v is = cc

unsigned_is : (limit : ℕ) (made : ℕ → Value) (z : ℤ) (v : Value) → unsigned_value limit made z ≡ Some v → (n : ℕ) × (v ≡ made n) × (n < limit)
unsigned_is limit made (pos n) v is = let s = some_if (nat_lt n limit) (made n) v is in (n, s.1, grind (arith, common_steps, s.0))
unsigned_is limit made (negsuc n) v is = cc

signed_is : (limit : ℕ) (made : ℤ → Value) (z : ℤ) (v : Value) → signed_value limit made z ≡ Some v → (x : ℤ) × (v ≡ made x)
signed_is limit made (pos n) v is = let s = some_if (nat_lt n limit) (made (pos n)) v is in (pos n, s.1)
signed_is limit made (negsuc n) v is = let s = some_if (nat_lt n limit) (made (negsuc n)) v is in (negsuc n, s.1)

zero_alone : (n : ℕ) (v : Value) → v ≡ Short (pos n) → n < 1 → v ≡ Short (pos 0)
zero_alone zero v is below = is
zero_alone (suc n) v is below = absurd (omega (arith, below))

range_is : (range : Range) (z : ℤ) (v : Value) → value_in range z ≡ Some v → IsInRange range v
unfolding value_in
range_is LongRange z v is = signed_is (2 ^ 31) Long z v is
range_is ULongRange z v is = let u = unsigned_is (2 ^ 32) ULong z v is in (u.0, u.1)
range_is ShortRange z v is = signed_is (2 ^ 15) Short z v is
range_is UShortRange z v is = let u = unsigned_is (2 ^ 16) UShort z v is in (u.0, u.1)
range_is UCharRange z v is = let u = unsigned_is (2 ^ 8) UChar z v is in (u.0, u.1)
range_is EnumRange z v is = let u = unsigned_is (2 ^ 16) Enum z v is in (u.0, u.1)
range_is Int64Range z v is = signed_is (2 ^ 63) Int64 z v is
range_is ZeroRange z v is = let u = unsigned_is 1 (λ n. Short (pos n)) z v is in zero_alone u.0 v u.1 u.2
range_is BitsRange z v is = let u = unsigned_is 33 UShort z v is in (u.0, u.1)
range_is DigitsRange z v is = let u = unsigned_is 16 UShort z v is in (u.0, u.1)

numbered_is : (count : ℕ) (z : ℤ) (v : Value) → numbered count z ≡ Some v → (n : ℕ) × (v ≡ Enum n) × (n < count)
unfolding numbered
numbered_is count z v is = let u = unsigned_is (min count (2 ^ 16)) Enum z v is in (u.0, u.1, omega (arith, u.2))

-- A value made from an optional number is made from a number.
through : (f : ℤ → Option Value) (o : Option ℤ) (v : Value) → option_and_then f o ≡ Some v → (z : ℤ) × (f z ≡ Some v)
through f None v is = cc
through f (Some z) v is = (z, is)

position_below : {X : Type 0} (p : X → Bool) (xs : List X) (n : ℕ) → position p xs ≡ Some n → n < length xs
position_below p xs n is = grind (arith, common_steps)

found_is : (count : ℕ) (found : Option ℕ) (text : List ℕ) (v : Value) → ((n : ℕ) → found ≡ Some n → n < count) → found_or_numbered count found text ≡ Some v
    → (n : ℕ) × (v ≡ Enum n) × (n < count)
unfolding value_in
found_is count (Some n) text v below is =
    let s = some_if (nat_lt n (2 ^ 16)) (Enum n) v is in (n, s.1, below n refl)
found_is count None text v below is = let t = through (numbered count) (number_of text) v is in numbered_is count t.0 v t.1

state_found_is : (count : ℕ) (found : Option ℕ) (text : List ℕ) (v : Value) → found_or_numbered count found text ≡ Some v → (n : ℕ) × (v ≡ Enum n)
unfolding value_in
state_found_is count (Some n) text v is = let s = some_if (nat_lt n (2 ^ 16)) (Enum n) v is in (n, s.1)
state_found_is count None text v is = let t = through (numbered count) (number_of text) v is in let n = numbered_is count t.0 v t.1 in (n.0, n.1)

number_is : (sort : FieldSort) (z : ℤ) (v : Value) → of_number sort z ≡ Some v → IsValueOf sort v
unfolding of_number
number_is (Numbers range) z v is = range_is range z v is
number_is Doubles z v is = (of_int binary64 z, cc)
number_is Texts z v is = (signed_decimal z, cc)
number_is (Choices texts) z v is = numbered_is (length texts) z v is
number_is (States texts) z v is = range_is EnumRange z v is

double_spelled : (o : Option Float) (v : Value) → option_map Double o ≡ Some v → (x : Float) × (v ≡ Double x)
double_spelled None v is = cc
double_spelled (Some x) v is = (x, cc)

double_is : (sort : FieldSort) (x : Float) (v : Value) → of_double sort x ≡ Some v → IsValueOf sort v
unfolding of_double
double_is (Numbers range) x v is = let t = through (value_in range) (whole_of x) v is in range_is range t.0 v t.1
double_is Doubles x v is = (x, cc)
double_is Texts x v is = (double_text x, cc)
double_is (Choices texts) x v is = let t = through (numbered (length texts)) (whole_of x) v is in let n = numbered_is (length texts) t.0 v t.1 in n
double_is (States texts) x v is = let t = through (value_in EnumRange) (whole_of x) v is in range_is EnumRange t.0 v t.1

text_is : (sort : FieldSort) (text : List ℕ) (v : Value) → of_text sort text ≡ Some v → IsValueOf sort v
unfolding of_text
text_is (Numbers range) text v is = let t = through (value_in range) (number_of text) v is in range_is range t.0 v t.1
text_is Doubles text v is = double_spelled (double_of_text text) v is
text_is Texts text v is = (text, cc)
text_is (Choices texts) text v is = found_is (length texts) (same_text texts text) text v (λ n e. position_below (λ t. pointwise nat_eq t text) texts n e) is
text_is (States texts) text v is = state_found_is (length texts) (state_of texts text) text v is

ok_is : (o : Option Value) (v : Value) → ok_or o BadValue ≡ Ok v → o ≡ Some v
ok_is None v is = cc
ok_is (Some x) v is = cc

converted_is : (given : Value) (sort : FieldSort) (v : Value) → converted given sort ≡ Ok v → IsValueOf sort v
converted_is (Long z) sort v is = number_is sort z v (ok_is (of_number sort z) v is)
converted_is (ULong n) sort v is = number_is sort (pos n) v (ok_is (of_number sort (pos n)) v is)
converted_is (Short z) sort v is = number_is sort z v (ok_is (of_number sort z) v is)
converted_is (UShort n) sort v is = number_is sort (pos n) v (ok_is (of_number sort (pos n)) v is)
converted_is (UChar n) sort v is = number_is sort (pos n) v (ok_is (of_number sort (pos n)) v is)
converted_is (Enum n) sort v is = number_is sort (pos n) v (ok_is (of_number sort (pos n)) v is)
converted_is (Int64 z) sort v is = number_is sort z v (ok_is (of_number sort z) v is)
converted_is (Double x) sort v is = double_is sort x v (ok_is (of_double sort x) v is)
converted_is (Text t) sort v is = text_is sort t v (ok_is (of_text sort t) v is)

long_is : (b : Bool) (text : List ℕ) (sort : FieldSort) (v : Value) → cond b (converted (Text text) sort) (Err BadValue) ≡ Ok v → IsValueOf sort v
long_is true text sort v is = converted_is (Text text) sort v is
long_is false text sort v is = cc

-- An input that a caller passes converts to a value of the sort.
pub input_is : (given : Input) (sort : FieldSort) (v : Value) → converted_input given sort ≡ Ok v → IsValueOf sort v
unfolding converted_input
input_is (InputValue value) sort v is = converted_is value sort v is
input_is (LongText text) sort v is = long_is (is_text sort) text sort v is
