-- Numbers that don't fit 64 bits are in no range.
use Rattle.std.proofs.Common.{◌≡◌, ℕ, ◌^◌, ◌≤◌, min, Option, Some, None, ℤ, pos, negsuc, refl, sym, ap, ◌∙◌, arith}
use Rattle.std.specs.Option.{option_and_then}
use Rattle.std.proofs.lemmas.Bool.Decides.{nat_tests}
use Rattle.ioc_values.specs.declared.kind.Range.{Range}
use Rattle.ioc_values.specs.declared.kind.Range.TheVariants.{Long, ULong, Short, UShort, UChar, Enum, Int64, Zero, Bits, Digits}
use Rattle.ioc_values.specs.declared.value.Value.{Value}
use Rattle.ioc_double.specs.Whole as cut
use Rattle.ioc_values.specs.Number.{within_i64}
use Rattle.ioc_values.specs.Conversion.{signed_value, unsigned_value, value_in, numbered}

-- A number below the limit fits 64 bits.
signed_kept : (limit : ℕ) (made : ℤ → Value) (z : ℤ) → limit ≤ 2 ^ 63 → signed_value limit made z ≡ option_and_then (signed_value limit made) (within_i64 (Some z))
signed_kept limit made (pos n) h = grind (arith, nat_tests)
signed_kept limit made (negsuc n) h = grind (arith, nat_tests)

unsigned_kept : (limit : ℕ) (made : ℕ → Value) (z : ℤ) → limit ≤ 2 ^ 63 → unsigned_value limit made z ≡ option_and_then (unsigned_value limit made) (within_i64 (Some z))
unsigned_kept limit made (pos n) h = grind (arith, nat_tests)
unsigned_kept limit made (negsuc n) h = grind (arith, nat_tests)

value_kept : (range : Range) (z : ℤ) → value_in range z ≡ option_and_then (value_in range) (within_i64 (Some z))
unfolding value_in
value_kept Long z = signed_kept (2 ^ 31) _ z (omega arith)
value_kept ULong z = unsigned_kept (2 ^ 32) _ z (omega arith)
value_kept Short z = signed_kept (2 ^ 15) _ z (omega arith)
value_kept UShort z = unsigned_kept (2 ^ 16) _ z (omega arith)
value_kept UChar z = unsigned_kept (2 ^ 8) _ z (omega arith)
value_kept Enum z = unsigned_kept (2 ^ 16) _ z (omega arith)
value_kept Int64 z = signed_kept (2 ^ 63) _ z (omega arith)
value_kept Zero z = unsigned_kept 1 _ z (omega arith)
value_kept Bits z = unsigned_kept 33 _ z (omega arith)
value_kept Digits z = unsigned_kept 16 _ z (omega arith)

pub value_of_wide : (range : Range) (o : Option ℤ) → option_and_then (value_in range) o ≡ option_and_then (value_in range) (within_i64 o)
value_of_wide range None = refl
value_of_wide range (Some z) = value_kept range z

pub numbered_of_wide : (count : ℕ) (o : Option ℤ) → option_and_then (numbered count) o ≡ option_and_then (numbered count) (within_i64 o)
unfolding numbered
numbered_of_wide count None = refl
numbered_of_wide count (Some z) = unsigned_kept (min count (2 ^ 16)) _ z (omega arith)

-- A double without its fraction fits 64 bits by the same test.
cut_within : (o : Option ℤ) → cut.within_i64 o ≡ within_i64 o
cut_within None = refl
cut_within (Some (pos n)) = refl
cut_within (Some (negsuc n)) = refl

pub value_of_cut : (range : Range) (o : Option ℤ) → option_and_then (value_in range) (cut.within_i64 o) ≡ option_and_then (value_in range) o
value_of_cut range o = ap (option_and_then (value_in range)) (cut_within o) ∙ sym (value_of_wide range o)

pub numbered_of_cut : (count : ℕ) (o : Option ℤ) → option_and_then (numbered count) (cut.within_i64 o) ≡ option_and_then (numbered count) o
numbered_of_cut count o = ap (option_and_then (numbered count)) (cut_within o) ∙ sym (numbered_of_wide count o)
