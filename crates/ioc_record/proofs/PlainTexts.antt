-- A value that is neither a choice nor a state is shown in the same way in every field.
use Rattle.std.proofs.Common.{◌≡◌, ℕ, ℤ, List, refl}
use Rattle.std.specs.Float.Ieee.{Float}
use Rattle.ioc_values.specs.declared.value.Value.{Value}
use Rattle.ioc_values.specs.declared.value.Value.TheVariants as value
use Rattle.ioc_values.specs.Conversion.{FieldSort, Numbers, Doubles, Texts, Choices, States}
use Rattle.ioc_record.specs.Values.{choice_text, plain_text, state_text, value_text}

-- A fact about each value that is neither a choice nor a state.
by_kind : (P : Value → Type 0) → ((z : ℤ) → P (value.Long z)) → ((n : ℕ) → P (value.ULong n)) → ((z : ℤ) → P (value.Short z)) → ((n : ℕ) → P (value.UShort n)) → ((n : ℕ) → P (value.UChar n))
    → ((z : ℤ) → P (value.Int64 z)) → ((x : Float) → P (value.Double x)) → ((text : List ℕ) → P (value.Text text)) → (v : Value) → ((n : ℕ) → v ≡ value.Enum n → ⊥) → P v
by_kind P long ulong short ushort uchar int64 double text (value.Long z) other = long z
by_kind P long ulong short ushort uchar int64 double text (value.ULong n) other = ulong n
by_kind P long ulong short ushort uchar int64 double text (value.Short z) other = short z
by_kind P long ulong short ushort uchar int64 double text (value.UShort n) other = ushort n
by_kind P long ulong short ushort uchar int64 double text (value.UChar n) other = uchar n
by_kind P long ulong short ushort uchar int64 double text (value.Enum n) other = absurd (other n refl)
by_kind P long ulong short ushort uchar int64 double text (value.Int64 z) other = int64 z
by_kind P long ulong short ushort uchar int64 double text (value.Double x) other = double x
by_kind P long ulong short ushort uchar int64 double text (value.Text bytes) other = text bytes

pub plain_elsewhere : (sort : FieldSort) (digits : ℕ) (v : Value) → ((n : ℕ) → v ≡ value.Enum n → ⊥) → plain_text digits v ≡ value_text sort digits v
unfolding value_text
plain_elsewhere (Numbers range) digits v other = refl
plain_elsewhere Doubles digits v other = refl
plain_elsewhere Texts digits v other = refl
plain_elsewhere (Choices texts) digits v other =
    by_kind (λ v. plain_text digits v ≡ choice_text texts digits v) (λ z. refl) (λ n. refl) (λ z. refl) (λ n. refl) (λ n. refl) (λ z. refl) (λ x. refl) (λ text. refl) v other
plain_elsewhere (States texts) digits v other =
    by_kind (λ v. plain_text digits v ≡ state_text texts digits v) (λ z. refl) (λ n. refl) (λ z. refl) (λ n. refl) (λ n. refl) (λ z. refl) (λ x. refl) (λ text. refl) v other
