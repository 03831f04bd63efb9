-- What devices outside are asked, and the lines that tell it. Application Developer's Guide, "Device Support": asynchronous devices.
use Rattle.std.specs.Prelude.{◌≡◌, ℕ, ℤ, List, [], ◌∷◌, ◌++◌, codes, Option, Some, None, slice_get}
use Rattle.std.specs.Fmt.{decimal, signed_decimal}
use Rattle.ioc_values.specs.declared.value.Value.{Value}
use Rattle.ioc_values.specs.declared.value.Value.TheVariants.{Double as Double-value, Text}
use Rattle.ioc_values.specs.Conversion.{number_of_value}
use Rattle.ioc_double.specs.Spelled.{double_of_text}
use Rattle.ioc_device.specs.declared.Ask.{Ask}
use Rattle.ioc_device.specs.declared.Ask.TheVariants.{Read, Write}
use Rattle.ioc_commands.specs.Texts.{escaped}
use Rattle.ioc_shared_queues.specs.declared.order.SeenChange.{SeenChange}
use Rattle.ioc_shared_queues.specs.Seen.{Takes}
use Rattle.ioc_devices.specs.declared.asks.Asked.{Asked}
use Rattle.ioc_devices.specs.declared.asks.OutsideRecord.{OutsideRecord}

-- The lane took these items from the queue, one after another.
abbrev pub TakesAll : {T : Type 0} → List (SeenChange T) → List T → List (SeenChange T) → Type 0
TakesAll {T} v [] w = v ≡ w
TakesAll {T} v (item ∷ items) w = (u : List (SeenChange T)) × Takes v item u × TakesAll u items w

-- A text of which this holds was appended.
abbrev pub Adds : (List ℕ → Type 0) → List ℕ → List ℕ → Type 0
Adds Is old new = (text : List ℕ) × Is text × (new ≡ old ++ text)

abbrev pub number_text : Option ℤ → List ℕ
number_text None = []
number_text (Some z) = signed_decimal z

-- A value as programs read it: a number, that of a state, a text that spells the double, or a text with escapes.
abbrev pub IsValueText : Value → List ℕ → Type 0
IsValueText (Text t) text = text ≡ escaped t
IsValueText (Double-value d) text = double_of_text text ≡ Some d
IsValueText value text = text ≡ number_text (number_of_value value)

-- What a device with this text behind its `@` is asked to do.
abbrev pub IsAskText : List ℕ → Ask → List ℕ → Type 0
IsAskText name Read text = text ≡ codes " read " ++ escaped name
IsAskText name (Write value) text = (shown : List ℕ) × IsValueText value shown × (text ≡ codes " write " ++ escaped name ++ 9 ∷ shown)

-- The line of an ask of the device of a record.
abbrev pub IsAskLine : OutsideRecord → Asked → List ℕ → Type 0
IsAskLine r asked line =
    (what : List ℕ) × IsAskText r.text asked.ask what × (line ≡ codes "? " ++ r.name ++ 32 ∷ decimal asked.wait ++ what ++ 10 ∷ [])

abbrev pub ToldOf : Option OutsideRecord → Asked → List ℕ → List ℕ → Type 0
ToldOf None asked old new = new ≡ old
ToldOf (Some r) asked old new = Adds (IsAskLine r asked) old new

-- The line of an ask of one of these records was appended.
abbrev pub Tells : List OutsideRecord → Asked → List ℕ → List ℕ → Type 0
Tells records asked old new = ToldOf (slice_get records asked.device) asked old new

-- The line of each of these asks was appended, in order.
abbrev pub TellsAll : List OutsideRecord → List Asked → List ℕ → List ℕ → Type 0
TellsAll records [] old new = new ≡ old
TellsAll records (asked ∷ others) old new = (next : List ℕ) × Tells records asked old next × TellsAll records others next new
