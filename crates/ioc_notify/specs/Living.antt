-- The live puts with notification, and how many records and waiting lists are part of each. One
-- ends when none is part of it any more. Application Developer's Guide, "Put with Notification"
-- (dbPutNotify).
use Rattle.std.specs.Prelude.{◌≡◌, ◌≢◌, ℕ, ◌+◌, ◌-◌, ◌<◌, ◌^◌, ◌==◌, ◌&&◌, Bool, false, not, nat_lt, min, if◌then◌else◌, Option, MatchOption, List, [], ◌∷◌, ◌++◌, length, slice_index_or}
use Rattle.std.specs.List.{list_any}
use Rattle.ioc_notify.specs.declared.live_numbers.Live.{Live}

-- The live ones, in the order in which they began.
pub record Living : Type 0 where
  pub live : List Live

-- The table without live ones.
abbrev pub none_live : Living
none_live = record { live = [] }

-- Whether the put with notification with this number is live.
abbrev pub is_live : ℕ → List Live → Bool
is_live number ls = list_any (λ l. l.number == number) ls

-- The table after one begins: one record or waiting list is part of it.
abbrev pub begun : ℕ → List Live → List Live
begun number ls = ls ++ (record { number = number; holders = 1 }) ∷ []

-- The list with the one with this number replaced by others, if it is there.
abbrev pub at_number : ℕ → (Live → List Live) → List Live → List Live
at_number number others [] = []
at_number number others (l ∷ ls) = if l.number == number then others l ++ ls else l ∷ at_number number others ls

-- The put with notification with one more record.
abbrev pub one_more : Live → List Live
one_more l = (record l { holders = min (2 ^ 64 - 1) (l.holders + 1) }) ∷ []

abbrev pub gained : ℕ → List Live → List Live
gained number = at_number number one_more

-- The put with notification with one record or waiting list less. It ends with the last one.
abbrev pub one_less : Live → List Live
one_less l = if nat_lt 1 l.holders then (record l { holders = l.holders - 1 }) ∷ [] else []

abbrev pub lost : ℕ → List Live → List Live
lost number = at_number number one_less

-- The list without the put with notification.
abbrev pub forgotten : ℕ → List Live → List Live
forgotten number = at_number number (λ l. [])

-- How many records and waiting lists are part of it; 0 if it isn't live.
abbrev pub holders_of : ℕ → List Live → ℕ
holders_of number [] = 0
holders_of number (l ∷ ls) = if l.number == number then l.holders else holders_of number ls

-- Whether it is live and one record or waiting list alone is part of it.
abbrev pub is_at_its_last : ℕ → List Live → Bool
is_at_its_last number ls = list_any (λ l. l.number == number) ls && not (nat_lt 1 (holders_of number ls))

-- Holds if the answer is the index of the first one with this number, or none if there is none.
abbrev pub IsPlaceOf : ℕ → List Live → Option ℕ → Type 0
IsPlaceOf number ls place =
    MatchOption place
    (list_any (λ l. l.number == number) ls ≡ false)
    (λ i. (i < length ls) × ((d : Live) → (slice_index_or ls i d).number ≡ number) × ((k : ℕ) (d : Live) → k < i → (slice_index_or ls k d).number ≢ number))
