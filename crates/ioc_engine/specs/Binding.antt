-- The devices of records. Application Developer's Guide, "Device Support": a record is bound to the
-- device that its link names.
use Rattle.std.specs.Prelude.{ℕ, Bool, false, nat_eq, nat_lt, is_some, not, ◌&&◌, List, [], ◌∷◌, ◌++◌, Option, Some, None, if◌then◌else◌, length, slice_index_or, slice_set}

abbrev pub is_number : ℕ → Option ℕ → Bool
is_number n None = false
is_number n (Some m) = nat_eq m n

-- A device is given under a key, the name of the device or the number of its record, and `owner` says to which record it belongs.
module _ {K D : Type 0} (owner : K → Option ℕ) where
  -- The device of record `n` among these: the first whose key the record owns.
  abbrev pub device_of : List (K × D) → ℕ → Option D
  device_of [] n = None
  device_of (d ∷ ds) n = if is_number n (owner d.0) then Some d.1 else device_of ds n

  -- Whether one of `count` records owns the key, and none of the devices before has this owner.
  abbrev pub is_first : (count : ℕ) → List (K × D) → Option ℕ → Bool
  is_first count before None = false
  is_first count before (Some n) = nat_lt n count && not (is_some (device_of before n))

  -- The devices that no record has, behind those before.
  abbrev pub spare_of : (count : ℕ) → List (K × D) → List (K × D) → List (K × D)
  spare_of count before [] = []
  spare_of count before (d ∷ ds) =
      if is_first count before (owner d.0) then spare_of count (before ++ d ∷ []) ds else d ∷ spare_of count (before ++ d ∷ []) ds

-- Whether there is such a record and it has no device yet.
abbrev pub is_free : {D : Type 0} → List (Option D) → ℕ → Bool
is_free bound n = nat_lt n (length bound) && not (is_some (slice_index_or bound n None))

-- The devices of records, with this one given to its owner, if it has none yet.
abbrev pub bound_to : {D : Type 0} → Option ℕ → D → List (Option D) → List (Option D)
bound_to None device bound = bound
bound_to (Some n) device bound = if is_free bound n then slice_set bound n (Some device) else bound

-- The spare devices, with this one if its owner has a device already, or if it has no owner.
abbrev pub spare_with : {K D : Type 0} → Option ℕ → K × D → List (Option D) → List (K × D) → List (K × D)
spare_with None device bound spare = spare ++ device ∷ []
spare_with (Some n) device bound spare = if is_free bound n then spare else spare ++ device ∷ []
