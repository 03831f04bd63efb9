-- When a set is divided, each record goes to one side, and each side is one part.
use Rattle.std.proofs.Common.{◌≡◌, ◌⊎◌, ℕ, ◌<◌, List, Option, Some, None, Bool, cond, length, refl, sym, ap, ◌∙◌, subst, inl, inr, ⊎_elim, arith}
use Rattle.std.specs.Prelude.{◌==◌, not, slice_index, IsSome, is_some}
use Rattle.std.specs.Option.{option_map}
use Rattle.std.specs.FinMap.{get}
use Rattle.std.proofs.lemmas.Bool.{cases_eq}
use Rattle.ioc_graph.specs.Paths.{Connected}
use Rattle.ioc_graph.specs.Parts.{Joined as EdgeJoined}
use Rattle.ioc_graph.proofs.PathLaws.{carries}
use Rattle.ioc_record.specs.RecordRules.{RecordRules, targets}
use Rattle.ioc_set_records.specs.declared.slots.Slot.{Slot}
use Rattle.ioc_set_records.specs.Slots.{records_of, devices_of, numbers_of, AreAscending}
use Rattle.ioc_set_records.specs.Edges.{edges_in}
use Rattle.ioc_set_records.specs.Dealt.{dealt}
use Rattle.ioc_set_records.specs.Parted.{IsParted}
use Rattle.ioc_set_records.specs.Joined.{Links, links_of, Joined, IsClosed, IsPart, AreShared}
use Rattle.ioc_set_records.proofs.MapLaws.{same_number, other_number}
use Rattle.ioc_set_records.proofs.Slotted.{slot_at, place_cases, length-numbers}
use Rattle.ioc_set_records.proofs.Seen.{record_in, get_record, shared_records, shared_devices}
use Rattle.ioc_set_records.proofs.JoinLaws.{joins, joined_by}
use Rattle.ioc_set_records.proofs.DealtLaws.{ascending_dealt, found_dealt, none_dealt}
use Rattle.ioc_set_records.proofs.Moves.{not_some, OfPart, OfRest, part_of, rest_of}

module _ {R D : Type 0} (k : RecordRules R) (all : List (Slot R D)) (up : AreAscending all) (place : ℕ) (there : place < length all) (stay rest : List (Slot R D)) (parted : IsParted k all place stay rest) where
  abbrev numbers : List ℕ
  numbers = parted.numbers

  abbrev number : ℕ
  number = slice_index numbers place

  abbrev r : ℕ
  r = slice_index (numbers_of all) place

  abbrev f : Links
  f = links_of k (records_of all)

  abbrev C : ℕ → ℕ → Type 0
  C = Connected (Joined f)

  one_each : length numbers ≡ length all
  one_each = parted.parts.one_each ∙ length-numbers all

  module _ (p : ℕ → Bool) (side : List (Slot R D)) (is : side ≡ dealt p numbers all) where
    at_place : (i : ℕ) → i < length all → slot_at side (slice_index (numbers_of all) i) ≡ cond (p (slice_index numbers i)) (slot_at all (slice_index (numbers_of all) i)) None
    at_place i l = ap (λ z. slot_at z (slice_index (numbers_of all) i)) is ∙ found_dealt p numbers all i up one_each l

    nowhere : (q : ℕ) → slot_at all q ≡ None → slot_at side q ≡ None
    nowhere q e = ap (λ z. slot_at z q) is ∙ none_dealt p numbers all q e

    pub side_ascending : AreAscending side
    side_ascending = subst (λ (z : List (Slot R D)). AreAscending z) (sym is) (ascending_dealt p numbers all up)

  -- The records with the same part number are those that a path joins.
  to_path : (i j : ℕ) → i < length all → j < length all → slice_index numbers i ≡ slice_index numbers j → C (slice_index (numbers_of all) i) (slice_index (numbers_of all) j)
  to_path i j li lj e =
      let len = length-numbers all in
      carries (EdgeJoined (edges_in k all)) (Joined f) (joins k all up) _ _ ((parted.parts.exact i j (omega arith) (omega arith)).0 e)

  from_path : (i j : ℕ) → i < length all → j < length all → C (slice_index (numbers_of all) i) (slice_index (numbers_of all) j) → slice_index numbers i ≡ slice_index numbers j
  from_path i j li lj c =
      let len = length-numbers all in
      (parted.parts.exact i j (omega arith) (omega arith)).1 (carries (Joined f) (EdgeJoined (edges_in k all)) (joined_by k all) _ _ c)

  -- Holds if a record goes to the part of `r`, or otherwise to the rest.
  abbrev Sides : ℕ → Type 0
  Sides q =
      ((slot_at stay q ≡ slot_at all q) × (slot_at rest q ≡ None) × C q r)
      ⊎ ((slot_at stay q ≡ None) × (slot_at rest q ≡ slot_at all q) × (OfPart f r q → ⊥))

  side_at : (i : ℕ) → i < length all → Sides (slice_index (numbers_of all) i)
  side_at i l =
      let q = slice_index (numbers_of all) i in
      let one = at_place (λ n. n == number) stay parted.stays i l in
      let two = at_place (λ n. not (n == number)) rest parted.leaves i l in
      let o = slot_at all q in
      ⊎_elim
      (λ (e : slice_index numbers i ≡ number).
      let b = same_number (slice_index numbers i) number e in
      inl (one ∙ ap (λ b. cond b o None) b, two ∙ ap (λ b. cond (not b) o None) b, to_path i place l there e))
      (λ n.
      let b = other_number (slice_index numbers i) number n in
      inr (one ∙ ap (λ b. cond b o None) b, two ∙ ap (λ b. cond (not b) o None) b, λ p. n (from_path i place l there p.1)))
      (cases_eq (slice_index numbers i) number)

  -- The links of the record in a slot.
  links_at : (ss : List (Slot R D)) (q : ℕ) → links_of k (records_of ss) q ≡ option_map (targets k) (record_in (slot_at ss q))
  links_at ss q = ap (option_map (targets k)) (get_record ss q)

  links_same : (ss : List (Slot R D)) (q : ℕ) → slot_at ss q ≡ slot_at all q → links_of k (records_of ss) q ≡ f q
  links_same ss q e = links_at ss q ∙ ap (λ o. option_map (targets k) (record_in o)) e ∙ sym (links_at all q)

  links_none : (ss : List (Slot R D)) (q : ℕ) → slot_at ss q ≡ None → links_of k (records_of ss) q ≡ None
  links_none ss q e = links_at ss q ∙ ap (λ o. option_map (targets k) (record_in o)) e

  sides : (q : ℕ) → Sides q
  sides q =
      ⊎_elim
      (λ (i, l, e). subst Sides e (side_at i l))
      (λ e. inr (
        nowhere (λ n. n == number) stay parted.stays q e,
        nowhere (λ n. not (n == number)) rest parted.leaves q e ∙ sym e,
        λ p. not_some (f q) (links_none all q e) p.0,
      ))
      (place_cases q all)

  shared_slots : AreShared (slot_at all) (slot_at stay) (slot_at rest)
  shared_slots q = ⊎_elim (λ s. inl (s.0, s.1)) (λ s. inr (s.0, s.1)) (sides q)

  pub stay_ascending : AreAscending stay
  stay_ascending = side_ascending (λ n. n == number) stay parted.stays

  pub rest_ascending : AreAscending rest
  rest_ascending = side_ascending (λ n. not (n == number)) rest parted.leaves

  pub shared_sides : AreShared (get (records_of all)) (get (records_of stay)) (get (records_of rest))
  shared_sides = shared_records all stay rest shared_slots

  pub device_sides : AreShared (get (devices_of all)) (get (devices_of stay)) (get (devices_of rest))
  device_sides = shared_devices all stay rest shared_slots up stay_ascending rest_ascending

  pub own_side : IsSome (get (records_of all) r) → IsSome (get (records_of stay) r)
  own_side s =
      let at = at_place (λ n. n == number) stay parted.stays place there in
      ap is_some (get_record stay r ∙ ap record_in (at ∙ ap (λ b. cond b (slot_at all r) None) (same_number number number refl)) ∙ sym (get_record all r)) ∙ s

  none_cases : (o : Option (List ℕ)) → (o ≡ None) ⊎ IsSome o
  none_cases None = inl refl
  none_cases (Some x) = inr refl

  stays_within : (q : ℕ) → ((links_of k (records_of stay) q ≡ f q) × OfPart f r q) ⊎ ((links_of k (records_of stay) q ≡ None) × (OfPart f r q → ⊥))
  stays_within q =
      ⊎_elim
      (λ s. ⊎_elim
      (λ (n : f q ≡ None). inr (links_same stay q s.0 ∙ n, λ p. not_some (f q) n p.0))
      (λ (h : IsSome (f q)). inl (links_same stay q s.0, (h, s.2)))
      (none_cases (f q)))
      (λ s. inr (links_none stay q s.0, s.2))
      (sides q)

  rest_within : (q : ℕ) → ((links_of k (records_of rest) q ≡ f q) × OfRest f r q) ⊎ ((links_of k (records_of rest) q ≡ None) × (OfRest f r q → ⊥))
  rest_within q =
      ⊎_elim
      (λ s. inr (links_none rest q s.1, λ p. p.1 (p.0, s.2)))
      (λ s. ⊎_elim
      (λ (n : f q ≡ None). inr (links_same rest q s.1 ∙ n, λ p. not_some (f q) n p.0))
      (λ (h : IsSome (f q)). inl (links_same rest q s.1, (h, s.2)))
      (none_cases (f q)))
      (sides q)

  module _ (closed : IsClosed f) where
    pub stay_part : IsPart (links_of k (records_of stay))
    stay_part = part_of f r closed (links_of k (records_of stay)) stays_within

    pub rest_part : (u : ℕ) → ((q : ℕ) → IsSome (f q) → C q r ⊎ C q u) → IsPart (links_of k (records_of rest))
    rest_part u reach = rest_of f r closed u reach (links_of k (records_of rest)) rest_within
