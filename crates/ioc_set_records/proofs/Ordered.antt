-- The maps that slots represent, as lists in the order of the slots.
use Rattle.std.proofs.Common.{◌≡◌, ℕ, zero, suc, ◌<◌, ◌≤◌, List, [], ◌∷◌, Bool, true, false, ◌&&◌, T, length, map, get_or, refl, sym, ap, ◌∙◌, subst, arith}
use Rattle.std.specs.Prelude.{slice_get, Some, None}
use Rattle.std.specs.Ordering.{nat_cmp, is_lt}
use Rattle.std.specs.declared.cmp.Ordering.TheVariants.{Less}
use Rattle.std.specs.Cmp.{nat_cmp_is}
use Rattle.std.specs.FinMap.{entries, from_sorted, keys, len, len-entries, len-empty, entries-from_sorted, get-from_sorted}
use Rattle.std.specs.FinMap.Entries.{is_sorted}
use Rattle.std.proofs.Math.ListN.{length-map}
use Rattle.ioc_set_records.specs.declared.slots.Slot.{Slot}
use Rattle.ioc_set_records.specs.Contents.{Contents, nothing}
use Rattle.ioc_set_records.specs.Slots.{record_entry, records_of, contents_of, numbers_of, IsBelow, AreAscending}
use Rattle.ioc_set_records.proofs.MapLaws.{get_made, one_map}

all_four : (a b c d : Bool) → T a → T (b && c) → T (d && c) → T ((a && b) && (d && c))
all_four true true c true p q r = r
all_four true true c false p q r = r
all_four true false c d p q r = q
all_four false b c d p q r = p

module _ {R D : Type 0} where
  sorted_with : (n : ℕ) (v : R) (ss : List (Slot R D)) → IsBelow n ss → AreAscending ss → T (is_sorted nat_cmp ((n, v) ∷ map record_entry ss))
  sorted_with n v [] b up = tt
  sorted_with n v (s ∷ ss) b up = all_four _ _ _ _ (subst (λ o. T (is_lt o)) (nat_cmp_is n s.number Less b.0) tt) (sorted_with n v ss b.1 up.1) (sorted_with s.number s.fields ss up.0 up.1)

  sorted : (ss : List (Slot R D)) → AreAscending ss → T (is_sorted nat_cmp (map record_entry ss))
  sorted [] up = tt
  sorted (s ∷ ss) up = sorted_with s.number s.fields ss up.0 up.1

  pub entries_are : (ss : List (Slot R D)) → AreAscending ss → entries (records_of ss) ≡ map record_entry ss
  entries_are ss up =
      ap entries (one_map (records_of ss) (from_sorted (map record_entry ss)) (λ q. get_made (map record_entry ss) q ∙ sym (get-from_sorted nat_cmp (map record_entry ss) q (sorted ss up))))
      ∙ entries-from_sorted nat_cmp (map record_entry ss) (sorted ss up)

  firsts : (ss : List (Slot R D)) → map (λ (e : ℕ × R). e.0) (map record_entry ss) ≡ numbers_of ss
  firsts [] = refl
  firsts (s ∷ ss) = ap (λ z. s.number ∷ z) (firsts ss)

  pub keys_are : (ss : List (Slot R D)) → AreAscending ss → keys (records_of ss) ≡ numbers_of ss
  keys_are ss up = ap (map (λ (e : ℕ × R). e.0)) (entries_are ss up) ∙ firsts ss

  pub len_is : (ss : List (Slot R D)) → AreAscending ss → len (records_of ss) ≡ length ss
  len_is ss up = len-entries (records_of ss) ∙ ap length (entries_are ss up) ∙ length-map ss record_entry

  -- The number at a place.
  pub number_found : (ss : List (Slot R D)) (i : ℕ) (s : Slot R D) → i < length ss → s ≡ get_or ss i s → slice_get (numbers_of ss) i ≡ Some s.number
  number_found [] i s l at = absurd (omega arith)
  number_found (t ∷ ss) zero s l at = ap (λ (u : Slot R D). Some u.number) (sym at)
  number_found (t ∷ ss) (suc i) s l at = number_found ss i s (omega arith) at

  pub number_past : (ss : List (Slot R D)) (i : ℕ) → length ss ≤ i → slice_get (numbers_of ss) i ≡ None
  number_past [] i l = refl
  number_past (t ∷ ss) zero l = absurd (omega arith)
  number_past (t ∷ ss) (suc i) l = number_past ss i (omega arith)

  pub none_stands : (ss : List (Slot R D)) → length ss ≡ 0 → contents_of ss ≡ nothing
  none_stands [] e = refl
  none_stands (s ∷ ss) e = absurd (omega arith)

  pub stands_for_none : (ss : List (Slot R D)) → AreAscending ss → contents_of ss ≡ nothing → length ss ≡ 0
  stands_for_none ss up e = sym (len_is ss up) ∙ ap (λ (c : Contents R D). len c.records) e ∙ len-empty nat_cmp R
