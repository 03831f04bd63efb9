-- The slots of a set that is divided, in terms of the code.
use Rattle.std.proofs.Common.{◌≡◌, ℕ, ◌<◌, ◌≤◌, List, [], ◌∷◌, ◌++◌, Bool, true, false, cond, length, set, get_or, refl, sym, ap, ◌∙◌, subst, arith}
use Rattle.std.specs.Prelude.{◌==◌, not, filter, slice_index}
use Rattle.std.proofs.lemmas.List.{get_or_default, get_or_append_left, set-append_left, length-set}
use Rattle.ioc_fields.specs.declared.field_no.FieldNo.{FieldNo}
use Rattle.ioc_graph.specs.Parts.{ArePartsOf}
use Rattle.ioc_dbcommon.specs.declared.link_field.LinkField.{LinkField}
use Rattle.ioc_record.specs.RecordRules.{RecordRules}
use Rattle.ioc_set_records.specs.declared.slots.Slot.{Slot}
use Rattle.ioc_set_records.specs.Slots.{numbers_of}
use Rattle.ioc_set_records.specs.Edges.{edges_in, slot_relinked, slots_relinked}
use Rattle.ioc_set_records.specs.Dealt.{dealt}
use Rattle.ioc_set_records.specs.Parted.{IsParted}
use Rattle.ioc_set_records.specs.Twins.{AreFolded}
use Rattle.ioc_set_records.proofs.EdgeLaws.{relinked_set}
use Rattle.ioc_set_records.proofs.DealtLaws.{all_dealt, none_dealt_away}
use Rattle.ioc_set_records.proofs.JoinLaws.{numbers_relinked}
use Rattle.ioc_set_records.proofs.Slotted.{length-numbers}
use Rattle.ioc_set_records.proofs.Twins.{dealt_folded}

module _ {R D : Type 0} (k : RecordRules R) (ss : List (Slot R D)) (place : ℕ) (f : FieldNo) (l : LinkField) where
  abbrev relinked : List (Slot R D) → List (Slot R D)
  relinked zs = slots_relinked k zs place f l

  written : (all : List (Slot R D)) (s t : Slot R D) → place < length ss → s ≡ get_or ss place s → t ≡ slot_relinked k s f l → all ≡ set ss place t → all ≡ relinked ss
  written all s t within at is all_is = all_is ∙ ap (set ss place) is ∙ sym (relinked_set k ss place s f l within at)

  pub parted_by : (all stay rest zs : List (Slot R D)) (s t : Slot R D) (ns numbers : List ℕ) (n : ℕ)
      → place < length ss → s ≡ get_or ss place s → t ≡ slot_relinked k s f l → all ≡ set ss place t
      → zs ≡ ss → ArePartsOf (edges_in k (relinked zs)) (numbers_of zs) numbers → ns ≡ numbers → n ≡ get_or numbers place n
      → stay ≡ dealt (λ m. m == n) ns all → rest ≡ dealt (λ m. not (m == n)) ns all
      → IsParted k (relinked ss) place stay rest
  parted_by all stay rest zs s t ns numbers n within at is all_is same parts read number stays leaves =
      let parts_there : ArePartsOf (edges_in k (relinked ss)) (numbers_of (relinked ss)) numbers =
      subst (λ (q : List ℕ). ArePartsOf (edges_in k (relinked ss)) q numbers) (sym (numbers_relinked k ss place f l))
      (subst (λ (z : List (Slot R D)). ArePartsOf (edges_in k (relinked z)) (numbers_of z) numbers) same parts) in
      let len : length numbers ≡ length ss = parts_there.one_each ∙ ap length (numbers_relinked k ss place f l) ∙ length-numbers ss in
      let here : n ≡ slice_index numbers place = number ∙ get_or_default numbers place n 0 (omega arith) in
      let there = written all s t within at is all_is in
      record {
        numbers = numbers;
        parts = parts_there;
        stays = stays ∙ ap (λ (q : List ℕ). dealt (λ m. m == n) q all) read ∙ ap (λ i. dealt (λ m. m == i) numbers all) here ∙ ap (dealt (λ m. m == slice_index numbers place) numbers) there;
        leaves = leaves ∙ ap (λ (q : List ℕ). dealt (λ m. not (m == n)) q all) read ∙ ap (λ i. dealt (λ m. not (m == i)) numbers all) here ∙ ap (dealt (λ m. not (m == slice_index numbers place)) numbers) there;
      }

  -- If all are of one part, all stay.
  pub whole_by : (all rest zs : List (Slot R D)) (s t : Slot R D) (ns numbers : List ℕ) (n staying : ℕ)
      → place < length ss → s ≡ get_or ss place s → t ≡ slot_relinked k s f l → all ≡ set ss place t
      → zs ≡ ss → ArePartsOf (edges_in k (relinked zs)) (numbers_of zs) numbers → ns ≡ numbers → n ≡ get_or numbers place n
      → staying ≡ length (filter (λ m. m == n) ns) → staying ≡ length numbers → rest ≡ []
      → IsParted k (relinked ss) place all rest
  whole_by all rest zs s t ns numbers n staying within at is all_is same parts read number count whole none =
      let zs_len : length zs ≡ length ss = ap length same in
      let len : length ns ≡ length all = ap length read ∙ parts.one_each ∙ length-numbers zs ∙ zs_len ∙ sym (length-set ss place t) ∙ ap length (sym all_is) in
      let ns_len : length ns ≡ length numbers = ap length read in
      let every : length (filter (λ m. m == n) ns) ≡ length ns = omega arith in
      parted_by all all rest zs s t ns numbers n within at is all_is same parts read number
      (sym (all_dealt (λ m. m == n) ns all len every)) (none ∙ sym (none_dealt_away (λ m. m == n) ns all len every))

  -- Two concatenated lists of slots, as the code writes them.
  pub joined_by : (ts all : List (Slot R D)) (s t : Slot R D) → place < length ss → all ≡ ss ++ ts → s ≡ get_or all place s → t ≡ slot_relinked k s f l
      → set all place t ≡ relinked ss ++ ts
  joined_by ts all s t within is at written_is =
      let here : s ≡ get_or ss place s = at ∙ ap (λ z. get_or z place s) is ∙ get_or_append_left ss ts s place within in
      ap (λ z. set z place t) is ∙ set-append_left ss ts place t within
      ∙ ap (λ z. z ++ ts) (written (set ss place t) s t within here written_is refl)

-- The number of slots on each side.
module _ {R D : Type 0} (p : ℕ → Bool) where
  few_chosen : (b : Bool) (s : Slot R D) (ds ss : List (Slot R D)) → length ds ≤ length ss → length (cond b (s ∷ ds) ds) ≤ length (s ∷ ss)
  few_chosen true s ds ss l = omega arith
  few_chosen false s ds ss l = omega arith

  pub few_dealt : (ns : List ℕ) (ss : List (Slot R D)) → length (dealt p ns ss) ≤ length ss
  few_dealt [] ss = omega arith
  few_dealt (n ∷ ns) [] = omega arith
  few_dealt (n ∷ ns) (s ∷ ss) = few_chosen (p n) s (dealt p ns ss) ss (few_dealt ns ss)

  both_chosen : (b : Bool) (s : Slot R D) (n : ℕ) (ds : List (Slot R D)) (ns : List ℕ) → length ds ≤ length ns → length (cond b (s ∷ ds) ds) ≤ length (cond b (n ∷ ns) ns)
  both_chosen true s n ds ns l = omega arith
  both_chosen false s n ds ns l = l

  pub dealt_few : (ns : List ℕ) (ss : List (Slot R D)) → length (dealt p ns ss) ≤ length (filter p ns)
  dealt_few [] ss = omega arith
  dealt_few (n ∷ ns) [] = omega arith
  dealt_few (n ∷ ns) (s ∷ ss) = both_chosen (p n) s n (dealt p ns ss) (filter p ns) (dealt_few ns ss)

module _ {R D : Type 0} (k : RecordRules R) (all : List (Slot R D)) (place : ℕ) (stay rest : List (Slot R D)) (parted : IsParted k all place stay rest) where
  pub few_stay : length stay ≤ length all
  few_stay = let e = ap length parted.stays in let l = few_dealt (λ n. n == slice_index parted.numbers place) parted.numbers all in omega arith

  pub stay_folded : AreFolded all → AreFolded stay
  stay_folded f = subst (λ (z : List (Slot R D)). AreFolded z) (sym parted.stays) (dealt_folded (λ n. n == slice_index parted.numbers place) parted.numbers all f)

  pub rest_folded : AreFolded all → AreFolded rest
  rest_folded f = subst (λ (z : List (Slot R D)). AreFolded z) (sym parted.leaves) (dealt_folded (λ n. not (n == slice_index parted.numbers place)) parted.numbers all f)
