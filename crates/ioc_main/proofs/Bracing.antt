-- The names of a part, one after another.
use Rattle.std.proofs.Common.{◌≡◌, ℕ, ◌<◌, ◌≤◌, ◌+◌, ◌-◌, suc, IsTrue, List, [], ◌∷◌, ◌++◌, length, refl, sym, ap, subst, ◌∙◌, append_assoc, arith}
use Rattle.std.specs.Prelude.{codes, slice_index}
use Rattle.std.specs.List.{range_with_len}
use Rattle.std.proofs.lemmas.Bool.{eq-eqb, lt-ltb, ne_eqb}
use Rattle.std.proofs.lemmas.List.{append-nil}
use Rattle.ioc_graph.specs.Members.{Follow, members_from}
use Rattle.ioc_record.specs.RecordRules.{RecordRules}
use Rattle.ioc_store.specs.declared.one_map.OneMap.{OneMap}
use Rattle.ioc_store.specs.OneMap.{world_of}
use Rattle.ioc_store.specs.OneMapLaws.{contains-numbered}
use Rattle.ioc_store.specs.World.{World, Has}
use Rattle.ioc_main.specs.Sets.{name_at, other_names, part_words, first_words, parts_words}

pub place_there : {R D : Type 0} (s : OneMap R D) (n m : ℕ) → m ≡ n → n < length s.records.items → Has (world_of s) m
place_there s n m e l = subst IsTrue (sym (contains-numbered s.records.items m ∙ lt-ltb m (length s.records.items) (omega (arith, e, l)))) refl

-- If a record follows, it is within the list.
pub follow_step : (next : List ℕ) (at : ℕ) (left : List ℕ) → Follow next at left → at < length next
    → (tail : List ℕ) × (left ≡ at ∷ tail) × (at < slice_index next at) × Follow next (slice_index next at) tail
follow_step next at [] f l = absurd (omega (arith, f, l))
follow_step next at (n ∷ ns) f l = (ns, ap (λ (m : ℕ). m ∷ ns) (sym f.0), rw f.0 f.1, rw f.0 f.3)

-- No record follows past the end of the list.
pub follow_end : (next : List ℕ) (at : ℕ) (left : List ℕ) → Follow next at left → length next ≤ at → left ≡ []
follow_end next at [] f l = refl
follow_end next at (n ∷ ns) f l = absurd (omega (arith, f.0, f.2, l))

range_step : (a n : ℕ) → a < n → range_with_len a (n - a) ≡ a ∷ range_with_len (a + 1) (n - (a + 1))
range_step a n l = let e : n - a ≡ suc (n - (a + 1)) = omega arith in rw e refl

module _ {R : Type 0} (k : RecordRules R) (w : World R) where
  pub names_begin : (numbers line after : List ℕ) (p : ℕ) → after ≡ line ++ codes " {" ++ name_at k w p
      → after ++ other_names k w (members_from numbers p (p + 1)) ≡ line ++ part_words k w numbers p
  unfolding part_words
  names_begin numbers line after p e =
      let rest = other_names k w (members_from numbers p (p + 1)) in
      rw e (ap (λ (l : List ℕ). l ++ rest) (append_assoc line (codes " {") (name_at k w p)) ∙ append_assoc line (codes " {" ++ name_at k w p) rest)

  pub names_step : (line after goal left tail : List ℕ) (n : ℕ) → after ≡ line ++ codes " " ++ name_at k w n → left ≡ n ∷ tail → line ++ other_names k w left ≡ goal
      → after ++ other_names k w tail ≡ goal
  names_step line after goal left tail n e is so =
      let rest = other_names k w tail in
      rw e (ap (λ (l : List ℕ). l ++ rest) (append_assoc line (codes " ") (name_at k w n)) ∙ append_assoc line (codes " " ++ name_at k w n) rest)
      ∙ ap (λ (l : List ℕ). line ++ other_names k w l) (sym is) ∙ so

  pub names_end : (line after goal left : List ℕ) → after ≡ line ++ 125 ∷ [] → left ≡ [] → line ++ other_names k w left ≡ goal → after ≡ goal
  names_end line after goal left e none so = e ∙ ap (λ (l : List ℕ). line ++ other_names k w l) (sym none) ∙ so

  parts_step : (numbers line after : List ℕ) (n : ℕ) → n < length numbers → after ≡ line ++ first_words k w numbers n
      → after ++ parts_words k w numbers (range_with_len (n + 1) (length numbers - (n + 1))) ≡ line ++ parts_words k w numbers (range_with_len n (length numbers - n))
  parts_step numbers line after n l e =
      rw (range_step n (length numbers) l, e) (append_assoc line (first_words k w numbers n) (parts_words k w numbers (range_with_len (n + 1) (length numbers - (n + 1)))))

  -- A part that begins with this record is appended.
  pub parts_first : (numbers line after : List ℕ) (n : ℕ) → n < length numbers → slice_index numbers n ≡ n → after ≡ line ++ part_words k w numbers n
      → after ++ parts_words k w numbers (range_with_len (n + 1) (length numbers - (n + 1))) ≡ line ++ parts_words k w numbers (range_with_len n (length numbers - n))
  parts_first numbers line after n l first e =
      let is : first_words k w numbers n ≡ part_words k w numbers n = rw (eq-eqb (slice_index numbers n) n first) refl in
      parts_step numbers line after n l (e ∙ ap (λ (words : List ℕ). line ++ words) (sym is))

  -- Nothing is appended for a record that isn't the first of its part.
  pub parts_other : (numbers line : List ℕ) (n : ℕ) → n < length numbers → (slice_index numbers n ≡ n → ⊥)
      → line ++ parts_words k w numbers (range_with_len (n + 1) (length numbers - (n + 1))) ≡ line ++ parts_words k w numbers (range_with_len n (length numbers - n))
  parts_other numbers line n l other =
      let is : first_words k w numbers n ≡ [] = rw (ne_eqb (slice_index numbers n) n other) refl in
      parts_step numbers line line n l (sym (append-nil line) ∙ ap (λ (words : List ℕ). line ++ words) (sym is))
