-- Edges join what the links of the map join.
use Rattle.std.proofs.Common.{◌≡◌, ℕ, zero, suc, ◌<◌, List, [], ◌∷◌, Option, Some, None, length, get_or, true, false, refl, sym, ap, ◌∙◌, subst, inl, inr, ⊎_elim, arith}
use Rattle.std.specs.Prelude.{Contains, All, IsSome, is_some}
use Rattle.std.specs.Option.{option_map}
use Rattle.std.proofs.lemmas.Bool.{cases_eq}
use Rattle.std.proofs.lemmas.List.{get_or_default}
use Rattle.std.proofs.lemmas.List.Elements.{Contains-append_left, Contains-append_right, Contains-append_cases}
use Rattle.ioc_fields.specs.declared.field_no.FieldNo.{FieldNo}
use Rattle.ioc_graph.specs.declared.edges.Edge.{Edge}
use Rattle.ioc_graph.specs.Parts.{Joined as EdgeJoined}
use Rattle.ioc_dbcommon.specs.declared.link_field.LinkField.{LinkField}
use Rattle.ioc_record.specs.RecordRules.{RecordRules, targets}
use Rattle.ioc_set_records.specs.declared.slots.Slot.{Slot}
use Rattle.ioc_set_records.specs.Slots.{records_of, numbers_of, IsBelow, AreAscending}
use Rattle.ioc_set_records.specs.Edges.{edges_from, edges_in, slots_relinked}
use Rattle.ioc_set_records.specs.Joined.{links_of, Names, Joined, IsClosed}
use Rattle.ioc_set_records.proofs.EdgeLaws.{from_edges, to_edges}
use Rattle.ioc_set_records.proofs.Seen.{record_in, get_record}
use Rattle.ioc_set_records.proofs.Slotted.{same_Some, none_some, slot_at, slot_first, slot_later, length-numbers, place_cases, below_found}

edge : ℕ → ℕ → Edge
edge a b = record { from = a; to = b }

module _ {R D : Type 0} where
  pub number_in : (q : ℕ) (ss : List (Slot R D)) (s : Slot R D) → slot_at ss q ≡ Some s → Contains (numbers_of ss) q
  number_in q ss s e =
      ⊎_elim
      (λ p.
      let g = length-numbers ss in
      let l : p.0 < length (numbers_of ss) = let h = p.1 in omega arith in
      (p.0, l, get_or_default (numbers_of ss) p.0 q 0 l ∙ p.2))
      (λ n. absurd (none_some s (sym n ∙ e)))
      (place_cases q ss)

  module _ (k : RecordRules R) where
    in_edges : (ss : List (Slot R D)) (a b : ℕ) → AreAscending ss → Contains (edges_in k ss) (record { from = a; to = b })
        → (s : Slot R D) × (slot_at ss a ≡ Some s) × Contains (targets k s.fields) b
    in_edges [] a b up c = absurd (let l : c.0 < 0 = c.1 in omega arith)
    in_edges (s ∷ ss) a b up c =
        ⊎_elim
        (λ h. let p = from_edges s.number (targets k s.fields) a b h in (s, ap (slot_at (s ∷ ss)) p.0 ∙ slot_first s ss, p.1))
        (λ t.
        let r = in_edges ss a b up.1 t in
        let l = below_found s.number ss a r.0 up.0 r.1 in
        (r.0, slot_later a s ss (λ e. absurd (omega arith)) ∙ r.1, r.2))
        (Contains-append_cases (edges_from s.number (targets k s.fields)) (edges_in k ss) (record { from = a; to = b }) c)

    of_edges : (ss : List (Slot R D)) (a b : ℕ) (s : Slot R D) → slot_at ss a ≡ Some s → Contains (targets k s.fields) b → Contains (edges_in k ss) (record { from = a; to = b })
    of_edges [] a b x e c = absurd (none_some x e)
    of_edges (s ∷ ss) a b x e c =
        ⊎_elim
        (λ (h : a ≡ s.number).
        let same : s ≡ x = same_Some s x (sym (slot_first s ss) ∙ ap (slot_at (s ∷ ss)) (sym h) ∙ e) in
        let it = to_edges s.number (targets k s.fields) b (subst (λ (y : Slot R D). Contains (targets k y.fields) b) (sym same) c) in
        subst (λ n. Contains (edges_in k (s ∷ ss)) (record { from = n; to = b })) (sym h)
        (Contains-append_left (edges_from s.number (targets k s.fields)) (edges_in k ss) (record { from = s.number; to = b }) it))
        (λ n. Contains-append_right (edges_from s.number (targets k s.fields)) (edges_in k ss) (record { from = a; to = b })
        (of_edges ss a b x (sym (slot_later a s ss n) ∙ e) c))
        (cases_eq a s.number)

    -- The slot that has these links.
    linked : (o : Option (Slot R D)) (named : List ℕ) → option_map (targets k) (record_in o) ≡ Some named → (s : Slot R D) × (o ≡ Some s) × (targets k s.fields ≡ named)
    linked None named e = absurd (none_some named e)
    linked (Some s) named e = (s, refl, same_Some (targets k s.fields) named e)

    pub names_in : (ss : List (Slot R D)) (a b : ℕ) → AreAscending ss → Contains (edges_in k ss) (record { from = a; to = b }) → Names (links_of k (records_of ss)) a b
    names_in ss a b up c =
        let r = in_edges ss a b up c in
        (targets k r.0.fields, ap (option_map (targets k)) (get_record ss a ∙ ap record_in r.1), r.2)

    pub edge_of : (ss : List (Slot R D)) (a b : ℕ) → Names (links_of k (records_of ss)) a b → Contains (edges_in k ss) (record { from = a; to = b })
    edge_of ss a b n =
        let x = linked (slot_at ss a) n.0 (ap (option_map (targets k)) (sym (get_record ss a)) ∙ n.1) in
        of_edges ss a b x.0 x.1 (subst (λ (z : List ℕ). Contains z b) (sym x.2) n.2)

    pub joins : (ss : List (Slot R D)) → AreAscending ss → (a b : ℕ) → EdgeJoined (edges_in k ss) a b → Joined (links_of k (records_of ss)) a b
    joins ss up a b = ⊎_elim (λ c. inl (names_in ss a b up c)) (λ c. inr (names_in ss b a up c))

    pub joined_by : (ss : List (Slot R D)) (a b : ℕ) → Joined (links_of k (records_of ss)) a b → EdgeJoined (edges_in k ss) a b
    joined_by ss a b = ⊎_elim (λ n. inl (edge_of ss a b n)) (λ n. inr (edge_of ss b a n))

    here_from : (o : Option (Slot R D)) → IsSome (option_map (targets k) (record_in o)) → (s : Slot R D) × (o ≡ Some s)
    here_from None e = absurd (let f : false ≡ true = e in cc)
    here_from (Some s) e = (s, refl)

    -- If no link leaves the records, no edge does.
    pub ends_within : (ss : List (Slot R D)) → AreAscending ss → IsClosed (links_of k (records_of ss)) → All (λ (e : Edge). Contains (numbers_of ss) e.from × Contains (numbers_of ss) e.to) (edges_in k ss)
    ends_within ss up closed i d l =
        let e = get_or (edges_in k ss) i d in
        let c : Contains (edges_in k ss) e = (i, l, get_or_default (edges_in k ss) i e d l) in
        let r = in_edges ss e.from e.to up c in
        let named = closed e.from e.to (names_in ss e.from e.to up c) in
        let t = here_from (slot_at ss e.to) (ap (λ o. is_some (option_map (targets k) o)) (sym (get_record ss e.to)) ∙ named) in
        (number_in e.from ss r.0 r.1, number_in e.to ss t.0 t.1)

    pub numbers_relinked : (ss : List (Slot R D)) (i : ℕ) (f : FieldNo) (l : LinkField) → numbers_of (slots_relinked k ss i f l) ≡ numbers_of ss
    numbers_relinked [] i f l = refl
    numbers_relinked (s ∷ ss) zero f l = refl
    numbers_relinked (s ∷ ss) (suc i) f l = ap (λ z. s.number ∷ z) (numbers_relinked ss i f l)

    below_relinked : (n : ℕ) (ss : List (Slot R D)) (i : ℕ) (f : FieldNo) (l : LinkField) → IsBelow n ss → IsBelow n (slots_relinked k ss i f l)
    below_relinked n [] i f l b = b
    below_relinked n (s ∷ ss) zero f l b = b
    below_relinked n (s ∷ ss) (suc i) f l b = (b.0, below_relinked n ss i f l b.1)

    pub ascending_relinked : (ss : List (Slot R D)) (i : ℕ) (f : FieldNo) (l : LinkField) → AreAscending ss → AreAscending (slots_relinked k ss i f l)
    ascending_relinked [] i f l up = up
    ascending_relinked (s ∷ ss) zero f l up = up
    ascending_relinked (s ∷ ss) (suc i) f l up = (below_relinked s.number ss i f l up.0, ascending_relinked ss i f l up.1)
