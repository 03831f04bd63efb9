-- Edges of links, and what their parts say about the links.
use Rattle.std.proofs.Common.{◌≡◌, ℕ, zero, suc, ◌+◌, ◌<◌, ◌≤◌, List, [], ◌∷◌, ◌++◌, Option, Some, None, Bool, true, false, cond, length, get_or, refl, sym, ap, ◌∙◌, subst, inl, inr, ⊎_elim, arith}
use Rattle.std.specs.Prelude.{◌==◌, ◌↔◌, Contains, All, IsSome, is_some, slice_get, slice_index}
use Rattle.std.specs.Option.{option_map}
use Rattle.std.proofs.lemmas.Bool.{cases_eq, cases_lt}
use Rattle.std.proofs.lemmas.List.{get_or_default}
use Rattle.std.proofs.lemmas.List.FromFn.{length-range_with_len, get_or-range_with_len}
use Rattle.std.proofs.lemmas.List.Elements.{Contains-get_or, Contains-append_left, Contains-append_right, Contains-append_cases, All-contains}
use Rattle.ioc_graph.specs.declared.edges.Edge.{Edge}
use Rattle.ioc_graph.specs.Paths.{Connected}
use Rattle.ioc_graph.specs.Parts.{ArePartsOf, all_below, Joined as EdgeJoined}
use Rattle.ioc_graph.proofs.PathLaws.{stays, steps, carries, carries_within}
use Rattle.ioc_record.specs.RecordRules.{RecordRules, targets}
use Rattle.ioc_set_records.specs.Contents.{Contents, nothing}
use Rattle.ioc_set_records.specs.Edges.{edges_from}
use Rattle.ioc_set_records.specs.Joined.{links_of, Names, Joined, IsClosed, IsPart}
use Rattle.ioc_set_records.specs.declared.loaded.Loaded.{Loaded}
use Rattle.ioc_set_records.specs.Dealing.{HasPart, AreDealt}
use Rattle.ioc_set_records.specs.Linked.{links_in, AreParts}
use Rattle.ioc_set_records.specs.LoadedEdges.{AreEdges}
use Rattle.ioc_set_records.proofs.EdgeLaws.{from_edges, to_edges}
use Rattle.ioc_set_records.proofs.LoadedMapLaws.{same_number, other_number}

same_Some : {X : Type 0} (x y : X) → Some x ≡ Some y → x ≡ y
same_Some x y e = cc

none_there : {X : Type 0} (o : Option X) → o ≡ None → IsSome o → ⊥
none_there o e s = let f : true ≡ false = sym s ∙ ap is_some e in cc

module _ {X Y : Type 0} (f : X → Y) where
  there_by : (xs : List X) (i : ℕ) → i < length xs → IsSome (option_map f (slice_get xs i))
  there_by [] i l = absurd (omega arith)
  there_by (x ∷ xs) zero l = refl
  there_by (x ∷ xs) (suc i) l = there_by xs i (omega arith)

  by_there : (xs : List X) (i : ℕ) → IsSome (option_map f (slice_get xs i)) → i < length xs
  by_there [] i s = absurd (let e : false ≡ true = s in cc)
  by_there (x ∷ xs) zero s = omega arith
  by_there (x ∷ xs) (suc i) s = let l = by_there xs i s in omega arith

module _ {R D : Type 0} (k : RecordRules R) (all : List (Loaded R D)) where
  link_from : (a b : ℕ) → Names (links_in k all) a b → a < length all
  link_from a b n = by_there (λ l. targets k l.fields) all a (ap is_some n.1)

  -- The edges of one more record.
  pub edges_more : (es after : List Edge) (n : ℕ) (l : Loaded R D) → slice_get all n ≡ Some l → after ≡ es ++ edges_from n (targets k l.fields)
      → ((a b : ℕ) → Contains es (record { from = a; to = b }) ↔ ((a < n) × Names (links_in k all) a b))
      → (a b : ℕ) → Contains after (record { from = a; to = b }) ↔ ((a < n + 1) × Names (links_in k all) a b)
  edges_more es after n l at is was a b =
      let ts = targets k l.fields in
      let e : Edge = record { from = a; to = b } in
      let here : links_in k all n ≡ Some ts = ap (option_map (λ (l : Loaded R D). targets k l.fields)) at in (
        λ c. ⊎_elim
            (λ d. let o = (was a b).0 d in (let h = o.0 in omega arith, o.1))
            (λ d. let o = from_edges n ts a b d in (let h = o.0 in omega arith, (ts, ap (links_in k all) o.0 ∙ here, o.1)))
            (Contains-append_cases es (edges_from n ts) e (subst (λ z. Contains z e) is c)),
        λ p. subst (λ z. Contains z e) (sym is) (
            ⊎_elim
            (λ (h : a < n). Contains-append_left es (edges_from n ts) e ((was a b).1 (h, p.1)))
            (λ (h : n ≤ a).
            let same : a ≡ n = let m = p.0 in omega arith in
            let named : ts ≡ p.1.0 = same_Some ts p.1.0 (sym here ∙ ap (links_in k all) (sym same) ∙ p.1.1) in
            let d = to_edges n ts b (subst (λ z. Contains z b) (sym named) p.1.2) in
            Contains-append_right es (edges_from n ts) e (subst (λ i. Contains (edges_from n ts) (record { from = i; to = b })) (sym same) d))
            (cases_lt a n)),
      )

  pub edges_whole : (es : List Edge) (n : ℕ) → length all ≤ n → ((a b : ℕ) → Contains es (record { from = a; to = b }) ↔ ((a < n) × Names (links_in k all) a b)) → AreEdges (links_in k all) es
  edges_whole es n past was a b = (
    λ c. ((was a b).0 c).1,
    λ m. (was a b).1 (let l = link_from a b m in omega arith, m),
  )

  module _ (es : List Edge) (are : AreEdges (links_in k all) es) where
    pub below_by : IsClosed (links_in k all) → All (λ (e : Edge). (e.from < length all) × (e.to < length all)) es
    below_by closed i d l =
        let e = get_or es i d in
        let m = (are e.from e.to).0 (Contains-get_or es i d l) in
        (link_from e.from e.to m, by_there (λ l. targets k l.fields) all e.to (closed e.from e.to m))

    ends : All (λ (e : Edge). (e.from < length all) × (e.to < length all)) es → (a b : ℕ) → Names (links_in k all) a b → b < length all
    ends below a b m = (All-contains (λ (e : Edge). (e.from < length all) × (e.to < length all)) es (record { from = a; to = b }) below ((are a b).1 m)).1

    pub closed_by : All (λ (e : Edge). (e.from < length all) × (e.to < length all)) es → IsClosed (links_in k all)
    closed_by below a b m = there_by (λ l. targets k l.fields) all b (ends below a b m)

    module _ (below : All (λ (e : Edge). (e.from < length all) × (e.to < length all)) es) (numbers : List ℕ) (parts : ArePartsOf es (all_below (length all)) numbers) where
      node : (i : ℕ) → i < length all → slice_index (all_below (length all)) i ≡ i
      node i l = get_or-range_with_len 0 (length all) i 0 l ∙ omega arith

      count : length (all_below (length all)) ≡ length all
      count = length-range_with_len 0 (length all)

      one_number : (a b : ℕ) → Names (links_in k all) a b → (b < length all) × (slice_index numbers a ≡ slice_index numbers b)
      one_number a b m =
          let la = link_from a b m in
          let lb = ends below a b m in
          let c = count in
          let J = EdgeJoined es in
          let path : Connected J a b = steps J a b b (inl ((are a b).1 m)) (stays J b) in
          (lb, (parts.exact a b (omega arith) (omega arith)).1 (subst (λ x. Connected J x (slice_index (all_below (length all)) b)) (sym (node a la)) (subst (λ x. Connected J a x) (sym (node b lb)) path)))

      by_links : (a b : ℕ) → EdgeJoined es a b → Joined (links_in k all) a b
      by_links a b j = ⊎_elim (λ c. inl ((are a b).0 c)) (λ c. inr ((are b a).0 c)) j

      one_part : (a b : ℕ) → a < length all → b < length all → slice_index numbers a ≡ slice_index numbers b → Connected (Joined (links_in k all)) a b
      one_part a b la lb same =
          let J = Joined (links_in k all) in
          let c = count in
          let path = carries (EdgeJoined es) J by_links _ _ ((parts.exact a b (omega arith) (omega arith)).0 same) in
          subst (λ x. Connected J x b) (node a la) (subst (λ x. Connected J (slice_index (all_below (length all)) a) x) (node b lb) path)

      pub parts_by : AreParts k all numbers
      parts_by = record {
        one_each = parts.one_each ∙ count;
        below = λ i d l.
            let c = count in
            let o = parts.one_each in
            let f = (parts.first i (omega arith)).0 in
            let e : get_or numbers i d ≡ slice_index numbers i = get_or_default numbers i d 0 l in omega arith;
        first = λ a l. parts.first a (let c = count in omega arith);
        together = one_number;
        joined = one_part;
      }

  module _ (parts : List ℕ) (are : AreParts k all parts) (p : ℕ) (m : Contents R D) (has : HasPart all parts p m) where
    links_dealt : (b : Bool) (o : Option (Loaded R D)) → option_map (targets k) (option_map (λ (l : Loaded R D). l.fields) (cond b o None)) ≡ cond b (option_map (λ l. targets k l.fields) o) None
    links_dealt true None = refl
    links_dealt true (Some l) = refl
    links_dealt false o = refl

    links_at : (q : ℕ) → links_of k m.records q ≡ cond (slice_index parts q == p) (links_in k all q) None
    links_at q = ap (option_map (targets k)) (has.records q) ∙ links_dealt (slice_index parts q == p) (slice_get all q)

    own : (q : ℕ) → slice_index parts q ≡ p → links_of k m.records q ≡ links_in k all q
    own q e = links_at q ∙ ap (λ b. cond b (links_in k all q) None) (same_number (slice_index parts q) p e)

    of_part : (q : ℕ) → IsSome (links_of k m.records q) → slice_index parts q ≡ p
    of_part q s =
        ⊎_elim
        (λ (h : slice_index parts q ≡ p). h)
        (λ a. absurd (none_there (links_of k m.records q) (links_at q ∙ ap (λ b. cond b (links_in k all q) None) (other_number (slice_index parts q) p a)) s))
        (cases_eq (slice_index parts q) p)

    within : (q : ℕ) → IsSome (links_of k m.records q) → q < length all
    within q s = by_there (λ l. targets k l.fields) all q (ap is_some (sym (own q (of_part q s))) ∙ s)

    goes : (a b : ℕ) → slice_index parts a ≡ p → Joined (links_in k all) a b → Joined (links_of k m.records) a b × (slice_index parts b ≡ p)
    goes a b e j =
        ⊎_elim
        (λ n. (inl (n.0, own a e ∙ n.1, n.2), sym (are.together a b n).1 ∙ e))
        (λ n. let f = (are.together b a n).1 ∙ e in (inr (n.0, own b f ∙ n.1, n.2), f))
        j

    pub dealt_part : IsPart (links_of k m.records)
    dealt_part = record {
      one_part = λ a b sa sb.
          carries_within (Joined (links_in k all)) (Joined (links_of k m.records)) (λ q. slice_index parts q ≡ p) goes a b (of_part a sa)
          (are.joined a b (within a sa) (within b sb) (of_part a sa ∙ sym (of_part b sb)));
      closed = λ a b n.
          let e = of_part a (ap is_some n.1) in
          let t = are.together a b (n.0, sym (own a e) ∙ n.1, n.2) in
          ap is_some (own b (sym t.1 ∙ e)) ∙ there_by (λ l. targets k l.fields) all b t.0;
    }

  pub dealt_parts : (parts : List ℕ) (sets : List (Contents R D)) → AreParts k all parts → AreDealt all parts sets → All (λ (m : Contents R D). IsPart (links_of k m.records)) sets
  dealt_parts parts sets are dealt i d l =
      let w : i < length all = let e = dealt.one_each in omega arith in
      subst (λ (m : Contents R D). IsPart (links_of k m.records)) (get_or_default sets i nothing d l) (dealt_part parts are i (get_or sets i nothing) (dealt.each i w))
