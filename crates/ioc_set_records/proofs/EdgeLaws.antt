-- The edges of links, one after another.
use Rattle.std.proofs.Common.{◌≡◌, ◌≢◌, ℕ, zero, suc, ◌+◌, ◌<◌, List, [], ◌∷◌, ◌++◌, length, take, set, get_or, refl, sym, ap, ◌∙◌, append_assoc, arith, get_or-set_same}
use Rattle.std.specs.Prelude.{Contains, Option}
use Rattle.std.proofs.lemmas.List.{take_more, map-append, append-nil, get_or-map}
use Rattle.std.proofs.Math.ListN.{length-map}
use Rattle.ioc_fields.specs.declared.field_no.FieldNo.{FieldNo}
use Rattle.ioc_graph.specs.declared.edges.Edge.{Edge}
use Rattle.ioc_dbcommon.specs.declared.link_field.LinkField.{LinkField}
use Rattle.ioc_dbcommon.specs.Links.{named_by_field, named_by_all}
use Rattle.ioc_record.specs.RecordRules.{RecordRules, targets}
use Rattle.ioc_set_records.specs.declared.slots.Slot.{Slot}
use Rattle.ioc_set_records.specs.Edges.{edges_from, edges_in, slot_relinked, slots_relinked}

named_push : (link : FieldNo → Option LinkField) (fs : List FieldNo) (f : FieldNo) → named_by_all link (fs ++ f ∷ []) ≡ named_by_all link fs ++ named_by_field (link f)
named_push link [] f = append-nil (named_by_field (link f))
named_push link (x ∷ fs) f = ap (λ z. named_by_field (link x) ++ z) (named_push link fs f) ∙ sym (append_assoc (named_by_field (link x)) (named_by_all link fs) (named_by_field (link f)))

-- The edges from a number to others are those from it to each of them.
pub from_edges : (n : ℕ) (ts : List ℕ) (a b : ℕ) → Contains (edges_from n ts) (record { from = a; to = b }) → (a ≡ n) × Contains ts b
from_edges n ts a b c =
    let e : Edge = record { from = a; to = b } in
    let f : ℕ → Edge = λ t. record { from = n; to = t } in
    let l : c.0 < length ts = let g = length-map ts f in let h = c.1 in omega arith in
    let is : f (get_or ts c.0 b) ≡ e = sym (get_or-map f ts c.0 b e l) ∙ c.2 in
    (sym (ap (λ (x : Edge). x.from) is), (c.0, l, ap (λ (x : Edge). x.to) is))

pub to_edges : (n : ℕ) (ts : List ℕ) (b : ℕ) → Contains ts b → Contains (edges_from n ts) (record { from = n; to = b })
to_edges n ts b c =
    let e : Edge = record { from = n; to = b } in
    let f : ℕ → Edge = λ t. record { from = n; to = t } in
    (c.0, let g = length-map ts f in let h = c.1 in omega arith, get_or-map f ts c.0 b e c.1 ∙ ap f c.2)

edges-append : (n : ℕ) (xs ys : List ℕ) → edges_from n (xs ++ ys) ≡ edges_from n xs ++ edges_from n ys
edges-append n xs ys = map-append (λ (t : ℕ). let e : Edge = record { from = n; to = t } in e) xs ys

-- The edge of one more link.
pub edges_more : (before es after : List Edge) (n : ℕ) (link : FieldNo → Option LinkField) (fs : List FieldNo) (i : ℕ) (d : FieldNo) → i < length fs
    → es ≡ before ++ edges_from n (named_by_all link (take i fs)) → after ≡ es ++ edges_from n (named_by_field (link (get_or fs i d)))
    → after ≡ before ++ edges_from n (named_by_all link (take (i + 1) fs))
edges_more before es after n link fs i d l was is =
    let f = get_or fs i d in
    is ∙ ap (λ z. z ++ edges_from n (named_by_field (link f))) was
    ∙ append_assoc before (edges_from n (named_by_all link (take i fs))) (edges_from n (named_by_field (link f)))
    ∙ ap (λ z. before ++ z) (sym (edges-append n (named_by_all link (take i fs)) (named_by_field (link f))))
    ∙ ap (λ z. before ++ edges_from n z) (sym (named_push link (take i fs) f))
    ∙ ap (λ z. before ++ edges_from n (named_by_all link z)) (sym (take_more fs i d l))

module _ {R D : Type 0} (k : RecordRules R) where
  edges_push : (ss : List (Slot R D)) (s : Slot R D) → edges_in k (ss ++ s ∷ []) ≡ edges_in k ss ++ edges_from s.number (targets k s.fields)
  edges_push [] s = append-nil (edges_from s.number (targets k s.fields))
  edges_push (t ∷ ss) s =
      ap (λ z. edges_from t.number (targets k t.fields) ++ z) (edges_push ss s)
      ∙ sym (append_assoc (edges_from t.number (targets k t.fields)) (edges_in k ss) (edges_from s.number (targets k s.fields)))

  -- The edges of one more slot.
  pub slot_more : (es after : List Edge) (ss : List (Slot R D)) (i : ℕ) (s : Slot R D) → i < length ss → get_or ss i s ≡ s → es ≡ edges_in k (take i ss)
      → after ≡ es ++ edges_from s.number (targets k s.fields) → after ≡ edges_in k (take (i + 1) ss)
  slot_more es after ss i s l at was is =
      is ∙ ap (λ z. z ++ edges_from s.number (targets k s.fields)) was ∙ sym (edges_push (take i ss) s)
      ∙ ap (λ z. edges_in k (take i ss ++ z ∷ [])) (sym at) ∙ ap (edges_in k) (sym (take_more ss i s l))

  -- The slots with one link set are those that the code writes.
  pub relinked_set : (ss : List (Slot R D)) (i : ℕ) (s : Slot R D) (f : FieldNo) (l : LinkField) → i < length ss → s ≡ get_or ss i s → slots_relinked k ss i f l ≡ set ss i (slot_relinked k s f l)
  relinked_set [] i s f l within at = absurd (omega arith)
  relinked_set (t ∷ ss) zero s f l within at = ap (λ (z : Slot R D). slot_relinked k z f l ∷ ss) (sym at)
  relinked_set (t ∷ ss) (suc i) s f l within at = ap (λ z. t ∷ z) (relinked_set ss i s f l (omega arith) at)

  pub length-relinked : (ss : List (Slot R D)) (i : ℕ) (f : FieldNo) (l : LinkField) → length (slots_relinked k ss i f l) ≡ length ss
  length-relinked [] i f l = refl
  length-relinked (t ∷ ss) zero f l = refl
  length-relinked (t ∷ ss) (suc i) f l = ap suc (length-relinked ss i f l)

  pub relinked_here : (ss : List (Slot R D)) (i : ℕ) (s : Slot R D) (f : FieldNo) (l : LinkField) → i < length ss → s ≡ get_or ss i s → get_or (slots_relinked k ss i f l) i (slot_relinked k s f l) ≡ slot_relinked k s f l
  relinked_here ss i s f l within at =
      ap (λ z. get_or z i (slot_relinked k s f l)) (relinked_set ss i s f l within at) ∙ get_or-set_same ss i (slot_relinked k s f l) (slot_relinked k s f l) within

  pub relinked_there : (ss : List (Slot R D)) (i j : ℕ) (s : Slot R D) (f : FieldNo) (l : LinkField) → j ≢ i → get_or ss j s ≡ s → get_or (slots_relinked k ss i f l) j s ≡ s
  relinked_there [] i j s f l apart at = refl
  relinked_there (t ∷ ss) zero zero s f l apart at = absurd (apart refl)
  relinked_there (t ∷ ss) zero (suc j) s f l apart at = at
  relinked_there (t ∷ ss) (suc i) zero s f l apart at = at
  relinked_there (t ∷ ss) (suc i) (suc j) s f l apart at = relinked_there ss i j s f l (λ e. apart (ap suc e)) at

-- The edge of one more link, given the fields and the link that the code reads.
pub after_one : (before es after : List Edge) (n : ℕ) (link : FieldNo → Option LinkField) (fs read : List FieldNo) (i : ℕ) (d : FieldNo) (o : Option LinkField) → read ≡ fs → i < length read
    → es ≡ before ++ edges_from n (named_by_all link (take i fs)) → o ≡ link (get_or read i d) → after ≡ es ++ edges_from n (named_by_field o)
    → after ≡ before ++ edges_from n (named_by_all link (take (i + 1) fs))
after_one before es after n link fs read i d o same l was got is =
    edges_more before es after n link fs i d (let e = ap length same in omega arith) was
    (is ∙ ap (λ z. es ++ edges_from n (named_by_field z)) (got ∙ ap (λ z. link (get_or z i d)) same))
