-- The items of a list in pieces of 256.
use Rattle.std.proofs.Common.{◌≡◌, ℕ, zero, suc, ◌+◌, ◌*◌, ◌<◌, ◌≤◌, List, [], ◌∷◌, ◌++◌, length, slice_index_or, All, flat_map, Vec, refl, sym, ap, ◌∙◌, arith, subst, length-append, append_assoc, append-nil}
use Rattle.std.specs.Prelude.{slice_get, vec_capacity}
use Rattle.std.proofs.lemmas.List.{get_or_append_left}
use Rattle.std.proofs.Math.Seq.{get_or-append_seam}
use Rattle.std.proofs.lemmas.List.Elements.{All-push}
use Rattle.std.proofs.lemmas.Grind.{flat_map-append}
use Rattle.ioc_journal.specs.Pieces.{IsFull, IsSpare, ArePieces, items_in}

front : {V : Type 0} (P : V → Type 0) (xs : List V) (x : V) → All P (xs ++ x ∷ []) → All P xs
front P xs x h k d lt = let long = length-append xs (x ∷ []) in subst P (get_or_append_left xs (x ∷ []) d k lt) (h k d (omega (arith, long, lt)))

last : {V : Type 0} (P : V → Type 0) (xs : List V) (x : V) → All P (xs ++ x ∷ []) → P x
last P xs x h = let long = length-append xs (x ∷ []) in subst P (get_or-append_seam xs x [] x) (h (length xs) x (omega (arith, long)))

module _ {X : Type 0} where
  left : (xs ys : List X) (k : ℕ) → k < length xs → slice_get (xs ++ ys) k ≡ slice_get xs k
  left [] ys k lt = absurd (omega (arith, lt))
  left (x ∷ xs) ys zero lt = refl
  left (x ∷ xs) ys (suc k) lt = left xs ys k (omega (arith, lt))

  right : (xs ys : List X) (k : ℕ) → slice_get (xs ++ ys) (length xs + k) ≡ slice_get ys k
  right [] ys k = let none : List X = [] in let e : length none + k ≡ k = omega arith in ap (slice_get ys) e
  right (x ∷ xs) ys k = let e : length (x ∷ xs) + k ≡ suc (length xs + k) = omega arith in ap (slice_get (x ∷ (xs ++ ys))) e ∙ right xs ys k

module _ {X Z : Type 0} where
  abbrev flat : List (Vec X Z) → List X
  flat vs = flat_map (λ v. v.items) vs

  tail : (v : Vec X Z) (vs : List (Vec X Z)) → All IsFull (v ∷ vs) → All IsFull vs
  tail v vs h k d lt = h (suc k) d (omega (arith, lt))

  pub length_full : (vs : List (Vec X Z)) → All IsFull vs → length (flat_map (λ v. v.items) vs) ≡ 256 * length vs
  length_full [] h = refl
  length_full (v ∷ vs) h =
      let one : length v.items ≡ 256 = h 0 v (omega arith) in
      let rest = length_full vs (tail v vs h) in
      let both = length-append v.items (flat vs) in
      omega (arith, one, rest, both)

  -- The number of items.
  pub length_items : (vs : List (Vec X Z)) (current : List X) → All IsFull vs → length (items_in vs current) ≡ 256 * length vs + length current
  length_items vs current h = let a = length-append (flat vs) current in let b = length_full vs h in omega (arith, a, b)

  -- An item of a full piece.
  pub at_full : (vs : List (Vec X Z)) (current : List X) → All IsFull vs → (i j : ℕ) (d : Vec X Z) → i < length vs → j < 256
      → slice_get (items_in vs current) (256 * i + j) ≡ slice_get ((slice_index_or vs i d).items) j
  at_full [] current h i j d lt within = absurd (omega (arith, lt))
  at_full (v ∷ vs) current h zero j d lt within =
      let one : length v.items ≡ 256 = h 0 v (omega arith) in
      let here : 256 * 0 + j ≡ j = omega arith in
      let long = length-append v.items (flat vs) in
      ap (slice_get ((v.items ++ flat vs) ++ current)) here ∙ (left (v.items ++ flat vs) current j (omega (arith, long, one, within)) ∙ left v.items (flat vs) j (omega (arith, one, within)))
  at_full (v ∷ vs) current h (suc i) j d lt within =
      let one : length v.items ≡ 256 = h 0 v (omega arith) in
      let there : 256 * suc i + j ≡ length v.items + (256 * i + j) = omega (arith, one) in
      ap (λ (l : List X). slice_get l (256 * suc i + j)) (append_assoc v.items (flat vs) current)
      ∙ (ap (slice_get (v.items ++ (flat vs ++ current))) there ∙ (right v.items (flat vs ++ current) (256 * i + j) ∙ at_full vs current (tail v vs h) i j d (omega (arith, lt)) within))

  -- An item of the piece that is being filled.
  pub at_current : (vs : List (Vec X Z)) (current : List X) → All IsFull vs → (j : ℕ) → slice_get (items_in vs current) (256 * length vs + j) ≡ slice_get current j
  at_current vs current h j =
      let many = length_full vs h in
      let at : 256 * length vs + j ≡ length (flat vs) + j = omega (arith, many) in
      ap (slice_get (flat vs ++ current)) at ∙ right (flat vs) current j

  -- A full piece that is put behind the others, where the next one has no items.
  pub turned : (vs : List (Vec X Z)) (v : Vec X Z) (next : List X) → length next ≡ 0 → items_in (vs ++ v ∷ []) next ≡ items_in vs v.items
  turned vs v [] none = append-nil (flat (vs ++ v ∷ [])) ∙ (flat_map-append (λ (v : Vec X Z). v.items) vs (v ∷ []) ∙ ap (λ l. flat vs ++ l) (append-nil v.items))
  turned vs v (x ∷ xs) none = absurd (omega (arith, none))

  module _ {Y : Type 0} (full spare : Vec (Vec X Z) Y) (current : Vec X Z) (given limit : ℕ) (h : ArePieces full spare current given limit) where
    pub more_pieces : length current.items ≡ 256 → length (items_in full.items current.items) < given → (length full.items < vec_capacity full) × (0 < length spare.items)
    more_pieces whole more =
        let many = length_items full.items current.items h.whole in
        let room = h.room in
        let most = h.most.0 in
        let lists = h.lists.0 in
        (omega (arith, whole, more, many, most, lists), omega (arith, whole, more, many, room))

    pub turned_pieces : (full' spare' : Vec (Vec X Z) Y) (next : Vec X Z) → length current.items ≡ 256
        → full'.items ≡ full.items ++ current ∷ [] → spare.items ≡ spare'.items ++ next ∷ []
        → vec_capacity full' ≡ vec_capacity full → vec_capacity spare' ≡ vec_capacity spare → ArePieces full' spare' next given limit
    turned_pieces full' spare' next whole is_full is_spare room room' =
        let empty = subst (All IsSpare) is_spare h.empty in
        let taken = last IsSpare spare'.items next empty in
        let more : length full'.items ≡ length full.items + 1 = ap length is_full ∙ length-append full.items (current ∷ []) in
        let fewer : length spare.items ≡ length spare'.items + 1 = ap length is_spare ∙ length-append spare'.items (next ∷ []) in
        let same : length full.items + (1 + length spare.items) ≡ length full'.items + (1 + length spare'.items) = omega (arith, more, fewer) in
        record {
          whole = subst (All IsFull) (sym is_full) (All-push IsFull full.items current h.whole whole);
          part = ((let none = taken.0 in omega (arith, none)), taken.1);
          empty = front IsSpare spare'.items next empty;
          room = subst (λ (n : ℕ). given ≤ 256 * n) same h.room;
          few = (let few = h.few in omega (arith, few, more, fewer));
          last = λ lt. subst (λ (n : ℕ). given ≡ 256 * n) same (h.last lt);
          most = h.most;
          lists = (subst (λ (n : ℕ). limit < 256 * n) (sym room) h.lists.0, subst (λ (n : ℕ). limit < 256 * n) (sym room') h.lists.1);
        }

    pub none_taken : (spare' : List (Vec X Z)) (next : Vec X Z) → spare.items ≡ spare' ++ next ∷ [] → length next.items ≡ 0
    none_taken spare' next is = (last IsSpare spare' next (subst (All IsSpare) is h.empty)).0

    pub pushed_pieces : (pushed : Vec X Z) → length pushed.items ≤ 256 → vec_capacity pushed ≡ vec_capacity current → ArePieces full spare pushed given limit
    pushed_pieces pushed few room = record {
      whole = h.whole;
      part = (few, subst (λ (n : ℕ). 256 ≤ n) (sym room) h.part.1);
      empty = h.empty;
      room = h.room;
      few = h.few;
      last = h.last;
      most = h.most;
      lists = h.lists;
    }

    -- There is room for all full pieces behind the spare ones.
    pub room_behind : 0 < length full.items → length spare.items < vec_capacity spare
    room_behind some =
        let few = h.few in
        let lists = h.lists.1 in
        omega (arith, some, few, lists)

    -- The last full piece, without its items, is put behind the spare ones.
    pub spared_pieces : (full' spare' : Vec (Vec X Z) Y) (piece emptied : Vec X Z) → full.items ≡ full'.items ++ piece ∷ [] → spare'.items ≡ spare.items ++ emptied ∷ []
        → length emptied.items ≡ 0 → vec_capacity emptied ≡ vec_capacity piece → length piece.items ≤ vec_capacity piece
        → vec_capacity full' ≡ vec_capacity full → vec_capacity spare' ≡ vec_capacity spare → ArePieces full' spare' current given limit
    spared_pieces full' spare' piece emptied is_full is_spare none kept within room room' =
        let whole = subst (All IsFull) is_full h.whole in
        let long = last IsFull full'.items piece whole in
        let fewer : length full.items ≡ length full'.items + 1 = ap length is_full ∙ length-append full'.items (piece ∷ []) in
        let more : length spare'.items ≡ length spare.items + 1 = ap length is_spare ∙ length-append spare.items (emptied ∷ []) in
        let same : length full.items + (1 + length spare.items) ≡ length full'.items + (1 + length spare'.items) = omega (arith, more, fewer) in
        record {
          whole = front IsFull full'.items piece whole;
          part = h.part;
          empty = subst (All IsSpare) (sym is_spare) (All-push IsSpare spare.items emptied h.empty (none, omega (arith, kept, within, long)));
          room = subst (λ (n : ℕ). given ≤ 256 * n) same h.room;
          few = (let few = h.few in omega (arith, few, more, fewer));
          last = λ lt. subst (λ (n : ℕ). given ≡ 256 * n) same (h.last lt);
          most = h.most;
          lists = (subst (λ (n : ℕ). limit < 256 * n) (sym room) h.lists.0, subst (λ (n : ℕ). limit < 256 * n) (sym room') h.lists.1);
        }

    -- Pieces without items.
    pub emptied_pieces : (current' : Vec X Z) → length current'.items ≡ 0 → vec_capacity current' ≡ vec_capacity current → ArePieces full spare current' given limit
    emptied_pieces current' none room = record {
      whole = h.whole;
      part = (omega (arith, none), subst (λ (n : ℕ). 256 ≤ n) (sym room) h.part.1);
      empty = h.empty;
      room = h.room;
      few = h.few;
      last = h.last;
      most = h.most;
      lists = h.lists;
    }

  -- Without full pieces and without items in the current one there are none.
  pub no_items : (full : List (Vec X Z)) (current : List X) → length full ≡ 0 → length current ≡ 0 → items_in full current ≡ []
  no_items [] [] none none' = refl
  no_items [] (x ∷ xs) none none' = absurd (omega (arith, none'))
  no_items (v ∷ vs) current none none' = absurd (omega (arith, none))
