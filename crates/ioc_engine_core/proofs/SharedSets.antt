-- Records that share a set at the end, and the links that join them.
use Rattle.std.proofs.Common.{◌≡◌, ◌<◌, ℕ, List, [], ◌∷◌, Option, Some, None, refl, sym, ap, ◌∙◌, subst, inl, inr, ⊎_elim, length}
use Rattle.std.proofs.Math.ListN.{get_or}
use Rattle.std.proofs.lemmas.Bool.{cases_order}
use Rattle.std.proofs.lemmas.List.{get_or_default}
use Rattle.std.specs.Prelude.{IsSome, All, Contains}
use Rattle.std.specs.Option.{option_map}
use Rattle.std.specs.FinMap.{get}
use Rattle.ioc_graph.specs.Paths.{IsPath, Connected}
use Rattle.ioc_record.specs.RecordRules.{RecordRules, targets}
use Rattle.ioc_set_records.specs.Joined.{Links, links_of, Names, Joined}
use Rattle.ioc_store.specs.World.{World}
use Rattle.ioc_topology.specs.Gathered.{HoldEach}
use Rattle.ioc_journaled_set.specs.Copies.{IsIn}
use Rattle.ioc_journaled_set.specs.Holding.{HeldView, IsSoundlyHeld, numbers_of}
use Rattle.ioc_journaled_set.proofs.Keys.{key_there, there_key}
use Rattle.ioc_engine_core.specs.Ended.{ShareASet}

some_before : {X Y : Type 0} (f : X → Y) (o : Option X) (y : Y) → option_map f o ≡ Some y → IsSome o
some_before f None y is = cc
some_before f (Some x) y is = refl

some_map : {X Y : Type 0} (f : X → Y) (o : Option X) → IsSome o → IsSome (option_map f o)
some_map f None has = cc
some_map f (Some x) has = refl

some_unmap : {X Y : Type 0} (f : X → Y) (o : Option X) → IsSome (option_map f o) → IsSome o
some_unmap f None has = cc
some_unmap f (Some x) has = refl

along_too : (f g : ℕ → ℕ → Type 0) → ((a b : ℕ) → f a b → g a b) → (a : ℕ) (over : List ℕ) (b : ℕ) → IsPath f a over b → IsPath g a over b
along_too f g to a [] b path = path
along_too f g to a (c ∷ cs) b path = (to a c path.0, along_too f g to c cs b path.1)

module _ {R D : Type 0} (k : RecordRules R) (base m : World R) (sets : List (HeldView R D)) (count : ℕ) (sound : All (IsSoundlyHeld k base) sets) (in_all : All (IsIn m) sets)
    (each : HoldEach numbers_of sets count) (known : (n : ℕ) → IsSome (get m.records n) → n < count) where
  abbrev pub all_links : Links
  all_links = links_of k m.records

  same_links : (h : HeldView R D) → IsIn m h → (a : ℕ) → IsSome (get h.set.records a) → all_links a ≡ links_of k h.set.records a
  same_links h inside a has = ap (option_map (targets k)) (inside.records a has)

  out_of : (h : HeldView R D) → IsIn m h → (a b : ℕ) → Names (links_of k h.set.records) a b → Names all_links a b
  out_of h inside a b n = (n.0, same_links h inside a (some_before (targets k) (get h.set.records a) n.0 n.1) ∙ n.1, n.2)

  into : (h : HeldView R D) → IsIn m h → (a b : ℕ) → IsSome (get h.set.records a) → Names all_links a b → Names (links_of k h.set.records) a b
  into h inside a b has n = (n.0, sym (same_links h inside a has) ∙ n.1, n.2)

  -- The links of a set join its records.
  pub are_joined : (p q : ℕ) → ShareASet sets p q → Connected (Joined all_links) p q
  are_joined p q s =
      let h = s.1 in
      let held = subst (IsSoundlyHeld k base) s.3 (sound s.0 h s.2) in
      let inside = subst (IsIn m) s.3 (in_all s.0 h s.2) in
      let path = held.sound.part.one_part p q (some_map (targets k) (get h.set.records p) (key_there h.set.records p s.4.0)) (some_map (targets k) (get h.set.records q) (key_there h.set.records q s.4.1)) in (
        path.0,
        along_too (Joined (links_of k h.set.records)) (Joined all_links) (λ a b. ⊎_elim (λ n. inl (out_of h inside a b n)) (λ n. inr (out_of h inside b a n))) p path.0 q path.1,
      )

  -- A record shares a set with each that it names.
  named_with : (a b : ℕ) → Names all_links a b → ShareASet sets a b
  named_with a b n =
      let s = each.each a (known a (some_before (targets k) (get m.records a) n.0 n.1)) in
      let h = s.1 in
      let held = subst (IsSoundlyHeld k base) s.3 (sound s.0 h s.2) in
      let inside = subst (IsIn m) s.3 (in_all s.0 h s.2) in
      let there = into h inside a b (key_there h.set.records a s.4) n in
      (s.0, h, s.2, s.3, (s.4, there_key h.set.records b (some_unmap (targets k) (get h.set.records b) (held.sound.part.closed a b there))))

  turned : (p q : ℕ) → ShareASet sets p q → ShareASet sets q p
  turned p q s = (s.0, s.1, s.2, s.3, (s.4.1, s.4.0))

  -- A record is in one set alone.
  apart : (i j a : ℕ) (g h : HeldView R D) → i < j → j < length sets → get_or sets i g ≡ g → get_or sets j h ≡ h → Contains (numbers_of g) a → Contains (numbers_of h) a → ⊥
  apart i j a g h lt within is other ca cb =
      each.once i j g lt within a a (subst (λ x. Contains (numbers_of x) a) (sym is) ca)
      (subst (λ x. Contains (numbers_of x) a) (sym (get_or_default sets j g h within ∙ other)) cb) refl

  one_set : (p a q : ℕ) → ShareASet sets p a → ShareASet sets a q → ShareASet sets p q
  one_set p a q s t = ⊎_elim
      (λ (e : s.0 ≡ t.0).
      let same : s.1 ≡ t.1 = sym s.3 ∙ (ap (λ i. get_or sets i s.1) e ∙ (get_or_default sets t.0 s.1 t.1 t.2 ∙ t.3)) in
      (t.0, t.1, t.2, t.3, (subst (λ x. Contains (numbers_of x) p) same s.4.0, t.4.1)))
      (⊎_elim
      (λ (lt : s.0 < t.0). absurd (apart s.0 t.0 a s.1 t.1 lt t.2 s.3 t.3 s.4.1 t.4.0))
      (λ (gt : t.0 < s.0). absurd (apart t.0 s.0 a t.1 s.1 gt s.2 t.3 s.3 t.4.0 s.4.1)))
      (cases_order s.0 t.0)

  followed : (p a : ℕ) → ShareASet sets p a → (over : List ℕ) (b : ℕ) → IsPath (Joined all_links) a over b → ShareASet sets p b
  followed p a s [] b path = subst (ShareASet sets p) path s
  followed p a s (c ∷ cs) b path =
      followed p c (one_set p a c s (⊎_elim (λ n. named_with a c n) (λ n. turned c a (named_with c a n)) path.0)) cs b path.1

  -- Records that links join share a set.
  pub share_a_set : (p q : ℕ) → p < count → Connected (Joined all_links) p q → ShareASet sets p q
  share_a_set p q lt path =
      let s = each.each p lt in
      followed p p (s.0, s.1, s.2, s.3, (s.4, s.4)) path.0 q path.1
