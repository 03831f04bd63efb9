-- Devices are bound one after another.
use Rattle.std.proofs.Common.{◌≡◌, ◌<◌, ℕ, zero, suc, ◌+◌, Bool, true, false, cond, not, ◌&&◌, nat_eq, nat_lt, List, [], ◌∷◌, ◌++◌, length, Option, Some, None, refl, sym, ap, ◌∙◌, subst, append-nil, append_assoc, ltb-true, arith}
use Rattle.std.specs.Prelude.{is_some, slice_index_or, slice_set}
use Rattle.std.specs.Prelude.{replicate}
use Rattle.std.proofs.lemmas.List.{get_or-set_same, get_or-set_other, length-set, length-replicate}
use Rattle.std.proofs.lemmas.Bool.{eqb-true, eqb-false, ltb-false}
use Rattle.ioc_dbfile.specs.Finished.{by_place}
use Rattle.ioc_engine.specs.Binding.{is_number, device_of, is_first, spare_of, is_free, bound_to, spare_with}

module _ {D : Type 0} where
  abbrev or_device : Option D → Option D → Option D
  or_device None other = other
  or_device (Some d) other = Some d

  cond_or : (b : Bool) (x : D) (o p r : Option D) → o ≡ or_device p r → cond b (Some x) o ≡ or_device (cond b (Some x) p) r
  cond_or true x o p r e = refl
  cond_or false x o p r e = e

module _ {K D : Type 0} where
  cond_spare : (b : Bool) (e : K × D) (l m r : List (K × D)) → l ≡ m ++ r → cond b l (e ∷ l) ≡ cond b m (e ∷ m) ++ r
  cond_spare true e l m r h = h
  cond_spare false e l m r h = ap (λ (t : List (K × D)). e ∷ t) h

  cond_kept : (b : Bool) (l r : List (K × D)) → cond b l (l ++ r) ≡ l ++ cond b [] r
  cond_kept true l r = sym (append-nil l)
  cond_kept false l r = refl

  module _ (owner : K → Option ℕ) (count : ℕ) where
    device_append : (ds : List (K × D)) (d : K × D) (n : ℕ) → device_of owner (ds ++ d ∷ []) n ≡ or_device (device_of owner ds n) (cond (is_number n (owner d.0)) (Some d.1) None)
    device_append [] d n = refl
    device_append (e ∷ es) d n = cond_or (is_number n (owner e.0)) e.1 _ _ _ (device_append es d n)

    spare_append : (before ds : List (K × D)) (d : K × D) → spare_of owner count before (ds ++ d ∷ []) ≡ spare_of owner count before ds ++ spare_of owner count (before ++ ds) (d ∷ [])
    spare_append before [] d = ap (λ (b : List (K × D)). spare_of owner count b (d ∷ [])) (sym (append-nil before))
    spare_append before (e ∷ es) d =
        let h = spare_append (before ++ e ∷ []) es d in
        let same : (before ++ e ∷ []) ++ es ≡ before ++ e ∷ es = append_assoc before (e ∷ []) es in
        cond_spare (is_first owner count before (owner e.0)) e _ _ _ (h ∙ ap (λ (b : List (K × D)). spare_of owner count (before ++ e ∷ []) es ++ spare_of owner count b (d ∷ [])) same)

    -- The devices that are bound once these have been gone through.
    pub record AreBound (gone : List (K × D)) (bound : List (Option D)) (spare : List (K × D)) : Type 0 where
      pub count_is : length bound ≡ count
      pub each : (n : ℕ) → n < count → slice_index_or bound n None ≡ device_of owner gone n
      pub spare_is : spare ≡ spare_of owner count [] gone

    free_first : (gone : List (K × D)) (bound : List (Option D)) (m : ℕ) → ((n : ℕ) → n < count → slice_index_or bound n None ≡ device_of owner gone n) → (b : Bool) → nat_lt m count ≡ b
        → b && not (is_some (slice_index_or bound m None)) ≡ b && not (is_some (device_of owner gone m))
    free_first gone bound m each false is = refl
    free_first gone bound m each true is = ap (λ (o : Option D). not (is_some o)) (each m (ltb-true m count is))

    free_is_first : (gone : List (K × D)) (bound : List (Option D)) (spare : List (K × D)) (m : ℕ) → AreBound gone bound spare → is_free bound m ≡ is_first owner count gone (Some m)
    free_is_first gone bound spare m are =
        let e = free_first gone bound m are.each (nat_lt m count) refl in
        ap (λ (n : ℕ). nat_lt m n && not (is_some (slice_index_or bound m None))) are.count_is ∙ e

    spare_step : (gone : List (K × D)) (bound : List (Option D)) (spare : List (K × D)) (d : K × D) (o : Option ℕ) → AreBound gone bound spare
        → spare_with o d bound spare ≡ spare ++ cond (is_first owner count gone o) [] (d ∷ [])
    spare_step gone bound spare d None are = refl
    spare_step gone bound spare d (Some m) are =
        cond_kept (is_free bound m) spare (d ∷ []) ∙ ap (λ (b : Bool). spare ++ cond b [] (d ∷ [])) (free_is_first gone bound spare m are)

    set_count : (b : Bool) (bound : List (Option D)) (m : ℕ) (x : D) → length (cond b (slice_set bound m (Some x)) bound) ≡ length bound
    set_count true bound m x = length-set bound m (Some x)
    set_count false bound m x = refl

    bound_count : (o : Option ℕ) (x : D) (bound : List (Option D)) → length (bound_to o x bound) ≡ length bound
    bound_count None x bound = refl
    bound_count (Some m) x bound = set_count (is_free bound m) bound m x

    or_same : (p q : Option D) (x : D) → p ≡ q → is_some p ≡ true → p ≡ or_device q (Some x)
    or_same p None x e s = cc
    or_same p (Some y) x e s = e

    or_none : (p q : Option D) → p ≡ q → p ≡ or_device q None
    or_none p None e = e
    or_none p (Some y) e = e

    or_new : (q : Option D) (x : D) → is_some q ≡ false → Some x ≡ or_device q (Some x)
    or_new None x e = refl
    or_new (Some y) x e = cc

    module _ (gone : List (K × D)) (bound : List (Option D)) (spare : List (K × D)) (x : D) (m n : ℕ) (are : AreBound gone bound spare) (lt : n < count) where
      each_set : (b s e : Bool) → nat_lt m (length bound) ≡ b → is_some (slice_index_or bound m None) ≡ s → nat_eq m n ≡ e
          → slice_index_or (cond (b && not s) (slice_set bound m (Some x)) bound) n None ≡ or_device (device_of owner gone n) (cond e (Some x) None)
      each_set true false true within empty is =
          let same : m ≡ n = eqb-true m n is in
          let none : is_some (device_of owner gone n) ≡ false = subst (λ (o : Option D). is_some o ≡ false) (are.each n lt) (subst (λ (i : ℕ). is_some (slice_index_or bound i None) ≡ false) same empty) in
          subst (λ (i : ℕ). slice_index_or (slice_set bound m (Some x)) i None ≡ Some x) same (get_or-set_same bound m (Some x) None (ltb-true m (length bound) within)) ∙ or_new (device_of owner gone n) x none
      each_set true false false within empty is =
          get_or-set_other bound m n (Some x) None (λ h. absurd (eqb-false m n is (sym h))) ∙ or_none _ _ (are.each n lt)
      each_set true true true within full is =
          let same : m ≡ n = eqb-true m n is in
          or_same _ _ x (are.each n lt) (subst (λ (i : ℕ). is_some (slice_index_or bound i None) ≡ true) same full)
      each_set false s true beyond full is =
          let same : m ≡ n = eqb-true m n is in
          let le = ltb-false m (length bound) beyond in
          absurd (omega (arith, same, le, lt, are.count_is))
      each_set true true false within full is = or_none _ _ (are.each n lt)
      each_set false s false within full is = or_none _ _ (are.each n lt)

    each_step : (gone : List (K × D)) (bound : List (Option D)) (spare : List (K × D)) (d : K × D) (o : Option ℕ) → AreBound gone bound spare → (n : ℕ) → n < count
        → slice_index_or (bound_to o d.1 bound) n None ≡ or_device (device_of owner gone n) (cond (is_number n o) (Some d.1) None)
    each_step gone bound spare d None are n lt = or_none _ _ (are.each n lt)
    each_step gone bound spare d (Some m) are n lt = each_set gone bound spare d.1 m n are lt (nat_lt m (length bound)) (is_some (slice_index_or bound m None)) (nat_eq m n) refl refl refl

    -- One more device is bound.
    pub one_more : (gone : List (K × D)) (bound : List (Option D)) (spare : List (K × D)) (d : K × D) → AreBound gone bound spare
        → AreBound (gone ++ d ∷ []) (bound_to (owner d.0) d.1 bound) (spare_with (owner d.0) d bound spare)
    one_more gone bound spare d are = record {
      count_is = bound_count (owner d.0) d.1 bound ∙ are.count_is;
      each = λ n lt. each_step gone bound spare d (owner d.0) are n lt ∙ sym (device_append gone d n);
      spare_is = spare_step gone bound spare d (owner d.0) are ∙ ap (λ (l : List (K × D)). l ++ cond (is_first owner count gone (owner d.0)) [] (d ∷ [])) are.spare_is ∙ sym (spare_append [] gone d);
    }

    abbrev no_device : Option D
    no_device = None

    none_at : (n : ℕ) (i : ℕ) → slice_index_or (replicate n no_device) i no_device ≡ no_device
    none_at zero i = refl
    none_at (suc n) zero = refl
    none_at (suc n) (suc i) = none_at n i

    -- At first no device is bound.
    pub none_yet : AreBound [] (replicate count no_device) []
    none_yet = record { count_is = length-replicate count no_device; each = λ n lt. none_at count n; spare_is = refl }

-- As many records have devices of their own.
pub length-by_place : {A : Type 0} (f : ℕ → A → A) (n : ℕ) (xs : List A) → length (by_place f n xs) ≡ length xs
length-by_place f n [] = refl
length-by_place f n (x ∷ xs) = let e = length-by_place f (n + 1) xs in omega (arith, e)
