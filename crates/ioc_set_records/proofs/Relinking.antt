-- What a change of one link changes in the names relation.
use Rattle.std.proofs.Common.{◌≡◌, ◌≢◌, ◌⊎◌, ◌<◌, ℕ, List, [], ◌∷◌, Option, Some, None, true, get_or, refl, sym, ap, ◌∙◌, subst, inl, inr, ⊎_elim, arith}
use Rattle.std.specs.Prelude.{IsSome, is_some, Contains, slice_get, unwrap_or}
use Rattle.std.specs.Option.{option_map}
use Rattle.std.specs.FinMap.{get}
use Rattle.std.proofs.lemmas.Bool.{cases_eq}
use Rattle.std.proofs.lemmas.List.Elements.{Contains-append_left, Contains-append_right, Contains-append_cases}
use Rattle.ioc_fields.specs.declared.field_no.FieldNo.{FieldNo}
use Rattle.ioc_fields.specs.LinkFields.{place}
use Rattle.ioc_fields.specs.Names.{all_fields}
use Rattle.ioc_dbcommon.specs.declared.link_field.LinkField.{LinkField}
use Rattle.ioc_dbcommon.specs.declared.link_field.LinkUse.{LinkUse}
use Rattle.ioc_dbcommon.specs.declared.link_field.LinkUse.TheVariants.{Unused, OwnDevice, Absent, Standing}
use Rattle.ioc_dbcommon.specs.Links.{use_of, named_by, named_by_field, named_by_all}
use Rattle.ioc_record.specs.RecordRules.{RecordRules, targets}
use Rattle.ioc_record.specs.Laws.{IsLawful}
use Rattle.ioc_graph.specs.Paths.{Connected}
use Rattle.ioc_set_records.specs.Contents.{Records, record_at}
use Rattle.ioc_set_records.specs.Joined.{links_of, Names, Joined, IsClosed, IsPart, relinked}
use Rattle.ioc_set_records.proofs.MapLaws.{get_here, get_there}
use Rattle.ioc_set_records.proofs.LinkFields.{field_there, named_among}
use Rattle.ioc_set_records.proofs.Moves.{names_by, reaches}

same_field : (g h : FieldNo) → Some g ≡ Some h → g ≡ h
same_field g h e = cc

-- Two fields are equal, or not.
field_cases : (g h : FieldNo) → (g ≡ h) ⊎ (g ≢ h)
field_cases g h =
    ⊎_elim
    (λ e. inl (same_field g h (sym (place g).1 ∙ ap (slice_get all_fields) e ∙ (place h).1)))
    (λ n. inr (λ e. n (ap (λ f. (place f).0) e)))
    (cases_eq (place g).0 (place h).0)

-- What these links name is named after a change of one of them too, unless that one named it.
named_cases : (link after : FieldNo → Option LinkField) (field : FieldNo) → ((g : FieldNo) → g ≢ field → after g ≡ link g) → (fs : List FieldNo) (b : ℕ)
    → Contains (named_by_all link fs) b → Contains (named_by_all after fs) b ⊎ Contains (named_by_field (link field)) b
named_cases link after field others [] b c = inl c
named_cases link after field others (g ∷ fs) b c =
    ⊎_elim
    (λ here. ⊎_elim
    (λ e. inr (subst (λ (h : FieldNo). Contains (named_by_field (link h)) b) e here))
    (λ n. inl (Contains-append_left (named_by_field (after g)) (named_by_all after fs) b (subst (λ (o : Option LinkField). Contains (named_by_field o) b) (sym (others g n)) here)))
    (field_cases g field))
    (λ there. ⊎_elim
    (λ d. inl (Contains-append_right (named_by_field (after g)) (named_by_all after fs) b d))
    (λ d. inr d)
    (named_cases link after field others fs b there))
    (Contains-append_cases (named_by_field (link g)) (named_by_all link fs) b c)

-- The record that is named, if there is one.
abbrev pub only : List ℕ → ℕ → ℕ
only [] d = d
only (x ∷ xs) d = x

one_named : (w : LinkUse) (b d : ℕ) → Contains (named_by w) b → b ≡ only (named_by w) d
one_named (Standing t) b d c = sym (lone t.number b c)
  where
    lone : (x y : ℕ) → Contains (x ∷ []) y → x ≡ y
    lone x y (k, l, e) = sym (ap (λ i. get_or (x ∷ []) i y) (let z : k ≡ 0 = omega arith in z)) ∙ e
one_named Unused b d c = absurd (let l : c.0 < 0 = c.1 in omega arith)
one_named OwnDevice b d c = absurd (let l : c.0 < 0 = c.1 in omega arith)
one_named Absent b d c = absurd (let l : c.0 < 0 = c.1 in omega arith)

one_named_by : (o : Option LinkField) (b d : ℕ) → Contains (named_by_field o) b → b ≡ only (named_by_field o) d
one_named_by None b d c = absurd (let l : c.0 < 0 = c.1 in omega arith)
one_named_by (Some field) b d c = one_named (use_of field) b d c

same_list : (x y : List ℕ) → Some x ≡ Some y → x ≡ y
same_list x y e = cc

module _ {R : Type 0} (k : RecordRules R) (lawful : IsLawful k) (m : Records R) (n : ℕ) (x : R) (is : get m n ≡ Some x) (field : FieldNo) (link : LinkField) (has : is_some (k.link x field) ≡ true) where
  abbrev pub after : Records R
  after = relinked k m n field link

  abbrev changed : R
  changed = k.with_link x field link

  own : record_at k m n ≡ x
  own = ap (λ o. unwrap_or o k.missing) is

  pub get_own : get after n ≡ Some changed
  get_own = get_here m n (k.with_link (record_at k m n) field link) ∙ ap (λ (y : R). Some (k.with_link y field link)) own

  pub get_other : (q : ℕ) → q ≢ n → get after q ≡ get m q
  get_other q apart = get_there m n (k.with_link (record_at k m n) field link) q apart

  links_own : links_of k after n ≡ Some (targets k changed)
  links_own = ap (option_map (targets k)) get_own

  links_before : links_of k m n ≡ Some (targets k x)
  links_before = ap (option_map (targets k)) is

  links_other : (q : ℕ) → q ≢ n → links_of k after q ≡ links_of k m q
  links_other q apart = ap (option_map (targets k)) (get_other q apart)

  pub has_after : (q : ℕ) → IsSome (links_of k m q) → IsSome (links_of k after q)
  has_after q s = ⊎_elim (λ (e : q ≡ n). ap (λ i. is_some (links_of k after i)) e ∙ ap is_some links_own) (λ a. ap is_some (links_other q a) ∙ s) (cases_eq q n)

  pub has_before : (q : ℕ) → IsSome (links_of k after q) → IsSome (links_of k m q)
  has_before q s = ⊎_elim (λ (e : q ≡ n). ap (λ i. is_some (links_of k m i)) e ∙ ap is_some links_before) (λ a. ap is_some (sym (links_other q a)) ∙ s) (cases_eq q n)

  fields_same : k.link_fields changed ≡ k.link_fields x
  fields_same = lawful.link_set_link_fields x field link

  lost : (b : ℕ) → Contains (targets k x) b → Contains (targets k changed) b ⊎ Contains (named_by_field (k.link x field)) b
  lost b c =
      ⊎_elim
      (λ d. inl (subst (λ (fs : List FieldNo). Contains (named_by_all (k.link changed) fs) b) (sym fields_same) d))
      (λ d. inr d)
      (named_cases (k.link x) (k.link changed) field (λ g a. lawful.set_others x field g link a) (k.link_fields x) b c)

  gained : (b : ℕ) → Contains (targets k changed) b → Contains (targets k x) b ⊎ Contains (named_by (use_of link)) b
  gained b c =
      ⊎_elim
      (λ d. inl d)
      (λ d. inr (subst (λ (o : Option LinkField). Contains (named_by_field o) b) (lawful.set_here x field link has) d))
      (named_cases (k.link changed) (k.link x) field (λ g a. sym (lawful.set_others x field g link a)) (k.link_fields x) b (subst (λ (fs : List FieldNo). Contains (named_by_all (k.link changed) fs) b) fields_same c))

  -- No link leaves the records after the change, if the new one doesn't.
  pub closed_after : ((t : ℕ) → Contains (named_by (use_of link)) t → IsSome (get m t)) → IsClosed (links_of k m) → IsClosed (links_of k after)
  closed_after within closed a b c =
      has_after b
      (⊎_elim
      (λ (e : a ≡ n).
      let named : c.0 ≡ targets k changed = same_list c.0 (targets k changed) (sym c.1 ∙ ap (links_of k after) e ∙ links_own) in
      ⊎_elim
      (λ d. closed n b (targets k x, links_before, d))
      (λ d. some_links b (within b d))
      (gained b (subst (λ (z : List ℕ). Contains z b) named c.2)))
      (λ apart. closed a b (names_by (links_of k after) (links_of k m) a b (sym (links_other a apart)) c))
      (cases_eq a n))
    where
      some_of : (o : Option R) → IsSome o → IsSome (option_map (targets k) o)
      some_of None s = s
      some_of (Some y) s = refl

      some_links : (t : ℕ) → IsSome (get m t) → IsSome (links_of k m t)
      some_links t s = some_of (get m t) s

  -- The record that the link named before, if it named one.
  abbrev pub former : ℕ
  former = only (named_by_field (k.link x field)) n

  names_after : (a b : ℕ) → Names (links_of k m) a b → Names (links_of k after) a b ⊎ ((a ≡ n) × (b ≡ former))
  names_after a b c =
      ⊎_elim
      (λ (e : a ≡ n).
      let named : c.0 ≡ targets k x = same_list c.0 (targets k x) (sym c.1 ∙ ap (links_of k m) e ∙ links_before) in
      ⊎_elim
      (λ d. inl (targets k changed, ap (links_of k after) e ∙ links_own, d))
      (λ d. inr (e, one_named_by (k.link x field) b n d))
      (lost b (subst (λ (z : List ℕ). Contains z b) named c.2)))
      (λ apart. inl (names_by (links_of k m) (links_of k after) a b (links_other a apart) c))
      (cases_eq a n)

  goes : (a b : ℕ) → Joined (links_of k m) a b → Joined (links_of k after) a b ⊎ (((a ≡ n) × (b ≡ former)) ⊎ ((a ≡ former) × (b ≡ n)))
  goes a b =
      ⊎_elim
      (λ c. ⊎_elim (λ d. inl (inl d)) (λ d. inr (inl d)) (names_after a b c))
      (λ c. ⊎_elim (λ d. inl (inr d)) (λ d. inr (inr (d.1, d.0))) (names_after b a c))

  -- Each record reaches the changed one, or the one that its link named before.
  pub reach : IsPart (links_of k m) → (q : ℕ) → IsSome (links_of k after q) → Connected (Joined (links_of k after)) q n ⊎ Connected (Joined (links_of k after)) q former
  reach part q s = reaches (links_of k m) (links_of k after) n former goes part.one_part (ap is_some links_before) q (has_before q s)

  -- If the link named no record before, no name is lost.
  module _ (free : named_by_field (k.link x field) ≡ []) where
    none_lost : (b : ℕ) → Contains (targets k x) b → Contains (targets k changed) b
    none_lost b c =
        ⊎_elim
        (λ d. d)
        (λ d. absurd (let e : Contains [] b = subst (λ (z : List ℕ). Contains z b) free d in let l : e.0 < 0 = e.1 in omega arith))
        (lost b c)

    pub names_kept : (a b : ℕ) → Names (links_of k m) a b → Names (links_of k after) a b
    names_kept a b c =
        ⊎_elim
        (λ (e : a ≡ n).
        let named : c.0 ≡ targets k x = same_list c.0 (targets k x) (sym c.1 ∙ ap (links_of k m) e ∙ links_before) in
        (targets k changed, ap (links_of k after) e ∙ links_own, none_lost b (subst (λ (z : List ℕ). Contains z b) named c.2)))
        (λ apart. names_by (links_of k m) (links_of k after) a b (links_other a apart) c)
        (cases_eq a n)

  -- The new link names its record.
  pub names_new : (t : ℕ) → Contains (named_by (use_of link)) t → Names (links_of k after) n t
  names_new t c =
      let there = subst (λ (fs : List FieldNo). Contains fs field) (sym fields_same) (field_there k lawful x field has) in
      let own_link : Contains (named_by_field (k.link changed field)) t = subst (λ (o : Option LinkField). Contains (named_by_field o) t) (sym (lawful.set_here x field link has)) c in
      (targets k changed, links_own, named_among (k.link changed) (k.link_fields changed) field t there own_link)

  -- A link of any record is one of those before, or the new one.
  pub names_before : (a b : ℕ) → Names (links_of k after) a b → Names (links_of k m) a b ⊎ Contains (named_by (use_of link)) b
  names_before a b c =
      ⊎_elim
      (λ (e : a ≡ n).
      let named : c.0 ≡ targets k changed = same_list c.0 (targets k changed) (sym c.1 ∙ ap (links_of k after) e ∙ links_own) in
      ⊎_elim
      (λ d. inl (targets k x, ap (links_of k m) e ∙ links_before, d))
      (λ d. inr d)
      (gained b (subst (λ (z : List ℕ). Contains z b) named c.2)))
      (λ apart. inl (names_by (links_of k after) (links_of k m) a b (sym (links_other a apart)) c))
      (cases_eq a n)

  pub n_after : IsSome (links_of k after n)
  n_after = ap is_some links_own

  pub n_before : IsSome (links_of k m n)
  n_before = ap is_some links_before
