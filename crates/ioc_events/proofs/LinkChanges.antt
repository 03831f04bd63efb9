-- The effect of a link change on the records that a record names.
use Rattle.std.proofs.Common.{◌≡◌, ℕ, zero, suc, Bool, true, false, List, [], ◌∷◌, Option, Some, None as Nothing_, cond, refl, ap, ◌∙◌, subst, ◌⊎◌, inl, inr, arith}
use Rattle.std.specs.Prelude.{Contains, not, ◌&&◌}
use Rattle.std.specs.FinMap.{contains_key}
use Rattle.std.proofs.lemmas.List.Elements.{Contains-append_cases, Contains-append_left, Contains-append_right}
use Rattle.ioc_fields.specs.declared.field_no.FieldNo.{FieldNo}
use Rattle.ioc_dbcommon.specs.declared.link_field.LinkField.{LinkField}
use Rattle.ioc_dbcommon.specs.Links.{use_of, named_by, named_by_field, named_by_all}
use Rattle.ioc_record.specs.RecordRules.{RecordRules, targets}
use Rattle.ioc_record.specs.Laws.{IsLawful}
use Rattle.ioc_store.specs.World.{World, Has}
use Rattle.ioc_values.specs.declared.error.IocError.{IocError}
use Rattle.ioc_events.specs.Step.{all_there, link_refusal}

-- If each field has the link that it had or this one, the record names what it named or what this
-- link leads to.
pub named-either : (before after : FieldNo → Option LinkField) (l : LinkField) → ((g : FieldNo) → (after g ≡ Some l) ⊎ (after g ≡ before g)) → (fields : List FieldNo) (target : ℕ)
    → Contains (named_by_all after fields) target → Contains (named_by_all before fields) target ⊎ Contains (named_by (use_of l)) target
named-either before after l each [] target h = inl h
named-either before after l each (f ∷ fields) target h =
    elim (Contains-append_cases (named_by_field (after f)) (named_by_all after fields) target h) [
      | inl here ↦ elim (each f) [
        | inl is ↦ inr (subst (λ (o : Option LinkField). Contains (named_by_field o) target) is here)
        | inr is ↦ inl (Contains-append_left (named_by_field (before f)) (named_by_all before fields) target (subst (λ (o : Option LinkField). Contains (named_by_field o) target) is here))
      ]
      | inr later ↦ elim (named-either before after l each fields target later) [
        | inl is ↦ inl (Contains-append_right (named_by_field (before f)) (named_by_all before fields) target is)
        | inr is ↦ inr is
      ]
    ]

both_true : (a b : Bool) → a && b ≡ true → (a ≡ true) × (b ≡ true)
both_true true true is = (refl, refl)
both_true true false is = cc
both_true false b is = cc

one_of : (m n : ℕ) → Contains (m ∷ []) n → m ≡ n
one_of m n (zero, lt, is) = is
one_of m n (suc i, lt, is) = absurd (omega arith)

not_refused : (b : Bool) (e : IocError) (rest : Option IocError) → cond {A = Option IocError} (not b) (Some e) rest ≡ Nothing_ → b ≡ true
not_refused true e rest is = refl
not_refused false e rest is = cc

-- Each of several records that all exist exists.
pub there_of : {R : Type 0} (w : World R) (ns : List ℕ) (n : ℕ) → all_there w ns ≡ true → Contains ns n → Has w n
there_of w [] n all h = absurd (omega (arith, h.1))
there_of w (m ∷ ns) n all h =
    let both = both_true _ _ all in
    elim (Contains-append_cases (m ∷ []) ns n h) [
      | inl here ↦ let e : m ≡ n = one_of m n here in subst (λ (x : ℕ). Has w x) e both.0
      | inr later ↦ there_of w ns n both.1 later
    ]

module _ {R : Type 0} (k : RecordRules R) (lawful : IsLawful k) where
  -- With another link in one field, a record names what it named or what the link leads to.
  pub linked-names : (r : R) (f : FieldNo) (l : LinkField) (target : ℕ) → Contains (targets k (k.with_link r f l)) target → Contains (targets k r) target ⊎ Contains (named_by (use_of l)) target
  linked-names r f l target h =
      named-either (k.link r) (k.link (k.with_link r f l)) l (λ g. lawful.set_there r f g l) (k.link_fields r) target
      (subst (λ (fs : List FieldNo). Contains (named_by_all (k.link (k.with_link r f l)) fs) target) (lawful.link_set_link_fields r f l) h)

-- If each of these records exists in both worlds or in neither, then all exist in both or not all
-- exist in either.
pub all-alike : {R : Type 0} (w v : World R) (ns : List ℕ) → ((n : ℕ) → Contains ns n → contains_key w.records n ≡ contains_key v.records n) → all_there w ns ≡ all_there v ns
all-alike w v [] alike = refl
all-alike w v (n ∷ ns) alike =
    ap (λ (b : Bool). b && all_there w ns) (alike n (0, omega arith, refl))
    ∙ ap (λ (b : Bool). contains_key v.records n && b) (all-alike w v ns (λ m h. alike m (Contains-append_right (n ∷ []) ns m h)))

-- A link change that isn't refused has its record and those that the link leads to.
pub link-parts : {R : Type 0} (k : RecordRules R) (w : World R) (s : ℕ) (field : FieldNo) (link : LinkField) → link_refusal k w s field link ≡ Nothing_
    → (contains_key w.records s ≡ true) × (all_there w (named_by (use_of link)) ≡ true)
unfolding link_refusal
link-parts k w s field link is = both_true _ _ (not_refused _ _ _ is)
