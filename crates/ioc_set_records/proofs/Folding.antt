-- Slots that are folded one after another, by the list of their places.
use Rattle.std.proofs.Common.{◌≡◌, ◌≢◌, ◌⊎◌, ℕ, ◌<◌, List, [], ◌∷◌, true, false, length, map, set, get_or, refl, sym, ap, ◌∙◌, subst, inl, inr, ⊎_elim, arith}
use Rattle.std.specs.Prelude.{Contains}
use Rattle.std.proofs.lemmas.Bool.{cases_eq}
use Rattle.std.proofs.lemmas.List.{get_or-set_same, get_or-set_other, same_lists, length-set, get_or-map, get_or_default}
use Rattle.std.proofs.lemmas.List.Elements.{Contains-append_cases}
use Rattle.std.proofs.Math.ListN.{length-map}
use Rattle.ioc_record.specs.RecordRules.{RecordRules}
use Rattle.ioc_set_records.specs.declared.slots.Slot.{Slot}
use Rattle.ioc_set_records.specs.Contents.{AreLike}
use Rattle.ioc_set_records.specs.Twins.{slot_folded, AreTracked, AllLikeTheirBases}
use Rattle.ioc_set_records.proofs.Twins.{lone_in}

tail_in : (p j : ℕ) (left : List ℕ) → j ≢ p → Contains (p ∷ left) j → Contains left j
tail_in p j left apart c = ⊎_elim (λ d. absurd (apart (lone_in p j d))) (λ d. d) (Contains-append_cases (p ∷ []) left j c)

-- Each slot is folded, or is unchanged and its place is among the remaining ones.
pub record AreFolding {R D : Type 0} (all slots : List (Slot R D)) (left : List ℕ) : Type 0 where
  pub len : length slots ≡ length all
  pub each : (j : ℕ) (s t : Slot R D) → j < length all → s ≡ get_or all j s → t ≡ get_or slots j t → (t ≡ slot_folded s) ⊎ ((t ≡ s) × Contains left j)

module _ {R D : Type 0} (all : List (Slot R D)) where
  folded_itself : (s : Slot R D) → s.base ≡ s.fields → s.is_changed ≡ false → slot_folded s ≡ s
  folded_itself s b e = λ i. record s { base = sym b i; is_changed = sym e i }

  pub folding_first : (changed : List ℕ) → AreTracked all changed → AreFolding all all changed
  folding_first changed tracked = record {
    len = refl;
    each = λ j s t l src at.
        let same : t ≡ s = at ∙ get_or_default all j t s l ∙ sym src in
        elim s.is_changed as (λ b. s.is_changed ≡ b → (t ≡ slot_folded s) ⊎ ((t ≡ s) × Contains changed j)) [
          | true ↦ λ e. inr (same, tracked.listed j s l src e)
          | false ↦ λ e. inl (same ∙ sym (folded_itself s (tracked.same j s l src e) e))
        ] refl;
  }

  pub folding_next : (slots : List (Slot R D)) (p : ℕ) (left : List ℕ) (t new : Slot R D) → AreFolding all slots (p ∷ left) → p < length all → t ≡ get_or slots p t → new ≡ slot_folded t
      → AreFolding all (set slots p new) left
  folding_next slots p left t new folding l at is = record {
    len = length-set slots p new ∙ folding.len;
    each = λ j s x lj src ax.
        ⊎_elim
        (λ (same : j ≡ p).
        let here : x ≡ new = ax ∙ ap (λ q. get_or (set slots p new) q x) same ∙ get_or-set_same slots p new x (let e = folding.len in omega arith) in
        let own : s ≡ get_or all p s = src ∙ ap (λ q. get_or all q s) same in
        inl (here ∙ is ∙ ⊎_elim (λ e. ap slot_folded e) (λ e. ap slot_folded e.0) (folding.each p s t l own at)))
        (λ apart. ⊎_elim (λ e. inl e) (λ e. inr (e.0, tail_in p j left apart e.1)) (folding.each j s x lj src (ax ∙ get_or-set_other slots p j new x apart)))
        (cases_eq j p);
  }

  pub folding_last : (slots : List (Slot R D)) → AreFolding all slots [] → slots ≡ map slot_folded all
  folding_last slots folding =
      same_lists slots (map slot_folded all) (folding.len ∙ sym (length-map all slot_folded)) (λ j d l.
      let within : j < length all = let e = folding.len in omega arith in
      let s = get_or all j d in
      let t = get_or slots j d in
      let own : s ≡ get_or all j s = get_or_default all j d s within in
      let at : t ≡ get_or slots j t = get_or_default slots j d t l in
      let is : t ≡ slot_folded s = ⊎_elim (λ e. e) (λ e. absurd (let n : e.1.0 < 0 = e.1.1 in omega arith)) (folding.each j s t within own at) in
      is ∙ sym (get_or-map slot_folded all j d d within))

  pub folding_like : (k : RecordRules R) (slots : List (Slot R D)) (p : ℕ) (left : List ℕ) (t : Slot R D) → AllLikeTheirBases k all → AreFolding all slots left → p < length all → t ≡ get_or slots p t
      → AreLike k t.base t.fields
  folding_like k slots p left t likes folding l at =
      let s = get_or all p t in
      let own : s ≡ get_or all p s = get_or_default all p t s l in
      ⊎_elim
      (λ e. subst (λ (z : Slot R D). AreLike k z.base z.fields) (sym e) (record { same_type = refl; same_links = refl }))
      (λ e. subst (λ (z : Slot R D). AreLike k z.base z.fields) (sym e.0) (likes p s l own))
      (folding.each p s t l own at)

-- A place of the list is that of a slot.
pub placed : {R D : Type 0} (all : List (Slot R D)) (changed read : List ℕ) (i : ℕ) → AreTracked all changed → read ≡ changed → i < length read → get_or read i 0 < length all
placed all changed read i tracked same l =
    let within : i < length changed = let e = ap length same in omega arith in
    let e : get_or changed i 0 ≡ get_or read i 0 = ap (λ (z : List ℕ). get_or z i 0) (sym same) in
    let w = tracked.within (get_or changed i 0) (i, within, get_or_default changed i (get_or changed i 0) 0 within) in
    omega arith
