-- Held records that are parted, and held records that are joined.
use Rattle.std.proofs.Common.{◌≡◌, ◌⊎◌, ℕ, true, false, Option, None, refl, sym, ap, subst, ◌∙◌, inl, inr, ⊎_elim}
use Rattle.std.specs.Prelude.{is_some, unwrap_or, Contains}
use Rattle.std.specs.FinMap.{get, contains_key, same_map, nat_cmp-IsAntisymmetric}
use Rattle.std.specs.Cmp.{nat_cmp_total}
use Rattle.ioc_notify.specs.Waits.{at_record}
use Rattle.ioc_record.specs.RecordRules.{RecordRules, targets}
use Rattle.ioc_record.specs.Laws.{IsLawful}
use Rattle.ioc_store.specs.World.{World, Has, IsClosed, at}
use Rattle.ioc_journal.specs.Covering.{Holds, AreHalves}
use Rattle.ioc_journal.specs.Laws.{Falls, Opens, Gathers, HoldsAll}
use Rattle.ioc_journal.proofs.Basics.{not_both, is-none, missing-named}

pub none-there : {X : Type 0} (o : Option X) → o ≡ None → is_some o ≡ true → ⊥
none-there o none there = not_both there (ap (λ (p : Option _). is_some p) none)

pub there-as : {X : Type 0} (o p : Option X) → o ≡ p → is_some o ≡ true → is_some p ≡ true
there-as o p same there = ap (λ (q : Option _). is_some q) (sym same) ∙ there

-- The two halves may be exchanged.
pub turned : {R : Type 0} (all one other : World R) → AreHalves all one other → AreHalves all other one
turned all one other halves = record {
  records = λ q. ⊎_elim (λ p. inr (p.1, p.0)) (λ p. inl (p.1, p.0)) (halves.records q);
  first = halves.second;
  second = halves.first;
}

module _ {R : Type 0} (all one other : World R) (halves : AreHalves all one other) where
  -- A record of `one` is the same in `all`, and isn't in `other`.
  pub from-one : (q : ℕ) → Has one q → (get all.records q ≡ get one.records q) × (get other.records q ≡ None)
  from-one q there = ⊎_elim (λ p. (sym p.0, p.1)) (λ p. absurd (none-there (get one.records q) p.0 there)) (halves.records q)

  pub one-in : (q : ℕ) → Has one q → Has all q
  one-in q there = there-as (get one.records q) (get all.records q) (sym (from-one q there).0) there

  from-other : (q : ℕ) → Has all q → (Has one q → ⊥) → (get all.records q ≡ get other.records q) × Has other q
  from-other q there out = ⊎_elim
      (λ p. absurd (out (there-as (get all.records q) (get one.records q) (sym p.0) there)))
      (λ p. (sym p.1, there-as (get all.records q) (get other.records q) (sym p.1) there))
      (halves.records q)

  pub either : (q : ℕ) → Has all q → Has one q ⊎ Has other q
  either q there = ⊎_elim
      (λ p. inl (there-as (get all.records q) (get one.records q) (sym p.0) there))
      (λ p. inr (there-as (get all.records q) (get other.records q) (sym p.1) there))
      (halves.records q)

module _ {R : Type 0} (k : RecordRules R) (all one other : World R) (halves : AreHalves all one other) where
  -- A world that is equal to `all` at its records holds `one`, if no link leaves either half.
  pub falls-as : (m : World R) → ((q : ℕ) → Has all q → get m.records q ≡ get all.records q) → ((q : ℕ) → Has all q → at_record q m.waiting ≡ at_record q all.waiting)
      → ((a q : ℕ) → (Has all a → ⊥) → Has all q → Contains (targets k (at k m a)) q → ⊥) → IsClosed k one → IsClosed k other → Holds k m one
  unfolding at
  falls-as m records waiting apart closed other_closed = record {
    records = λ q there. records q (one-in all one other halves q there) ∙ (from-one all one other halves q there).0;
    waiting = λ q there. waiting q (one-in all one other halves q there) ∙ sym (halves.first.waiting q there);
    within = halves.first.within;
    shut = closed;
    apart = λ a q out there named. elim (contains_key all.records a) as (λ b. contains_key all.records a ≡ b → ⊥) [
      | true ↦ λ has.
          let in_other = from-other all one other halves a has out in
          let same : at k m a ≡ at k other a = ap (λ (o : Option R). unwrap_or o k.missing) (records a has ∙ in_other.0) in
          none-there (get other.records q) (from-one all one other halves q there).1 (other_closed.closed a q (subst (λ (x : R). Contains (targets k x) q) same named))
      | false ↦ λ isnt. apart a q (λ has. not_both has isnt) (one-in all one other halves q there) named
    ] refl;
  }

module _ {R : Type 0} (k : RecordRules R) where
  pub falls : Falls k
  falls m all one other holds halves closed other_closed = (
    falls-as k all one other halves m holds.records holds.waiting holds.apart closed other_closed,
    falls-as k all other one (turned all one other halves) m holds.records holds.waiting holds.apart other_closed closed,
  )

  module _ (lawful : IsLawful k) where
    -- No link leaves a world if none leaves its halves.
    half-shut : (all one other : World R) → AreHalves all one other → IsClosed k one → (a q : ℕ) → Has one a → Contains (targets k (at k all a)) q → Has all q
    unfolding at
    half-shut all one other halves closed a q there named =
        let same : at k all a ≡ at k one a = ap (λ (o : Option R). unwrap_or o k.missing) (from-one all one other halves a there).0 in
        one-in all one other halves q (closed.closed a q (subst (λ (x : R). Contains (targets k x) q) same named))

    both-shut : (all one other : World R) → AreHalves all one other → IsClosed k one → IsClosed k other → IsClosed k all
    both-shut all one other halves closed other_closed = record {
      closed = λ a q named. elim (contains_key all.records a) as (λ b. contains_key all.records a ≡ b → Has all q) [
        | true ↦ λ has. ⊎_elim
            (λ there. half-shut all one other halves closed a q there named)
            (λ there. half-shut all other one (turned all one other halves) other_closed a q there named)
            (either all one other halves a has)
        | false ↦ λ isnt. absurd (missing-named k lawful all a q isnt named)
      ] refl;
    }

    pub opens : Opens k
    opens m v others halves closed other_closed =
        falls-as k m v others halves m (λ q has. refl) (λ q has. refl)
        (λ a q out there named. elim (contains_key m.records a) as (λ b. contains_key m.records a ≡ b → ⊥) [
          | true ↦ λ has. out has
          | false ↦ λ isnt. missing-named k lawful m a q isnt named
        ] refl) closed other_closed

    -- The records of one half, and their waiting lists, are the same in the world.
    half-holds : (m all one other : World R) → AreHalves all one other → Holds k m one → (q : ℕ) → Has one q → (get m.records q ≡ get all.records q) × (at_record q m.waiting ≡ at_record q all.waiting)
    half-holds m all one other halves holds q there = (holds.records q there ∙ sym (from-one all one other halves q there).0, holds.waiting q there ∙ halves.first.waiting q there)

    whole-holds : (m all one other : World R) → AreHalves all one other → Holds k m one → Holds k m other → (q : ℕ) → Has all q → (get m.records q ≡ get all.records q) × (at_record q m.waiting ≡ at_record q all.waiting)
    whole-holds m all one other halves holds other_holds q has = ⊎_elim
        (λ there. half-holds m all one other halves holds q there)
        (λ there. half-holds m all other one (turned all one other halves) other_holds q there)
        (either all one other halves q has)

    pub gathers : Gathers k
    gathers m all one other holds other_holds halves within = record {
      records = λ q has. (whole-holds m all one other halves holds other_holds q has).0;
      waiting = λ q has. (whole-holds m all one other halves holds other_holds q has).1;
      within = within;
      shut = both-shut all one other halves holds.shut other_holds.shut;
      apart = λ a q out has named. ⊎_elim
          (λ there. holds.apart a q (λ t. out (one-in all one other halves a t)) there named)
          (λ there. other_holds.apart a q (λ t. out (one-in all other one (turned all one other halves) a t)) there named)
          (either all one other halves q has);
    }

  pub holds-all : HoldsAll k
  holds-all m v holds every = same_map nat_cmp_total nat_cmp-IsAntisymmetric v.records m.records same
    where
      same : (q : ℕ) → get v.records q ≡ get m.records q
      same q = elim (contains_key v.records q) as (λ b. contains_key v.records q ≡ b → get v.records q ≡ get m.records q) [
        | true ↦ λ there. sym (holds.records q there)
        | false ↦ λ isnt. is-none (get v.records q) (λ there. not_both there isnt) ∙ sym (is-none (get m.records q) (λ there. not_both (every q there) isnt))
      ] refl
