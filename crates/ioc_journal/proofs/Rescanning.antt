-- A change of a record's scan list, sent by the part that has the record.
use Rattle.std.proofs.Common.{◌≡◌, ◌⊎◌, ℕ, Bool, true, false, cond, eqb, List, Option, Some, None as Nothing_, refl, sym, ap, subst, ◌∙◌, inl, inr, arith}
use Rattle.std.specs.Prelude.{is_some, unwrap_or, Contains}
use Rattle.std.specs.FinMap.{get}
use Rattle.std.proofs.lemmas.Grind.{common_steps}
use Rattle.ioc_notify.specs.declared.waiting_lists.Waiting.{Waiting}
use Rattle.ioc_notify.specs.Waits.{at_record}
use Rattle.ioc_record.specs.RecordRules.{RecordRules}
use Rattle.ioc_record.specs.Laws.{IsLawful}
use Rattle.ioc_store.specs.World.{World, Has, IsClosed, Keeps, at}
use Rattle.ioc_store.specs.ScanLaws.{rewired-either}
use Rattle.ioc_process.specs.Keeping.{keeps_all, closed_on, moved-keeps}
use Rattle.ioc_store.specs.Scanning.{rewired}
use Rattle.ioc_journal.specs.Covering.{AreHalves, WaitsWithin}
use Rattle.ioc_journal.specs.Laws.{RescansApart}
use Rattle.ioc_events.proofs.Rewired.{rewired-leaves}
use Rattle.ioc_journal.proofs.Rewiring.{set-at, landed, rewired-get}
use Rattle.ioc_journal.proofs.Sharing.{none-there, one-in, from-one}

-- The records of a world in which one record was set.
module _ {R : Type 0} (s : ℕ) (r : R) (one own : World R) where
  set-some : (b : Bool) (x : Option R) → is_some x ≡ true → is_some (cond b (Some r) x) ≡ true
  set-some true x has = refl
  set-some false x has = has

  some-set : (b : Bool) (x : Option R) → (b ≡ true → is_some x ≡ true) → is_some (cond b (Some r) x) ≡ true → is_some x ≡ true
  some-set true x has set = has refl
  some-set false x has set = set

  pub set-there : ((q : ℕ) → get own.records q ≡ set-at s r (get one.records) q) → (q : ℕ) → Has one q → Has own q
  set-there own-get q has = ap (λ (o : Option R). is_some o) (own-get q) ∙ set-some (eqb q s) (get one.records q) has

  pub there-before : Has one s → ((q : ℕ) → get own.records q ≡ set-at s r (get one.records) q) → (q : ℕ) → Has own q → Has one q
  there-before there own-get q has =
      some-set (eqb q s) (get one.records q)
      (λ is. let e : q ≡ s = grind (arith, common_steps) in subst (λ (n : ℕ). is_some (get one.records n) ≡ true) (sym e) there)
      (sym (ap (λ (o : Option R). is_some o) (own-get q)) ∙ has)

  pub set-within : ((q : ℕ) → get own.records q ≡ set-at s r (get one.records) q) → own.waiting ≡ one.waiting → WaitsWithin one → WaitsWithin own
  set-within own-get waits within x c = set-there own-get x.target (within x (subst (λ (l : List Waiting). Contains l x) waits c))

-- Two worlds that differ from two others only in one record, which is set to the same value in
-- both.
module _ {R : Type 0} (s : ℕ) (r : R) (all one other after own : World R) (halves : AreHalves all one other) (there : Has one s)
    (all-get : (q : ℕ) → get after.records q ≡ set-at s r (get all.records) q) (own-get : (q : ℕ) → get own.records q ≡ set-at s r (get one.records) q)
    (all-waits : after.waiting ≡ all.waiting) (own-waits : own.waiting ≡ one.waiting) where
  -- The entries of one number, which is the number of the record or not.
  shared-one : (b : Bool) (x y whole part rest : Option R) → x ≡ cond b (Some r) whole → y ≡ cond b (Some r) part → (b ≡ true → is_some part ≡ true)
      → ((part ≡ whole) × (rest ≡ Nothing_)) ⊎ ((part ≡ Nothing_) × (rest ≡ whole)) → ((y ≡ x) × (rest ≡ Nothing_)) ⊎ ((y ≡ Nothing_) × (rest ≡ x))
  shared-one true x y whole part rest is_x is_y has (inl p) = inl (is_y ∙ sym is_x, p.1)
  shared-one true x y whole part rest is_x is_y has (inr p) = absurd (none-there part p.0 (has refl))
  shared-one false x y whole part rest is_x is_y has (inl p) = inl (is_y ∙ p.0 ∙ sym is_x, p.1)
  shared-one false x y whole part rest is_x is_y has (inr p) = inr (is_y ∙ p.0, p.1 ∙ sym is_x)

  here-too : (q : ℕ) → eqb q s ≡ true → is_some (get one.records q) ≡ true
  here-too q is = let e : q ≡ s = grind (arith, common_steps) in subst (λ (n : ℕ). is_some (get one.records n) ≡ true) (sym e) there

  pub set-halves : AreHalves after own other
  set-halves = record {
    records = λ q. shared-one (eqb q s) (get after.records q) (get own.records q) (get all.records q) (get one.records q) (get other.records q) (all-get q) (own-get q) (here-too q) (halves.records q);
    first = record {
      waiting = λ q has. ap (at_record q) own-waits ∙ halves.first.waiting q (there-before s r one own there own-get q has) ∙ ap (at_record q) (sym all-waits);
      within = set-within s r one own own-get own-waits halves.first.within;
    };
    second = record { waiting = λ q has. halves.second.waiting q has ∙ ap (at_record q) (sym all-waits); within = halves.second.within };
  }

module _ {R : Type 0} (k : RecordRules R) where
  -- A change of a record's scan list sets that one record.
  pub rewired-set : (device : List ℕ) (w : World R) (s : ℕ) (r : R) → Has w s → at k w s ≡ r → (q : ℕ) → get (rewired k device w s).records q ≡ set-at s (landed k device r) (get w.records) q
  rewired-set device w s r there is q = rewired-get k device w s there q ∙ ap (λ (x : R). set-at s (landed k device x) (get w.records) q) is

  -- A record of the half is the same in the whole.
  pub half-at : (all one other : World R) (s : ℕ) → AreHalves all one other → Has one s → at k all s ≡ at k one s
  unfolding at
  half-at all one other s halves there = ap (λ (o : Option R). unwrap_or o k.missing) (from-one all one other halves s there).0

  pub rescanned-halves : (all one other : World R) (device : List ℕ) (s : ℕ) → AreHalves all one other → Has one s → AreHalves (rewired k device all s) (rewired k device one s) other
  rescanned-halves all one other device s halves there =
      set-halves s (landed k device (at k one s)) all one other (rewired k device all s) (rewired k device one s) halves there
      (rewired-set device all s (at k one s) (one-in all one other halves s there) (half-at all one other s halves there))
      (rewired-set device one s (at k one s) there refl) (rewired-leaves k device all s).waiting (rewired-leaves k device one s).waiting

  module _ (lawful : IsLawful k) where
    pub rescanned-shut : (one : World R) (device : List ℕ) (s : ℕ) → Has one s → IsClosed k one → IsClosed k (rewired k device one s)
    rescanned-shut one device s there = closed_on k lawful (rewired-either k (Keeps k one) device one s (keeps_all k one) (moved-keeps k lawful one s there))

    pub rescans-apart : RescansApart k
    rescans-apart all one other device s halves there = (rescanned-halves all one other device s halves there, rescanned-shut one device s there)
