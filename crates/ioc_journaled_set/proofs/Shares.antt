-- The share that a set has of the engine's counts.
use Rattle.std.proofs.Common.{◌≡◌, ℕ, ◌<◌, Option, Some, None, refl, sym, ap, ap₂, ◌∙◌, subst, arith}
use Rattle.std.specs.Prelude.{IsSome}
use Rattle.std.specs.Ordering.{nat_cmp}
use Rattle.std.specs.FinMap.{empty, len, len-empty}
use Rattle.ioc_ledger.specs.declared.tally.Tally.{Tally}
use Rattle.ioc_ledger.specs.Requests.{no_counts}
use Rattle.ioc_ledger.specs.Shared.{ShareView, share_view}
use Rattle.ioc_journal.specs.Counting.{IsBacked, IsGivenBack}
use Rattle.ioc_set.specs.SetState.{SetState, nothing_held}
use Rattle.ioc_journaled_set.specs.Holding.{IsCounted}

-- Two shares with the same parts and the same counts are equal.
same_share : (p q : ℕ) (t u : Tally) → p ≡ q → t ≡ u → share_view p t ≡ share_view q u
same_share p q t u parts counts = ap₂ share_view parts counts

-- What is there isn't missing.
pub is_there : {s : ShareView} {o : Option ShareView} → o ≡ Some s → o ≡ None → ⊥
is_there is none = cc

module _ {R D : Type 0} where
  -- The share of a set is that of another with as many records and the same counts.
  pub counted_alike : (share : Option ShareView) (h h' : SetState R D) → len h'.records ≡ len h.records → h'.tally ≡ h.tally → IsCounted share h → IsCounted share h'
  counted_alike share h h' records tally counted = counted ∙ same_share (len h.records) (len h'.records) h.tally h'.tally (sym records) (sym tally)

  -- A set with records has a share.
  pub has_share : (own : Option ShareView) (h : SetState R D) → IsCounted own h → 0 < len h.records → IsSome own
  has_share None h counted some = absurd (let parts = ap (λ (v : ShareView). v.parts) counted in let z : ⊥ = omega (arith, parts, some) in z)
  has_share (Some s) h counted some = refl

  -- The share that is there.
  pub share_is : (own : Option ShareView) (s : ShareView) (h : SetState R D) → own ≡ Some s → IsCounted own h → s ≡ share_view (len h.records) h.tally
  share_is own s h is counted = subst (λ (o : Option ShareView). IsCounted o h) is counted

  -- The share that is given back after an event is that of the set then.
  pub counted_then : (s : ShareView) (own share back : Option ShareView) (h h' : SetState R D) (after : Tally) → own ≡ Some s → share ≡ Some s → IsCounted own h → IsGivenBack share after back → after ≡ h'.tally → len h'.records ≡ len h.records → IsCounted back h'
  counted_then s own share back h h' after is taken counted given now records =
      let parts = ap (λ (v : ShareView). v.parts) (share_is own s h is counted) in
      let given_back : back ≡ Some (share_view s.parts after) = subst (λ (o : Option ShareView). IsGivenBack o after back) taken given in
      subst (λ (o : Option ShareView). IsCounted o h') (sym given_back) (same_share s.parts (len h'.records) after h'.tally (parts ∙ sym records) now)

  -- The share of a set with records has a part and the counts of the set.
  pub backed : (s : ShareView) (own share : Option ShareView) (h : SetState R D) (before : Tally) → own ≡ Some s → share ≡ Some s → IsCounted own h → before ≡ h.tally → 0 < len h.records → IsBacked share before
  backed s own share h before is taken counted was some =
      let all = share_is own s h is counted in
      subst (λ (o : Option ShareView). IsBacked o before) (sym taken) (subst (λ (n : ℕ). 0 < n) (sym (ap (λ (v : ShareView). v.parts) all)) some, ap (λ (v : ShareView). v.counts) all ∙ sym was)

-- A set without records and counts needs no share.
pub none_counted : {R D : Type 0} (h : SetState R D) → h ≡ nothing_held → IsCounted None h
none_counted {R} {D} h none = subst (λ (x : SetState R D). IsCounted None x) (sym none) (same_share 0 (len (empty {K = ℕ} {X = R} {R = nat_cmp})) no_counts no_counts (sym (len-empty nat_cmp R)) refl)
