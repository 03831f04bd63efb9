-- The longest word of a table.
use Rattle.std.proofs.Common.{◌≡◌, ℕ, ◌≤◌, ◌<◌, ◌⊎◌, List, [], ◌∷◌, refl, ap, arith, inl, inr, true, false, Bool}
use Rattle.std.proofs.lemmas.Bool.{ltb-true, ltb-false}
use Rattle.std.specs.Prelude.{Option, Some, None, IfSome, nat_lt, if◌then◌else◌}
use Rattle.ioc_calc.specs.declared.token.Token.{Token}
use Rattle.ioc_calc.specs.declared.words.Word.{Word}
use Rattle.ioc_calc.specs.Words.{fitting, longer_of, longest_in}
use Rattle.ioc_calc.specs.Longest.{IsOneOf, NoneIsLonger}
use Rattle.ioc_calc.proofs.Sound.{some_same}

-- no found word is longer
abbrev pub AtMost : Option (Token × ℕ) → ℕ → Type 0
AtMost found n = IfSome found (λ f. f.1 ≤ n)

either : (c : Bool) (a b x : Token × ℕ) → (if c then Some b else Some a) ≡ Some x → ((c ≡ true) × (b ≡ x)) ⊎ ((c ≡ false) × (a ≡ x))
either true a b x e = inl (refl, some_same b x e)
either false a b x e = inr (refl, some_same a x e)

-- which of two found tokens the longer one is
shorter : (a b x : Token × ℕ) → a.1 < b.1 → b.1 ≡ x.1 → a.1 ≤ x.1
shorter a b x h e = omega arith

no_longer : (a b x : Token × ℕ) → b.1 ≤ a.1 → a.1 ≡ x.1 → b.1 ≤ x.1
no_longer a b x h e = omega arith

pair_at_most : (c : Bool) (a b : Token × ℕ) (n : ℕ) → (c ≡ true → a.1 < b.1) → (c ≡ false → b.1 ≤ a.1)
    → AtMost (if c then Some b else Some a) n → (a.1 ≤ n) × (b.1 ≤ n)
pair_at_most true a b n lt ge h = let l = lt refl in (omega arith, h)
pair_at_most false a b n lt ge h = let l = ge refl in (h, omega arith)

longer_some : (a b : Option (Token × ℕ)) (x : Token × ℕ) → longer_of a b ≡ Some x
    → ((b ≡ Some x) × AtMost a x.1) ⊎ ((a ≡ Some x) × AtMost b x.1)
longer_some None None x e = cc
longer_some None (Some b) x e = inl (e, tt)
longer_some (Some a) None x e = inr (e, tt)
longer_some (Some a) (Some b) x e =
    elim (either (nat_lt a.1 b.1) a b x e) [
      | inl w ↦ inl (ap Some w.1, shorter a b x (ltb-true a.1 b.1 w.0) (ap (λ (p : Token × ℕ). p.1) w.1))
      | inr w ↦ inr (ap Some w.1, no_longer a b x (ltb-false a.1 b.1 w.0) (ap (λ (p : Token × ℕ). p.1) w.1))
    ]

-- both of two are at most as long as the longer one
both_at_most : (a b : Option (Token × ℕ)) (n : ℕ) → AtMost (longer_of a b) n → AtMost a n × AtMost b n
both_at_most None b n h = (tt, h)
both_at_most (Some a) None n h = (h, tt)
both_at_most (Some a) (Some b) n h = pair_at_most (nat_lt a.1 b.1) a b n (λ t. ltb-true a.1 b.1 t) (λ t. ltb-false a.1 b.1 t) h

found_at_most : (o : Option (Token × ℕ)) (x : Token × ℕ) → o ≡ Some x → AtMost o x.1
found_at_most None x e = tt
found_at_most (Some f) x e = let same = ap (λ (p : Token × ℕ). p.1) (some_same f x e) in omega arith

-- no word is longer where the longest is at most so long
none_longer : (words : List Word) (first : ℕ) (rest : List ℕ) (n : ℕ) → AtMost (longest_in words first rest) n
    → NoneIsLonger words first rest n
none_longer [] first rest n h = tt
none_longer (w ∷ ws) first rest n h =
    let both = both_at_most (fitting w first rest) (longest_in ws first rest) n h in
    (both.0, none_longer ws first rest n both.1)

one_of : (words : List Word) (first : ℕ) (rest : List ℕ) (token : Token) (more : ℕ) → longest_in words first rest ≡ Some (token, more)
    → IsOneOf words first rest token more
one_of [] first rest token more e = cc
one_of (w ∷ ws) first rest token more e =
    elim (longer_some (fitting w first rest) (longest_in ws first rest) (token, more) e) [
      | inl k ↦ inr (one_of ws first rest token more k.0)
      | inr k ↦ inl k.0
    ]

pub longest : (words : List Word) (first : ℕ) (rest : List ℕ) (token : Token) (more : ℕ)
    → longest_in words first rest ≡ Some (token, more) → IsOneOf words first rest token more × NoneIsLonger words first rest more
longest words first rest token more e = (
  one_of words first rest token more e,
  none_longer words first rest more (found_at_most
      (longest_in words first rest) (token, more) e),
)
