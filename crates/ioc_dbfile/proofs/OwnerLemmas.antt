-- The first record that names a device owns it.
use Rattle.std.proofs.Common.{◌≡◌, ℕ, Bool, true, false, cond, ◌||◌, Option, Some, None, List, nat_eq, is_some, [], ◌∷◌, ◌≤◌, length, refl, sym, ◌∙◌, arith}
use Rattle.std.specs.List.{position_from}
use Rattle.std.proofs.lemmas.Slice.Eq.{bytes_eq-Decides}
use Rattle.std.specs.Cmp.Lexicographic.{pointwise}
use Rattle.std.specs.Prelude.{if◌then◌else◌}
use Rattle.ioc_dbfile.specs.OwnerTable.{or_else}

abbrev pub number_if : Bool → ℕ → Option ℕ
number_if b n = if b then Some n else None

-- A device that no further link names gets no owner.
pub no_more : (o : Option ℕ) (n : ℕ) → o ≡ or_else o (number_if false n)
no_more None n = refl
no_more (Some m) n = refl

-- One more link.
pub one_more : (old new : Option ℕ) (n : ℕ) (here more : Bool) → new ≡ or_else old (number_if here n) → or_else new (number_if more n) ≡ or_else old (number_if (here || more) n)
one_more None new n true more e = rw e refl
one_more None new n false more e = rw e refl
one_more (Some m) new n here more e = rw e refl

-- One more record.
pub then_others : (old new others : Option ℕ) (n : ℕ) (here : Bool) → new ≡ or_else old (number_if here n) → or_else new others ≡ or_else old (cond here (Some n) others)
then_others None new others n true e = rw e refl
then_others None new others n false e = rw e refl
then_others (Some m) new others n here e = rw e refl

pub or_none : (o : Option ℕ) → or_else o None ≡ o
or_none None = refl
or_none (Some n) = refl

-- A device without an owner gets one, and every other device keeps its own.
pub put_first : (owner : List ℕ → Option ℕ) (name text : List ℕ) (n : ℕ) (b : Bool) (new : Option ℕ) → pointwise nat_eq name text ≡ b → is_some (owner name) ≡ false → new ≡ cond b (Some n) (owner text)
    → new ≡ or_else (owner text) (number_if b n)
put_first owner name text n true new same none e =
    let is : name ≡ text = (bytes_eq-Decides name text).0 same in
    let unowned : is_some (owner text) ≡ false = rw is at none in
    first_put (owner text) n new unowned e
  where
    first_put : (o : Option ℕ) (n : ℕ) (new : Option ℕ) → is_some o ≡ false → new ≡ Some n → new ≡ or_else o (number_if true n)
    first_put None n new unowned e = e
    first_put (Some m) n new unowned e = absurd cc
put_first owner name text n false new same none e = e ∙ no_more (owner text) n

-- A device that has an owner keeps it.
pub put_again : (owner : List ℕ → Option ℕ) (name text : List ℕ) (n : ℕ) (b : Bool) → pointwise nat_eq name text ≡ b → is_some (owner name) ≡ true → owner text ≡ or_else (owner text) (number_if b n)
put_again owner name text n true same some =
    let is : name ≡ text = (bytes_eq-Decides name text).0 same in
    let owned : is_some (owner text) ≡ true = rw is at some in
    still (owner text) n owned
  where
    still : (o : Option ℕ) (n : ℕ) → is_some o ≡ true → o ≡ or_else o (number_if true n)
    still None n owned = absurd cc
    still (Some m) n owned = refl
put_again owner name text n false same some = no_more (owner text) n

-- No record is left.
pub none_at_end : {A : Type 0} (o all : Option ℕ) (p : A → Bool) (n : ℕ) (rest : List A) → length rest ≤ 0 → or_else o (position_from p n rest) ≡ all → o ≡ all
none_at_end o all p n [] none e = sym (or_none o) ∙ e
none_at_end o all p n (x ∷ xs) none e = absurd (omega (arith, none))
