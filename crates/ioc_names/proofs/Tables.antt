-- The entries of the hash table as a finite map.
use Rattle.std.proofs.Common.{◌≡◌, ℕ, ◌<◌, ◌≤◌, Bool, true, false, cond, nat_eq, Option, Some, None, IfSome, List, [], ◌∷◌, length, refl, sym, ap, ◌∙◌, arith}
use Rattle.std.proofs.lemmas.Slice.Eq.{bytes_eq-Decides}
use Rattle.std.specs.Ordering.{nat_cmp, eq_by_cmp}
use Rattle.std.specs.Cmp.Lexicographic.{pointwise, slice_cmp, nat_list_cmp_total, texts_ties}
use Rattle.std.specs.FinMap.{FinMap, from_entries, get, insert, find, get-insert, get-from_entries, from_entries_push, nat_cmp-IsAntisymmetric, slice_cmp-IsAntisymmetric}
use Rattle.std.specs.Map.{lookup}
use Rattle.indexmap.specs.IndexMap.{IndexMap, insert_entry}
use Rattle.indexmap.proofs.CallerLemmas.{insert_entry-new}
use Rattle.ioc_names.specs.Entries.{number_map}
use Rattle.ioc_names.specs.NameTable.{IsNameTable}

lookup-find : (q : List ℕ) (es : List (List ℕ × ℕ)) → lookup (pointwise nat_eq q) es ≡ find (slice_cmp nat_cmp) q es
lookup-find q [] = refl
lookup-find q (e ∷ es) =
    ap (λ b. cond b (Some e.1) (lookup (pointwise nat_eq q) es)) (texts_ties q e.0)
    ∙ ap (λ r. cond (eq_by_cmp (slice_cmp nat_cmp) q e.0) (Some e.1) r) (lookup-find q es)

-- A look-up in the entries is a look-up in the map.
pub lookup-get : (q : List ℕ) (es : List (List ℕ × ℕ)) → lookup (pointwise nat_eq q) es ≡ get (from_entries {R = slice_cmp nat_cmp} es) q
lookup-get q es = lookup-find q es ∙ sym (get-from_entries nat_list_cmp_total es q)

-- An insertion of a new name into the entries is an insertion into the map.
pub from_entries-insert_entry : {S : Type 0} (m : IndexMap (List ℕ) ℕ S) (es : List (List ℕ × ℕ)) (name : List ℕ) (v : ℕ) → get (from_entries {R = slice_cmp nat_cmp} m.entries) name ≡ None → es ≡ insert_entry (pointwise nat_eq) m.entries name v → from_entries {R = slice_cmp nat_cmp} es ≡ insert (from_entries m.entries) name v
from_entries-insert_entry m es name v free e =
    let none : lookup (pointwise nat_eq name) m.entries ≡ None = lookup-get name m.entries ∙ free in
    ap (λ xs. from_entries {R = slice_cmp nat_cmp} xs) (e ∙ insert_entry-new (pointwise nat_eq) m name v none)
    ∙ from_entries_push nat_list_cmp_total (slice_cmp-IsAntisymmetric nat_cmp-IsAntisymmetric) m.entries name v (sym (lookup-find name m.entries) ∙ none)

pub apart : (q name : List ℕ) (b : Bool) → pointwise nat_eq q name ≡ b → (q ≡ name → ⊥) → b ≡ false
apart q name true e differ = absurd (differ ((bytes_eq-Decides q name).0 e))
apart q name false e differ = refl

within : (b : Bool) (v n bigger : ℕ) (o : Option ℕ) → v < bigger → (o ≡ Some n → n < bigger) → cond b (Some v) o ≡ Some n → n < bigger
within true v n bigger o h k e = let s : v ≡ n = cc in omega arith
within false v n bigger o h k e = k e

-- The table stays valid if a name of at most 60 bytes is inserted for an existing record.
pub IsNameTable-insert : (t : FinMap (slice_cmp nat_cmp) ℕ) (count bigger : ℕ) (name : List ℕ) (v : ℕ) → length name ≤ 60 → v < bigger → count ≤ bigger → IsNameTable t count → IsNameTable (insert t name v) bigger
IsNameTable-insert t count bigger name v few there grows is = record {
  short = λ q long.
      let differ : q ≡ name → ⊥ = λ s. (let same : length q ≡ length name = ap length s in omega arith) in
      let no : eq_by_cmp (slice_cmp nat_cmp) q name ≡ false = sym (texts_ties q name) ∙ apart q name (pointwise nat_eq q name) refl differ in
      get-insert nat_list_cmp_total t name v q ∙ ap (λ b. cond b (Some v) (get t q)) no ∙ is.short q long;
  known = λ q n e.
      within (eq_by_cmp (slice_cmp nat_cmp) q name) v n bigger (get t q) there
      (λ s. let below : n < count = is.known q n s in omega arith)
      (sym (get-insert nat_list_cmp_total t name v q) ∙ e);
}

pub IsNameTable-empty : (count : ℕ) → IsNameTable (number_map []) count
IsNameTable-empty count = record {
  short = λ q long. get-from_entries nat_list_cmp_total [] q;
  known = λ q n e. (let none : None ≡ Some n = sym (get-from_entries nat_list_cmp_total [] q) ∙ e in cc);
}

pub number-known : (t : FinMap (slice_cmp nat_cmp) ℕ) (count : ℕ) → IsNameTable t count → (q : List ℕ) (r : Option ℕ) → r ≡ get t q → IfSome r (λ n. n < count)
number-known t count is q None e = tt
number-known t count is q (Some n) e = is.known q n (sym e)
