-- Look-ups in a map after a name is inserted.
use Rattle.std.proofs.Common.{◌≡◌, ◌≢◌, ℕ, cond, nat_eq, true, false, Some, List, refl, sym, ap, ◌∙◌}
use Rattle.std.proofs.lemmas.Slice.Eq.{bytes_eq-Decides}
use Rattle.std.specs.Ordering.{nat_cmp, eq_by_cmp}
use Rattle.std.specs.Cmp.Lexicographic.{pointwise, slice_cmp, nat_list_cmp_total, texts_ties}
use Rattle.std.specs.FinMap.{FinMap, get, insert, get-insert}
use Rattle.ioc_names.proofs.Tables.{apart}

pub get-insert-same : (m : FinMap (slice_cmp nat_cmp) ℕ) (name : List ℕ) (v : ℕ) → get (insert m name v) name ≡ Some v
get-insert-same m name v =
    let same : eq_by_cmp (slice_cmp nat_cmp) name name ≡ true = sym (texts_ties name name) ∙ (bytes_eq-Decides name name).1 refl in
    get-insert nat_list_cmp_total m name v name ∙ ap (λ b. cond b (Some v) (get m name)) same

pub get-insert-other : (m : FinMap (slice_cmp nat_cmp) ℕ) (name : List ℕ) (v : ℕ) (other : List ℕ) → other ≢ name → get (insert m name v) other ≡ get m other
get-insert-other m name v other differ =
    let no : eq_by_cmp (slice_cmp nat_cmp) other name ≡ false = sym (texts_ties other name) ∙ apart other name (pointwise nat_eq other name) refl differ in
    get-insert nat_list_cmp_total m name v other ∙ ap (λ b. cond b (Some v) (get m other)) no
