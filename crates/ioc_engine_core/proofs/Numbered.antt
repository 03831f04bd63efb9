-- The number of numbered records.
use Rattle.std.proofs.Common.{◌≡◌, ◌<◌, ℕ, true, nat_lt, List, length, eqb, sym, ◌∙◌, arith}
use Rattle.std.specs.FinMap.{keys, len, contains_key}
use Rattle.std.specs.List.{list_any}
use Rattle.std.proofs.lemmas.Bool.{ltb-true, lt-ltb}
use Rattle.std.proofs.lemmas.Map.Steps.{length-le_from_distinct_below, le-length_from_below}
use Rattle.ioc_store.specs.OneMap.{numbered}
use Rattle.ioc_store.specs.OneMapLaws.{contains-numbered}
use Rattle.ioc_journaled_set.proofs.Keys.{keys_count}
use Rattle.ioc_engine_core.proofs.SameKeys.{keys-distinct, has-key}

-- Records that are numbered by their places are as many as before.
pub many-numbered : {R : Type 0} (items : List R) → len (numbered items) ≡ length items
many-numbered items =
    let m = numbered items in
    let within : (q : ℕ) → list_any (eqb q) (keys m) ≡ true → q < length items = λ q there. ltb-true q (length items) (sym (contains-numbered items q) ∙ has-key m q ∙ there) in
    let there : (q : ℕ) → q < length items → list_any (eqb q) (keys m) ≡ true = λ q lt. sym (has-key m q) ∙ contains-numbered items q ∙ lt-ltb q (length items) lt in
    let at_most = length-le_from_distinct_below (keys m) (length items) (keys-distinct m) within in
    let at_least = le-length_from_below (keys m) (length items) there in
    let count = keys_count m in
    omega (arith, at_most, at_least, count)
