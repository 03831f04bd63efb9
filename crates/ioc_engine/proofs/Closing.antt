-- A loaded database is at rest, and its links lead to its records.
use Rattle.std.proofs.Common.{◌≡◌, ℕ, zero, suc, List, [], ◌∷◌, map, Some, IsTrue, refl, sym, subst, arith}
use Rattle.std.specs.Prelude.{All, slice_get, is_some, IsSome, Contains}
use Rattle.rec_types.specs.Record.{Record, record_rules}
use Rattle.ioc_record.specs.RecordRules.{targets}
use Rattle.ioc_set_records.specs.declared.loaded.Loaded.{Loaded}
use Rattle.ioc_set_records.specs.Linked.{links_in}
use Rattle.ioc_set_records.specs.Joined.{IsClosed}
use Rattle.ioc_store.specs.OneMapLaws.{get-numbered}
use Rattle.ioc_store.specs.World.{at, IsClosed as IsClosed-world}
use Rattle.ioc_dbfile.specs.FirstWorld.{first_world}
use Rattle.ioc_dbfile.specs.Idle.{IsIdle as IsIdle-record}
use Rattle.ioc_engine_core.specs.Loading.{IsIdle}

at_is : (items : List Record) (n : ℕ) (r : Record) → slice_get items n ≡ Some r → at record_rules (first_world items) n ≡ r
unfolding at first_world
at_is items n r is = rw (get-numbered, is) refl

module _ {D : Type 0} where
  abbrev fields : Loaded Record D → Record
  fields l = l.fields

  found : (all : List (Loaded Record D)) (n : ℕ) (named : List ℕ) → links_in record_rules all n ≡ Some named → (r : Record) × (slice_get (map fields all) n ≡ Some r) × (targets record_rules r ≡ named)
  found [] n named e = cc
  found (l ∷ ls) zero named e = (l.fields, refl, cc)
  found (l ∷ ls) (suc n) named e = found ls n named e

  there : (all : List (Loaded Record D)) (n : ℕ) → IsTrue (is_some (slice_get (map fields all) n)) → IsSome (links_in record_rules all n)
  there [] n has = cc
  there (l ∷ ls) zero has = has
  there (l ∷ ls) (suc n) has = there ls n has

  -- No link leaves the records of a loaded database.
  pub closed_in : (items : List Record) (all : List (Loaded Record D)) → map fields all ≡ items → IsClosed-world record_rules (first_world items) → IsClosed (links_in record_rules all)
  unfolding first_world
  closed_in items all same closed a b named =
      let f = found all a named.0 named.1 in
      let is : slice_get items a ≡ Some f.0 = rw (sym same) f.1 in
      let here : Contains (targets record_rules (at record_rules (first_world items) a)) b = rw (at_is items a f.0 is, f.2) named.2 in
      let has = closed.closed a b here in
      let got : IsTrue (is_some (slice_get items b)) = rw get-numbered at has in
      there all b (rw same got)

  idle_each : (all : List (Loaded Record D)) → All (IsIdle-record record_rules) (map fields all) → All (λ (l : Loaded Record D). IsIdle record_rules l.fields) all
  idle_each [] idle i d lt = absurd (omega arith)
  idle_each (l ∷ ls) idle zero d lt = let h = idle zero d.fields (omega arith) in record { inactive = h.active; nothing_awaited = h.pending; free = h.free }
  idle_each (l ∷ ls) idle (suc i) d lt = idle_each ls (λ j r within. idle (suc j) r (omega arith)) i d (omega arith)

  -- The records of a loaded database are idle.
  pub idle_in : (items : List Record) (all : List (Loaded Record D)) → map fields all ≡ items → All (IsIdle-record record_rules) items → All (λ (l : Loaded Record D). IsIdle record_rules l.fields) all
  idle_in items all same idle = idle_each all (subst (λ (l : List Record). All (IsIdle-record record_rules) l) (sym same) idle)
