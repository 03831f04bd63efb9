-- A base leads to a database on which entries go on.
use Rattle.std.proofs.Common.{◌≡◌, ◌<◌, ℕ, zero, suc, IsTrue, List, [], ◌∷◌, length, Option, Some, None, refl, subst, ◌∙◌, arith}
use Rattle.std.proofs.lemmas.Bool.{lt-ltb}
use Rattle.std.specs.Prelude.{◌↔◌, IsSome, Contains, slice_get, slice_index_or, unwrap_or}
use Rattle.ioc_dbfile.specs.FirstWorld.{first_world}
use Rattle.ioc_journal_base.specs.declared.bases.DeskCalls.{DeskCalls}
use Rattle.ioc_notify.specs.declared.live_numbers.Live.{Live}
use Rattle.ioc_notify.specs.declared.waiting_lists.Waiting.{Waiting}
use Rattle.ioc_process.specs.Rules.{IsSettled}
use Rattle.ioc_record.specs.RecordRules.{targets}
use Rattle.ioc_store.specs.OneMap.{numbered}
use Rattle.ioc_store.specs.OneMapLaws.{get-numbered, contains-numbered, has_within}
use Rattle.ioc_store.specs.World.{World, at, begun, begun_at}
use Rattle.rec_types.specs.Record.{Record, record_rules}
use Rattle.rec_types.specs.RecordLaws.{record_lawful}
use Rattle.ioc_events.specs.StepRules.{Replay, at_the_end}
use Rattle.ioc_journal_audit.specs.declared.auditor.Auditor.{Auditor}
use Rattle.ioc_journal_audit.specs.Audit.{HasAudited}
use Rattle.ioc_journal_audit.specs.Numbers.{count_to, count_in, AreBegun}
use Rattle.ioc_journal_audit.specs.PlayedMap.{world_of}
use Rattle.ioc_journal_audit.specs.Resuming.{AllBelow, IsSettledRecord, AllSettled, world_with, base_world, live_of, calls_of, start_of}

-- ---- Settled records

below_at : (count : ℕ) (xs : List ℕ) (i x : ℕ) → AllBelow count xs → i < length xs → slice_index_or xs i x ≡ x → x < count
below_at count [] i x h lt e = absurd (omega arith)
below_at count (y ∷ ys) zero x h lt e = let same : y ≡ x = e in rw same at h.0
below_at count (y ∷ ys) (suc i) x h lt e = let within : i < length ys = omega arith in below_at count ys i x h.1 within e

settled_at : (count : ℕ) (rs : List Record) (i : ℕ) (r : Record) → AllSettled count rs → slice_get rs i ≡ Some r → IsSettledRecord count r
settled_at count [] i r all is = cc
settled_at count (x ∷ xs) zero r all is = let same : x ≡ r = cc in subst (λ (y : Record). IsSettledRecord count y) same all.0
settled_at count (x ∷ xs) (suc i) r all is = settled_at count xs i r all.1 is

some_at : (rs : List Record) (i : ℕ) → i < length rs → (r : Record) × (slice_get rs i ≡ Some r)
some_at [] i h = absurd (omega arith)
some_at (x ∷ xs) zero h = (x, refl)
some_at (x ∷ xs) (suc i) h = some_at xs i (omega arith)

-- What the links of a record at a number lead to, if there is one.
targets_below : (count : ℕ) (rs : List Record) (o : Option Record) (n : ℕ) → AllSettled count rs → slice_get rs n ≡ o → AllBelow count (targets record_rules (unwrap_or o record_rules.missing))
targets_below count rs None n all is = rw record_lawful.missing_targets tt
targets_below count rs (Some r) n all is = (settled_at count rs n r all is).below

-- Nothing is left of the records.
pub short_settled : (count : ℕ) (rs : List Record) → length rs < 1 → AllSettled count rs
short_settled count [] h = tt
short_settled count (r ∷ rs) h = absurd (omega arith)

at_first : (rs : List Record) (n : ℕ) (r : Record) → slice_get rs n ≡ Some r → r ≡ at record_rules (first_world rs) n
unfolding at first_world
at_first rs n r is = rw (get-numbered, is) refl

pub all_settled : (rs : List Record) → AllSettled (length rs) rs → IsSettled record_rules (first_world rs)
unfolding at first_world
all_settled rs all = record {
  closed = record {
    closed = λ n target named.
        let here : Contains (targets record_rules (unwrap_or (slice_get rs n) record_rules.missing)) target = rw (get-numbered) at named in
        let below : target < length rs = below_at (length rs) _ here.0 target (targets_below (length rs) rs (slice_get rs n) n all refl) here.1 here.2 in
        rw (contains-numbered rs target) (lt-ltb target (length rs) below);
  };
  quiet = record {
    quiet = λ n has.
        let there = some_at rs n (has_within rs n has) in
        let quiet = (settled_at (length rs) rs n there.0 all there.1).quiet in
        subst (λ (r : Record). IsTrue r.common.active ↔ IsSome r.common.pending) (at_first rs n there.0 there.1) quiet;
  };
}

-- ---- The database of a base

pub puts_are : (w : World Record) (records : List Record) (live : List Live) (waiting : List Waiting) → w.records ≡ numbered records → w.live ≡ live → w.waiting ≡ waiting → w ≡ begun_at 0 w → w ≡ world_with records live waiting
unfolding begun begun_at first_world world_with
puts_are w records live waiting is alive waits fresh =
    fresh ∙ (λ i. record { records = is i; moment = 0; calls = []; outbox = []; dropped = 0; live = alive i; ended = []; waiting = waits i })

pub with_settled : (records : List Record) (live : List Live) (waiting : List Waiting) → (first_world records).records ≡ (world_with records live waiting).records
unfolding first_world world_with
with_settled records live waiting = refl

-- An auditor of a base is one that has audited no entry from there on.
pub resumed : (a : Auditor) (place : ℕ) (records : List Record) (waiting waits : List Waiting) (live : List Live) (desks : List DeskCalls)
    → world_of a.map ≡ world_with records live waits → live ≡ live_of records waiting → waits ≡ waiting → count_to a.place ≡ place
    → ((desk : ℕ) → count_in a.desks desk ≡ calls_of desks desk) → AreBegun a.begun [] → HasAudited (start_of place desks) (base_world records waiting) [] a
resumed a place records waiting waits live desks is alive waited there counted begun =
    let same : world_of a.map ≡ base_world records waiting = is ∙ (λ i. world_with records (alive i) (waited i)) in
    record {
      legal = record { numbered = tt; replay = subst (λ (w : World Record). Replay record_rules w [] (world_of a.map)) same at_the_end };
      place = omega (arith, there);
      desks = λ desk. let e : count_in a.desks desk ≡ calls_of desks desk = counted desk in omega (arith, e);
      begun = begun;
    }
