-- A set with no records is sound.
use Rattle.std.proofs.Common.{◌≡◌, ℕ, false, true, List, [], ◌∷◌, length, Option, Some, None, refl, sym, ap, subst, ◌∙◌, arith}
use Rattle.std.specs.Prelude.{Contains, is_some, unwrap_or, nat_lt, if◌then◌else◌}
use Rattle.std.specs.Option.{option_map}
use Rattle.std.specs.Ordering.{nat_cmp}
use Rattle.std.specs.FinMap.{empty, get, entries, get-empty, len-empty, len-entries}
use Rattle.ioc_ledger.specs.Requests.{no_counts}
use Rattle.ioc_ledger.specs.declared.tally.Tally.{Tally}
use Rattle.ioc_record.specs.RecordRules.{RecordRules, targets}
use Rattle.ioc_set_records.specs.Contents.{Contents, nothing, RecordsAreLikeTheirBase}
use Rattle.ioc_set_records.specs.Joined.{links_of, IsPart}
use Rattle.ioc_store.specs.World.{World, IsClosed, total, at}
use Rattle.ioc_process.specs.Rules.{IsSettled}
use Rattle.ioc_events.specs.declared.event.EventEntry.{EventEntry}
use Rattle.ioc_events.specs.EventReplay.{at_the_end}
use Rattle.ioc_events.specs.Holding.{IsCounted, HoldersAwait, holders, one_if_has}
use Rattle.ioc_set.specs.Awaiting.{one_if_awaits, awaited}
use Rattle.ioc_set.specs.Puts.{Puts, no_puts}
use Rattle.ioc_set.specs.SetState.{SetState, nothing_held}
use Rattle.ioc_set.specs.Resting.{resting}
use Rattle.ioc_set.specs.Sound.{IsSound, CountsAddUp}
use Rattle.ioc_set.specs.Doing.{held_by}
use Rattle.ioc_set.proofs.EmptyHistory.{WereNone}

none_in : {A : Type 0} (x : A) → Contains [] x → ⊥
none_in x c = let l = c.1 in omega arith

none_some : {A : Type 0} (x : A) → None ≡ Some x → ⊥
none_some x e = cc

false_true : false ≡ true → ⊥
false_true e = cc

nil_of : {A : Type 0} (xs : List A) → length xs ≡ 0 → xs ≡ []
nil_of [] e = refl
nil_of (x ∷ xs) e = absurd (let z : ⊥ = omega (arith, e) in z)

module _ {R : Type 0} where
  none_at : (n : ℕ) → get (empty {K = ℕ} {X = R} {R = nat_cmp}) n ≡ None
  none_at n = get-empty nat_cmp n

  no_entries : entries (empty {K = ℕ} {X = R} {R = nat_cmp}) ≡ []
  no_entries = nil_of (entries (empty {K = ℕ} {X = R} {R = nat_cmp})) (sym (len-entries (empty {K = ℕ} {X = R} {R = nat_cmp})) ∙ len-empty nat_cmp R)

nowhere : (R : Type 0) (n : ℕ) → is_some (get (empty {K = ℕ} {X = R} {R = nat_cmp}) n) ≡ true → ⊥
nowhere R n has = false_true (sym (ap (λ (o : Option R). is_some o) (none_at n)) ∙ has)

module _ {R : Type 0} (k : RecordRules R) (missing : targets k k.missing ≡ []) where
  abbrev at_rest : World R
  at_rest = resting empty [] []

  closed : IsClosed k at_rest
  unfolding at
  closed = record { closed = λ n target c. absurd (none_in target (subst (λ (l : List ℕ). Contains l target) (ap (λ (o : Option R). targets k (unwrap_or o k.missing)) (none_at n) ∙ missing) c)) }

  settled : IsSettled k at_rest
  settled = record { closed = closed; quiet = record { quiet = λ n has. absurd (nowhere R n has) } }

  no_holders : (n : ℕ) → holders k at_rest n ≡ 0
  unfolding holders
  no_holders n = let e = ap (λ l. total (one_if_has k n) l) no_entries in omega (arith, e)

  counted : IsCounted k at_rest
  counted = record {
    closed = closed;
    few = let e = len-empty nat_cmp R in omega (arith, e);
    counted = record { counted = λ n. sym (no_holders n); live = λ n. sym (ap (λ m. if nat_lt 0 m then 1 else 0) (no_holders n)); waits_once = λ n. omega arith };
  }

  awaits : HoldersAwait k at_rest
  awaits = record { records = λ n has. absurd (nowhere R n has); waiting = λ x c. absurd (none_in x c) }

  part : IsPart (links_of k empty)
  part = record {
    one_part = λ a b is. absurd (false_true (sym (ap (λ (o : Option R). is_some (option_map (targets k) o)) (none_at a)) ∙ is));
    closed = λ a b n. absurd (none_some n.0 (sym (ap (λ (o : Option R). option_map (targets k) o) (none_at a)) ∙ n.1));
  }

-- No record awaits a completion.
none_awaited : {R : Type 0} (k : RecordRules R) → awaited k (empty {K = ℕ} {X = R} {R = nat_cmp}) ≡ 0
unfolding awaited
none_awaited k = ap (total (one_if_awaits k)) no_entries

-- An empty set has nothing.
pub none_held : {R D : Type 0} (c : Contents R D) (p : Puts) (b t : Tally) (entries : List EventEntry) → c ≡ nothing → WereNone p → b ≡ no_counts → t ≡ no_counts → entries ≡ [] → held_by c p b t entries ≡ nothing_held
none_held c p b t entries none puts before counts forgotten = λ i. record {
  records = (none i).records;
  devices = (none i).devices;
  live = puts.0.0 i;
  waiting = puts.0.1 i;
  tally = counts i;
  base = record { records = (none i).base; live = puts.1.0 i; waiting = puts.1.1 i; tally = before i };
  history = forgotten i;
}

module _ {R D : Type 0} (k : RecordRules R) (missing : targets k k.missing ≡ []) where
  sound : (t : Tally) → CountsAddUp t 0 → IsSound k (held_by {R = R} {D = D} nothing no_puts t t [])
  sound t counts = record {
    part = part k missing;
    settled = settled k missing;
    none_ready = record { none = λ x c. absurd (none_in x c) };
    counted = counted k missing;
    holders_await = awaits k missing;
    leads = record { after = at_rest k missing; replay = at_the_end; records = refl; live = refl; waiting = refl };
    tally = refl;
    counts = subst (CountsAddUp t) (sym (none_awaited k)) counts;
    short = omega arith;
  }

  pub nothing_is_sound : (c : Contents R D) (p : Puts) (b t : Tally) (entries : List EventEntry) → c ≡ nothing → WereNone p → b ≡ t → entries ≡ [] → CountsAddUp t 0 → IsSound k (held_by c p b t entries)
  nothing_is_sound c p b t entries none puts same forgotten counts =
      let is : held_by c p b t entries ≡ held_by {R = R} {D = D} nothing no_puts t t [] = λ i. record {
        records = (none i).records;
        devices = (none i).devices;
        live = puts.0.0 i;
        waiting = puts.0.1 i;
        tally = t;
        base = record { records = (none i).base; live = puts.1.0 i; waiting = puts.1.1 i; tally = same i };
        history = forgotten i;
      } in
      subst (λ (h : SetState R D). IsSound k h) (sym is) (sound t counts)

  pub nothing_is_like_its_base : (c : Contents R D) → c ≡ nothing → RecordsAreLikeTheirBase k c
  nothing_is_like_its_base c none = subst (λ (m : Contents R D). RecordsAreLikeTheirBase k m) (sym none) (λ q there. absurd (nowhere R q there))
