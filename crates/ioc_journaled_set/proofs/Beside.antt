-- What a set and the table of the puts with notification know after an event on the set.
use Rattle.std.proofs.Common.{◌≡◌, ◌↔◌, ℕ, ◌+◌, ◌≤◌, Bool, true, false, cond, nat_eq, nat_lt, List, [], ◌∷◌, ◌++◌, length, Option, None, refl, sym, ap, ◌∙◌, subst, inl, arith}
use Rattle.std.specs.Prelude.{Contains}
use Rattle.std.proofs.lemmas.List.Sums.{sum_by-cons}
use Rattle.ioc_device.specs.declared.Ask.{Ask}
use Rattle.ioc_device.specs.declared.Answer.{Answer}
use Rattle.ioc_notify.specs.declared.live_numbers.Live.{Live}
use Rattle.ioc_notify.specs.Living.{holders_of}
use Rattle.ioc_record.specs.RecordRules.{RecordRules}
use Rattle.ioc_store.specs.World.{World, Has, begun_at}
use Rattle.ioc_notify.specs.Counts.{holders_in, lines_of}
use Rattle.ioc_events.specs.declared.event.Event.{Event}
use Rattle.ioc_events.specs.declared.event.Entry.{Entry}
use Rattle.ioc_events.specs.declared.event.Call.TheVariants as calling
use Rattle.ioc_events.specs.declared.reply.Reply.{Reply}
use Rattle.ioc_events.specs.Holding.{IsCounted, IsHeld, how_many, holders}
use Rattle.ioc_events.specs.Local.{AskAlike}
use Rattle.ioc_events.specs.Step.{names}
use Rattle.ioc_journal.specs.declared.entry.Note.{Note}
use Rattle.ioc_journal.specs.Key.{Key, Has as Has_key}
use Rattle.ioc_journal.specs.KeyLaws.{has_left, has_right}
use Rattle.ioc_journal.specs.Line.{Continues, noted}
use Rattle.ioc_journal.specs.Legal.{IsLegal, IsSound, key_of, map_of, notifications_key}
use Rattle.ioc_journal.specs.Counting.{sent_in, tallied_by, BothMaySend, BothMayCount}
use Rattle.ioc_ledger.specs.Shared.{ShareView}
use Rattle.ioc_ledger.specs.declared.tally.Tally.{Tally}
use Rattle.ioc_journal.specs.Covering.{Holds, Cover, CancelsWithin}
use Rattle.ioc_journal.specs.Laws.{MovesAlike, GoesOn}
use Rattle.ioc_journal.specs.Account.{journalled, BothMayFollow, AddedByBoth, puts_key}
use Rattle.ioc_set.specs.SetState.{SetState, now_of, done_by}
use Rattle.ioc_set.specs.Doing.{Does}
use Rattle.ioc_journaled_set.specs.CallLaws.{CallLaws}
use Rattle.ioc_journaled_set.specs.Holding.{entry_of_event}
use Rattle.ioc_journaled_set.specs.Puts.{AreMoved}
use Rattle.ioc_journaled_set.proofs.Serving.{holds_on, live_then, records_then, waiting_then, ended_then, noted_on, moved_on, sent_on, counted_on, counts_with, ended_on}

-- The two ways of counting the lines of a number agree.
pub lines_are : (n : ℕ) (ls : List Live) → lines_of n ls ≡ how_many (λ (l : Live). l.number) n ls
lines_are n [] = refl
lines_are n (x ∷ xs) =
    let rest = lines_are n xs in
    let all = sum_by-cons (λ (l : Live). cond (nat_eq l.number n) 1 0) x xs in
    elim (nat_eq x.number n) as (λ b. lines_of n (x ∷ xs) ≡ cond b 1 0 + lines_of n xs → lines_of n (x ∷ xs) ≡ cond b (1 + how_many (λ (l : Live). l.number) n xs) (how_many (λ (l : Live). l.number) n xs)) [
      | true ↦ λ is. omega (arith, is, rest)
      | false ↦ λ is. omega (arith, is, rest)
    ] all

one_at_most : (b : Bool) → cond b 1 0 ≤ 1
one_at_most true = omega arith
one_at_most false = omega arith

-- Each put with notification has at most one line in a counted world.
pub once_live : {R : Type 0} (k : RecordRules R) (w : World R) → IsCounted k w → (n : ℕ) → lines_of n w.live ≤ 1
once_live k w counted n = let lines = lines_are n w.live in let once = counted.counted.live n in let one = one_at_most (nat_lt 0 (holders k w n)) in omega (arith, lines, once, one)

-- An event was done on a set, and the keys of the set and of the puts with notification are owned.
module _ {R D : Type 0} (k : RecordRules R) (gives : D → Ask → ℕ → Answer → D → Type 0) (most : ℕ) (h h' : SetState R D) (moment : ℕ) (event : Event) (reply : Reply) (come_to base : World R) (seen also_seen : List Note) (owned : List Key) (entry : Entry) where
  pub record IsDoneBeside : Type 0 where
    pub does : Does k gives most h moment event reply h' come_to
    pub there : (n : ℕ) → Contains (names event) n → Has (now_of h) n
    pub laws : CallLaws k
    pub covers : Cover owned (now_of h)
    pub holds : Holds k (map_of k base seen) (now_of h)
    pub cancels : (log : List Note) → IsSound k base → Continues also_seen puts_key log → IsLegal k base log → Holds k (map_of k base log) (now_of h) → (r : Reply) → CancelsWithin k (map_of k base log) (now_of h) (calling.Event event r)
    pub asks : (log : List Note) → IsSound k base → Continues also_seen puts_key log → IsLegal k base log → Holds k (map_of k base log) (now_of h)
        → AskAlike (begun_at moment (now_of h)) (begun_at moment (map_of k base log)) event
    pub entry_is : entry_of_event does.entry ≡ entry

module _ {R D : Type 0} {k : RecordRules R} {gives : D → Ask → ℕ → Answer → D → Type 0} {most : ℕ} {h h' : SetState R D} {moment : ℕ} {event : Event} {reply : Reply} {come_to base : World R} {seen also_seen : List Note} {owned : List Key} {entry : Entry}
    (d : IsDoneBeside k gives most h h' moment event reply come_to base seen also_seen owned entry) where
  abbrev after : World R
  after = (done_by k (now_of h) d.does.entry).world

  abbrev note : (desk call : ℕ) → List Key → Note
  note desk call own = noted (journalled desk call (entry_of_event d.does.entry)) ((owned ++ puts_key) ++ own)

  has_puts : (own : List Key) → Has_key notifications_key ((owned ++ puts_key) ++ own)
  has_puts own = has_left notifications_key (owned ++ puts_key) own (has_right notifications_key owned puts_key (inl refl))

  module _ (log : List Note) (desk call : ℕ) (own : List Key) (sound : IsSound k base) (go : Continues seen owned log) (also : Continues also_seen puts_key log) (legal : IsLegal k base log) where
    held : Holds k (map_of k base log) (now_of h)
    held = holds_on k d.laws.lasts base (now_of h) seen owned d.covers d.holds log go legal

    goes : GoesOn k base log (note desk call own) (λ m. Holds k m after)
    goes =
        noted_on k gives h h' moment event reply come_to d.does d.there d.laws.one_more d.laws.moves base log desk call ((owned ++ puts_key) ++ own) sound legal held
        (λ r s. has_left (key_of r) (owned ++ puts_key) own (has_left (key_of r) owned puts_key (d.covers r s)))
        (d.cancels log sound also legal held) (d.asks log sound also legal held) (λ out. absurd (out (has_puts own)))

    move : MovesAlike k (map_of k base log) (map_of k base (log ++ note desk call own ∷ [])) (now_of h) after
    move =
        moved_on k gives h h' moment event reply come_to d.does d.there d.laws.one_more d.laws.moves base log desk call ((owned ++ puts_key) ++ own) sound legal held
        (λ r s. has_left (key_of r) (owned ++ puts_key) own (has_left (key_of r) owned puts_key (d.covers r s)))
        (d.cancels log sound also legal held) (d.asks log sound also legal held) (λ out. absurd (out (has_puts own)))

  -- The event may follow any legal list that continues from what both have seen.
  pub both_follow : BothMayFollow k base seen owned also_seen puts_key entry
  both_follow = subst (λ (x : Entry). BothMayFollow k base seen owned also_seen puts_key x) d.entry_is (λ log desk call own sound go also legal. (goes log desk call own sound go also legal).legal)

  -- The event sends and drops as much after any such list as on the set.
  pub both_send : BothMaySend k base seen owned also_seen puts_key entry (sent_in come_to)
  both_send = subst (λ (x : Entry). BothMaySend k base seen owned also_seen puts_key x (sent_in come_to)) d.entry_is
      (λ log desk call own sound go also legal.
      let here = held log desk call own sound go also legal in
      sent_on k gives h h' moment event reply come_to d.does d.there d.laws.one_more d.laws.moves base log desk call ((owned ++ puts_key) ++ own) sound legal here
      (λ r s. has_left (key_of r) (owned ++ puts_key) own (has_left (key_of r) owned puts_key (d.covers r s)))
      (d.cancels log sound also legal here) (d.asks log sound also legal here) (λ out. absurd (out (has_puts own))) d.laws.counts)

  -- The event counts as much after any such list as on the set.
  pub both_count : (share : Option ShareView) (before then : Tally) → (share ≡ None → ⊥) → before ≡ h.tally → then ≡ h'.tally
      → BothMayCount k base seen owned also_seen puts_key entry share before then
  both_count share before then share_there was now = subst (λ (x : Entry). BothMayCount k base seen owned also_seen puts_key x share before then) d.entry_is
      (λ log desk call own sound go also legal.
      let here = held log desk call own sound go also legal in
      counts_with k (map_of k base log) (note desk call own) share before then share_there
      (now
      ∙ counted_on k gives h h' moment event reply come_to d.does d.there d.laws.one_more d.laws.moves base log desk call ((owned ++ puts_key) ++ own) sound legal here
      (λ r s. has_left (key_of r) (owned ++ puts_key) own (has_left (key_of r) owned puts_key (d.covers r s)))
      (d.cancels log sound also legal here) (d.asks log sound also legal here) (λ out. absurd (out (has_puts own))) d.laws.counts
      ∙ ap (λ (t : Tally). tallied_by k t (map_of k base log) (note desk call own)) (sym was)))

  module _ (log longer : List Note) (added : AddedByBoth k base seen owned also_seen puts_key entry log longer) where
    as_done : AddedByBoth k base seen owned also_seen puts_key (entry_of_event d.does.entry) log longer
    as_done = subst (λ (x : Entry). AddedByBoth k base seen owned also_seen puts_key x log longer) (sym d.entry_is) added

    -- The set is held after the event.
    pub held_beside : Holds k (map_of k base longer) (now_of h')
    held_beside =
        let a = as_done in
        let known = (goes log a.desk a.call a.own a.sound a.goes_on a.also_goes_on a.legal).known in
        d.laws.alike (map_of k base longer) after (now_of h') (subst (λ (l : List Note). Holds k (map_of k base l) after) (sym a.ends) known)
        (records_then k gives h h' moment event reply come_to d.does d.there) (waiting_then k gives h h' moment event reply come_to d.does d.there)

    -- What has ended among all records has ended on the set, and its count is zero.
    pub ended_beside : IsCounted k (now_of h) → (n : ℕ) → Contains (map_of k base longer).ended n ↔ (Contains come_to.ended n × (holders_of n (map_of k base longer).live ≡ 0))
    ended_beside counted n =
        let a = as_done in
        let owner = (owned ++ puts_key) ++ a.own in
        let over =
        ended_on k gives h h' moment event reply come_to d.does d.there d.laws.one_more d.laws.moves base log a.desk a.call owner a.sound a.legal (held log a.desk a.call a.own a.sound a.goes_on a.also_goes_on a.legal)
        (λ r s. has_left (key_of r) (owned ++ puts_key) a.own (has_left (key_of r) owned puts_key (d.covers r s)))
        (d.cancels log a.sound a.also_goes_on a.legal (held log a.desk a.call a.own a.sound a.goes_on a.also_goes_on a.legal))
        (d.asks log a.sound a.also_goes_on a.legal (held log a.desk a.call a.own a.sound a.goes_on a.also_goes_on a.legal)) (λ out. absurd (out (has_puts a.own))) d.laws.over counted n in
        let all = subst (λ (l : List Note). Contains (map_of k base l).ended n ↔ (Contains after.ended n × (IsHeld k (map_of k base l) n → ⊥))) (sym a.ends) over in
        let on_set = subst (λ (ls : List ℕ). Contains (map_of k base longer).ended n ↔ (Contains ls n × (IsHeld k (map_of k base longer) n → ⊥))) (sym (ended_then k gives h h' moment event reply come_to d.does d.there)) all in
        let none = d.laws.nobody (map_of k base longer) (d.laws.sound base longer a.sound).2 n in (
          λ has. (let both = on_set.0 has in (both.0, none.0 both.1)),
          λ both. on_set.1 (both.0, none.1 both.1),
        )

    -- The counts of all records change as those of the set do.
    pub moved_beside : (told : (ls : List Live) (n : ℕ) → lines_of n ls ≤ 1 → holders_of n ls ≡ holders_in n ls)
        (counted : IsCounted k (now_of h)) (counted_then : IsCounted k (now_of h')) → AreMoved k base log longer h.live h'.live
    moved_beside told counted counted_then =
        let a = as_done in
        let now = move log a.desk a.call a.own a.sound a.goes_on a.also_goes_on a.legal in
        let legal_then = subst (λ (l : List Note). IsLegal k base l) (sym a.ends) (goes log a.desk a.call a.own a.sound a.goes_on a.also_goes_on a.legal).legal in
        let sound_log = (d.laws.sound base log a.sound).0 a.legal in
        let sound_then = (d.laws.sound base longer a.sound).0 legal_then in
        let own = λ (n : ℕ). told h.live n (once_live k (now_of h) counted n) in
        let own_then = λ (n : ℕ). told h'.live n (once_live k (now_of h') counted_then n) in
        let same_live = live_then k gives h h' moment event reply come_to d.does d.there in
        record {
          moved = λ n.
              let by = subst (λ (l : List Note). holders_of n (map_of k base l).live + holders_of n (now_of h).live ≡ holders_of n (map_of k base log).live + holders_of n after.live) (sym a.ends) (now.live counted n) in
              let first = own n in
              let last = own_then n in
              let kept = ap (λ (ls : List Live). holders_of n ls) same_live in
              omega (arith, by, first, last, kept);
          fewer = λ n. let less = d.laws.fewer (map_of k base log) (now_of h) (held log a.desk a.call a.own a.sound a.goes_on a.also_goes_on a.legal) sound_log.counted counted n in let first = own n in omega (arith, less, first);
          fits = λ n. d.laws.few (map_of k base longer) sound_then.counted n;
          few = sound_then.few;
        }
