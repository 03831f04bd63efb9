-- The calls without effect that the owner of the key of the puts with notification may note.
use Rattle.std.proofs.Common.{length, ◌≡◌, ◌↔◌, ℕ, ◌<◌, Bool, true, false, cond, nat_lt, List, [], ◌∷◌, ◌++◌, refl, sym, ap, ◌∙◌, subst, arith}
use Rattle.std.specs.Prelude.{IsTrue}
use Rattle.std.proofs.lemmas.Bool.{ltb-true, lt-ltb}
use Rattle.ioc_values.specs.declared.error.IocError.TheVariants.{Stale}
use Rattle.ioc_ledger.specs.Requests.{None, counted_all}
use Rattle.ioc_ledger.specs.declared.tally.Tally.{Tally}
use Rattle.ioc_notify.specs.declared.live_numbers.Live.{Live}
use Rattle.ioc_notify.specs.Living.{holders_of, is_live}
use Rattle.ioc_notify.specs.Counts.{holders_in, lines_of, IsTable}
use Rattle.ioc_record.specs.RecordRules.{RecordRules}
use Rattle.ioc_store.specs.World.{World, at, begun, begun_at}
use Rattle.ioc_store.specs.Given.{Answers, answers_of, later_among, listed}
use Rattle.ioc_events.specs.declared.event.Event.TheVariants.{Cancel}
use Rattle.ioc_events.specs.declared.event.Call.TheVariants as calling
use Rattle.ioc_events.specs.declared.event.Entry.{Entry}
use Rattle.ioc_events.specs.declared.reply.Reply.TheVariants.{Refused}
use Rattle.ioc_events.specs.Calls.{Called, called}
use Rattle.ioc_events.specs.Holding.{IsCounted, holders}
use Rattle.ioc_events.specs.Step.{Stepped, stepped, done_alone, done_there, refused, with_starts, lets_start, calls_since}
use Rattle.ioc_journal.specs.declared.entry.Note.{Note}
use Rattle.ioc_journal.specs.Key.{Key}
use Rattle.ioc_journal.specs.Counting.{is_completion, sent_in, nothing_sent, tallied_by}
use Rattle.ioc_journaled_set.specs.Sent.{MayCountNothing}
use Rattle.ioc_journal.specs.Line.{Continues, noted}
use Rattle.ioc_journal.specs.Legal.{AreLiveAlike, IsLegal, IsSound, IsUntouched, Fits, done, map_of}
use Rattle.ioc_journal.specs.Account.{journalled, MayFollow, Added, puts_key}
use Rattle.ioc_journaled_set.specs.Puts.{ChangesNothing}
use Rattle.ioc_journaled_set.proofs.Beside.{lines_are}

both_same : (a b : Bool) → (a ≡ true → b ≡ true) → (b ≡ true → a ≡ true) → a ≡ b
both_same true b there back = sym (there refl)
both_same false true there back = let no : false ≡ true = back refl in cc
both_same false false there back = refl

one_if : (a : ℕ) → (b : Bool) → nat_lt 0 a ≡ b → 0 < cond b 1 0 → 0 < a
one_if a true is some = ltb-true 0 a is
one_if a false is some = absurd (omega (arith, some))

if_one : (a : ℕ) → 0 < a → 0 < cond (nat_lt 0 a) 1 0
if_one a some = subst (λ (b : Bool). 0 < cond b 1 0) (sym (lt-ltb 0 a some)) (omega arith)

module _ {R : Type 0} (k : RecordRules R) (live_lines : (ls : List Live) (n : ℕ) → IsTrue (is_live n ls) ↔ (0 < lines_of n ls)) where
  -- A put with notification is live in a counted world exactly if its count isn't zero.
  pub live_in : (w : World R) (n : ℕ) → IsCounted k w → (is_live n w.live ≡ true → 0 < holders_of n w.live) × (0 < holders_of n w.live → is_live n w.live ≡ true)
  live_in w n counted =
      let lines = lines_are n w.live in
      let all = counted.counted.counted n in
      let once = counted.counted.live n in (
        λ is. (let some = (live_lines w.live n).0 is in let here = one_if (holders k w n) (nat_lt 0 (holders k w n)) refl (omega (arith, some, lines, once)) in omega (arith, here, all)),
        λ some. (live_lines w.live n).1 (let one = if_one (holders k w n) (omega (arith, some, all)) in omega (arith, one, lines, once)),
      )

  -- A put with notification is live in a table with the counts of a world exactly if it is live in
  -- that world.
  pub same_live : (lines : List Live) (w : World R) (n : ℕ) → IsTable lines → ((ls : List Live) (m : ℕ) → IsTable ls → IsTrue (is_live m ls) ↔ (0 < holders_in m ls))
      → IsCounted k w → holders_in n lines ≡ holders_of n w.live → is_live n lines ≡ is_live n w.live
  same_live lines w n table held counted same =
      both_same (is_live n lines) (is_live n w.live)
      (λ is. (live_in w n counted).1 (let some = (held lines n table).0 is in omega (arith, some, same)))
      (λ is. (held lines n table).1 (let some = (live_in w n counted).0 is in omega (arith, some, same)))

module _ {R : Type 0} (k : RecordRules R) where
  legal_join : (xs ys : List Note) (m : World R) → IsLegal k m xs → IsLegal k (map_of k m xs) ys → IsLegal k m (xs ++ ys)
  legal_join [] ys m first then = then
  legal_join (x ∷ xs) ys m first then = (first.0, legal_join xs ys (done k m x).world first.1 then)

  map_join : (xs ys : List Note) (m : World R) → map_of k m (xs ++ ys) ≡ map_of k (map_of k m xs) ys
  map_join [] ys m = refl
  map_join (x ∷ xs) ys m = map_join xs ys (done k m x).world

  untouched : (m : World R) (moment r : ℕ) → IsUntouched k r m (begun_at moment m)
  unfolding at begun begun_at
  untouched m moment r = record { same = refl; waiting = refl; named = λ a c. c }

  live_begun : (m : World R) (moment : ℕ) → AreLiveAlike m (begun_at moment m)
  unfolding begun begun_at
  live_begun m moment number = refl

  -- The beginning of an event leaves the live puts with notification as they are.
  live_at : (m : World R) (moment number : ℕ) → is_live number m.live ≡ is_live number (begun_at moment m).live
  unfolding begun begun_at
  live_at m moment number = refl

  none_called : (m : World R) (moment : ℕ) → answers_of (begun_at moment m).calls ≡ []
  unfolding begun begun_at
  none_called m moment = refl

  none_sent : (m : World R) (moment : ℕ) → sent_in (begun_at moment m) ≡ nothing_sent
  unfolding begun begun_at
  none_sent m moment = refl

  none_counted : (m : World R) (moment : ℕ) (t : Tally) (n : Note) → done k m n ≡ record { world = begun_at moment m; call = n.entry.entry.call; requests = None } → n.entry.entry.moment ≡ moment
      → is_completion n.entry.entry.call ≡ false → tallied_by k t m n ≡ t
  unfolding begun begun_at
  none_counted m moment t n is at none =
      ap (λ (d : Called R). counted_all t d.requests (later_among (calls_since (begun_at n.entry.entry.moment m) d.world)) (is_completion d.call)) is
      ∙ ap (λ (b : Bool). counted_all t None 0 b) none

  -- A question or a refusal leaves the world after any legal list as it is.
  module _ (base : World R) (entry : Entry) (seen : List Note) (comes : ChangesNothing k base seen entry) (unanswered : entry.answers ≡ []) where
    module _ (log : List Note) (desk number : ℕ) (keys : List Key) (sound : IsSound k base) (go : Continues seen puts_key log) (legal : IsLegal k base log) where
      abbrev note : Note
      note = noted (journalled desk number entry) keys

      pub done_is : done k (map_of k base log) note ≡ record { world = begun_at entry.moment (map_of k base log); call = entry.call; requests = None }
      unfolding done
      done_is = comes log sound go legal (listed entry.answers)

      fits : Fits k (map_of k base log) note
      fits = record {
        reply = sym (ap (λ (d : Called R). d.call) done_is);
        used = ap (λ (d : Called R). answers_of d.world.calls) done_is ∙ none_called (map_of k base log) entry.moment ∙ sym unanswered;
        untouched = λ r out. subst (λ (d : Called R). IsUntouched k r (map_of k base log) d.world) (sym done_is) (untouched (map_of k base log) entry.moment r);
        live = λ out. subst (λ (d : Called R). AreLiveAlike (map_of k base log) d.world) (sym done_is) (live_begun (map_of k base log) entry.moment);
      }

      legal_then : IsLegal k base (log ++ note ∷ [])
      legal_then = legal_join log (note ∷ []) base legal (fits, tt)

      alike_then : AreLiveAlike (map_of k base log) (map_of k base (log ++ note ∷ []))
      alike_then =
          subst (λ (w : World R). AreLiveAlike (map_of k base log) w) (sym (map_join log (note ∷ []) base ∙ ap (λ (d : Called R). d.world) done_is)) (live_begun (map_of k base log) entry.moment)

    pub told_follows : MayFollow k base seen puts_key entry
    told_follows log desk number own sound go legal = legal_then log desk number (puts_key ++ own) sound go legal

    pub told_counts_none : is_completion entry.call ≡ false → MayCountNothing k base seen puts_key entry
    told_counts_none none log desk number own sound go legal =
        let same = done_is log desk number (puts_key ++ own) sound go legal in
        record {
          tally = λ t. none_counted (map_of k base log) entry.moment t (note log desk number (puts_key ++ own) sound go legal) same refl none;
          sent = ap (λ (d : Called R). sent_in d.world) same ∙ none_sent (map_of k base log) entry.moment;
        }

    pub told_alike : (log longer : List Note) → Added k base seen puts_key entry log longer → AreLiveAlike (map_of k base log) (map_of k base longer)
    told_alike log longer a =
        subst (λ (l : List Note). AreLiveAlike (map_of k base log) (map_of k base l)) (sym a.ends) (alike_then log a.desk a.call (puts_key ++ a.own) a.sound a.goes_on a.legal)

  -- The question whether a put with notification is live, with the reply that it has.
  pub ask_comes : (answers : Answers) (w : World R) (number : ℕ) (live : Bool) → is_live number w.live ≡ live
      → called k answers w (calling.IsLive number live) ≡ record { world = w; call = calling.IsLive number live; requests = None }
  unfolding called
  ask_comes answers w number live is = ap (λ (b : Bool). record { world = w; call = calling.IsLive number b; requests = None }) is

  stale : (answers : Answers) (w : World R) (number : ℕ) (first : Stepped R) (b : Bool) → b ≡ false
      → (let d = cond b first (refused w Stale) in cond (lets_start d.reply) (with_starts k answers d) d) ≡ refused w Stale
  stale answers w number first true is = cc
  stale answers w number first false is = refl

  -- Canceling a put with notification that isn't live.
  pub stale_comes : (answers : Answers) (w : World R) (number : ℕ) → is_live number w.live ≡ false
      → called k answers w (calling.Event (Cancel number) (Refused Stale)) ≡ record { world = w; call = calling.Event (Cancel number) (Refused Stale); requests = None }
  unfolding called stepped done_alone done_there
  stale_comes answers w number none =
      ap (λ (d : Stepped R). record { world = d.world; call = calling.Event (Cancel number) d.reply; requests = d.requests }) (stale answers w number _ (is_live number w.live) none)

-- A put with notification is live when the next event begins exactly if it is live in a table with
-- the counts of the world before.
pub live_now : {R : Type 0} (k : RecordRules R) (live_lines : (ls : List Live) (n : ℕ) → IsTrue (is_live n ls) ↔ (0 < lines_of n ls)) (held : (ls : List Live) (m : ℕ) → IsTable ls → IsTrue (is_live m ls) ↔ (0 < holders_in m ls))
    (lines : List Live) (w : World R) (moment n : ℕ) → IsTable lines → IsCounted k w → holders_in n lines ≡ holders_of n w.live → is_live n (begun_at moment w).live ≡ is_live n lines
live_now k live_lines held lines w moment n table counted same = sym (live_at k w moment n) ∙ sym (same_live k live_lines lines w n table held counted same)
