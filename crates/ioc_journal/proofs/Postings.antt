-- A posted event, and an interrupt, may follow any list.
use Rattle.std.proofs.Common.{◌≡◌, ℕ, true, List, [], ◌∷◌, ◌++◌, refl, sym, ap, ◌∙◌, subst}
use Rattle.std.specs.Prelude.{Option, None as Nothing_}
use Rattle.ioc_ledger.specs.Requests.{None}
use Rattle.ioc_ledger.specs.Shared.{ShareView}
use Rattle.ioc_ledger.specs.declared.tally.Tally.{Tally}
use Rattle.ioc_record.specs.RecordRules.{RecordRules}
use Rattle.ioc_store.specs.World.{World, at, begun, begun_at}
use Rattle.ioc_store.specs.Given.{Answers, listed, answers_of}
use Rattle.ioc_events.specs.declared.event.Entry.{Entry}
use Rattle.ioc_events.specs.declared.event.Call.{Call}
use Rattle.ioc_events.specs.declared.event.Call.TheVariants as call
use Rattle.ioc_events.specs.Calls.{Called, called}
use Rattle.ioc_journal.specs.declared.cell.View.{View}
use Rattle.ioc_journal.specs.declared.entry.Note.{Note}
use Rattle.ioc_journal.specs.Key.{Key}
use Rattle.ioc_journal.specs.Line.{noted}
use Rattle.ioc_journal.specs.Legal.{entry_of, done, map_of, Fits, IsUntouched, AreLiveAlike}
use Rattle.ioc_journal.specs.Account.{journalled, MayBegin}
use Rattle.ioc_journal.specs.CountLaws.{counts_nothing}
use Rattle.ioc_journal.specs.Counting.{nothing_sent, MayAppend}
use Rattle.ioc_journal.specs.declared.event_counts.SentCounts.{SentCounts}
use Rattle.ioc_journal.specs.Posting.{is_posting}
use Rattle.ioc_journal.proofs.Counting.{questions-nothing}
use Rattle.ioc_journal.proofs.Lists.{legal-join}

-- It is no event of a record, and begins no put with notification.
posting-nothing : (made : Call) → is_posting made ≡ true → counts_nothing made ≡ true
posting-nothing (call.Post name count) is = refl
posting-nothing (call.Interrupt device count) is = refl
posting-nothing (call.Event event reply) is = cc
posting-nothing (call.Get s field text) is = refl
posting-nothing (call.IsLive number live) is = refl
posting-nothing (call.Link s field link reply) is = cc

posting-begins : (seen : List Note) (owned : List Key) (made : Call) → is_posting made ≡ true → MayBegin seen owned made
posting-begins seen owned (call.Post name count) is = tt
posting-begins seen owned (call.Interrupt device count) is = tt
posting-begins seen owned (call.Event event reply) is = cc
posting-begins seen owned (call.Get s field text) is = tt
posting-begins seen owned (call.IsLive number live) is = tt
posting-begins seen owned (call.Link s field link reply) is = tt

module _ {R : Type 0} (k : RecordRules R) where
  posting-called : (answers : Answers) (w : World R) (made : Call) → is_posting made ≡ true → called k answers w made ≡ record { world = w; call = made; requests = None }
  unfolding called
  posting-called answers w (call.Post name count) is = refl
  posting-called answers w (call.Interrupt device count) is = refl
  posting-called answers w (call.Event event reply) is = cc
  posting-called answers w (call.Get s field text) is = cc
  posting-called answers w (call.IsLive number live) is = cc
  posting-called answers w (call.Link s field link reply) is = cc

  posting-done : (m : World R) (n : Note) → is_posting (entry_of n).call ≡ true → done k m n ≡ record { world = begun_at (entry_of n).moment m; call = (entry_of n).call; requests = None }
  unfolding done
  posting-done m n is = posting-called (listed (entry_of n).answers) (begun_at (entry_of n).moment m) (entry_of n).call is

  begun-untouched : (moment r : ℕ) (m : World R) → IsUntouched k r m (begun_at moment m)
  unfolding at begun begun_at
  begun-untouched moment r m = record { same = refl; waiting = refl; named = λ a named. named }

  begun-alike : (moment : ℕ) (m : World R) → AreLiveAlike m (begun_at moment m)
  unfolding begun begun_at
  begun-alike moment m = λ number. refl

  begun-unasked : (moment : ℕ) (m : World R) → answers_of (begun_at moment m).calls ≡ []
  unfolding begun begun_at
  begun-unasked moment m = refl

  posting-fits : (m : World R) (n : Note) → is_posting (entry_of n).call ≡ true → (entry_of n).answers ≡ [] → Fits k m n
  posting-fits m n is none =
      let over = posting-done m n is in
      let world = sym (ap (λ (d : Called R). d.world) over) in
      let moment = (entry_of n).moment in
      record {
        reply = sym (ap (λ (d : Called R). d.call) over);
        used = ap (λ (d : Called R). answers_of d.world.calls) over ∙ (begun-unasked moment m ∙ sym none);
        untouched = λ r out. subst (λ (w : World R). IsUntouched k r m w) world (begun-untouched moment r m);
        live = λ out. subst (λ (w : World R). AreLiveAlike m w) world (begun-alike moment m);
      }

  -- It sends nothing and counts nothing.
  posting-may : (base : World R) (pass : View) (made : Entry) (before after : Tally) → is_posting made.call ≡ true → made.answers ≡ []
      → MayAppend k base pass made nothing_sent Nothing_ before after
  posting-may base pass made before after is none = record {
    follows = λ log desk number own sound goes_on legal.
        let n = noted (journalled desk number made) (pass.owns ++ own) in
        legal-join k log (n ∷ []) base legal (posting-fits (map_of k base log) n is none, tt);
    begins = posting-begins pass.seen pass.owns made.call is;
    sends = λ log desk number own sound goes_on legal.
        let n = noted (journalled desk number made) (pass.owns ++ own) in
        sym (questions-nothing k (map_of k base log) n (posting-nothing made.call is)).sent;
    counts = λ log desk number own sound goes_on legal.
        let n = noted (journalled desk number made) (pass.owns ++ own) in
        (questions-nothing k (map_of k base log) n (posting-nothing made.call is)).tally;
    backed = tt;
  }

  pub posting-appends : (base : World R) (pass : View) (made entry : Entry) (sent : SentCounts) (share : Option ShareView) (before after : Tally) → made ≡ entry → is_posting entry.call ≡ true → entry.answers ≡ []
      → sent ≡ nothing_sent → share ≡ Nothing_ → MayAppend k base pass made sent share before after
  posting-appends base pass made entry sent share before after same is none sends_none counts_none =
      subst (λ (o : Option ShareView). MayAppend k base pass made sent o before after) (sym counts_none)
      (subst (λ (s : SentCounts). MayAppend k base pass made s Nothing_ before after) (sym sends_none)
      (posting-may base pass made before after (subst (λ (e : Entry). is_posting e.call ≡ true) (sym same) is) (subst (λ (e : Entry). e.answers ≡ []) (sym same) none)))
