-- A get, and the question whether a put with notification is live, change nothing.
use Rattle.std.proofs.Common.{◌≡◌, ℕ, true, List, [], ◌∷◌, ◌++◌, refl, sym, ap, ◌∙◌}
use Rattle.ioc_record.specs.RecordRules.{RecordRules}
use Rattle.ioc_record.specs.Laws.{IsLawful}
use Rattle.ioc_store.specs.World.{World, at, begun, begun_at}
use Rattle.ioc_store.specs.Given.{Answers, listed, answers_of}
use Rattle.ioc_events.specs.declared.event.Call.{Call}
use Rattle.ioc_events.specs.declared.event.Call.TheVariants as call
use Rattle.ioc_events.specs.Holding.{holders}
use Rattle.ioc_events.specs.Calls.{called}
use Rattle.ioc_events.specs.Step.{shown}
use Rattle.ioc_journal.specs.Key.{Key}
use Rattle.ioc_journal.specs.Legal.{done, map_of}
use Rattle.ioc_journal.specs.Covering.{IsDone, IsOf, CancelsWithin, is_question, question_note}
use Rattle.ioc_journal.specs.EventLaws.{EventLaws}
use Rattle.ioc_journal.specs.Laws.{Asks}
use Rattle.ioc_journal.proofs.Doing.{one-more}
use Rattle.ioc_journal.proofs.Linking.{held-alike}

module _ {R : Type 0} (k : RecordRules R) where
  question-world : (answers : Answers) (w : World R) (asked : Call) → is_question asked ≡ true → (called k answers w asked).world ≡ w
  unfolding called
  question-world answers w (call.Get s field text) is = refl
  question-world answers w (call.IsLive number live) is = refl
  question-world answers w (call.Event event reply) is = cc
  question-world answers w (call.Link s field link reply) is = cc
  question-world answers w (call.Post name count) is = cc
  question-world answers w (call.Interrupt device count) is = cc

  -- The reply to a question doesn't depend on the time stamp, nor on the reply that is written in it.
  question-reply : (answers others : Answers) (moment : ℕ) (w : World R) (asked : Call) → is_question asked ≡ true → (called k answers (begun_at moment w) asked).call ≡ (called k others w asked).call
  unfolding at begun begun_at called shown
  question-reply answers others moment w (call.Get s field text) is = refl
  question-reply answers others moment w (call.IsLive number live) is = refl
  question-reply answers others moment w (call.Event event reply) is = cc
  question-reply answers others moment w (call.Link s field link reply) is = cc
  question-reply answers others moment w (call.Post name count) is = cc
  question-reply answers others moment w (call.Interrupt device count) is = cc

  -- A question cancels nothing.
  no-cancel : (m v : World R) (asked : Call) → is_question asked ≡ true → CancelsWithin k m v asked
  no-cancel m v (call.Get s field text) is = tt
  no-cancel m v (call.IsLive number live) is = tt
  no-cancel m v (call.Event event reply) is = cc
  no-cancel m v (call.Link s field link reply) is = tt
  no-cancel m v (call.Post name count) is = tt
  no-cancel m v (call.Interrupt device count) is = tt

  same-holders : (moment : ℕ) (v : World R) (number : ℕ) → holders k (begun_at moment v) number ≡ holders k v number
  unfolding holders begun begun_at
  same-holders moment v number = refl

module _ {R : Type 0} (k : RecordRules R) (lawful : IsLawful k) (laws : EventLaws k) where
  question-done : (v : World R) (desk number moment : ℕ) (asked : Call) (answers : Answers) (keys : List Key) → is_question asked ≡ true → (called k answers v asked).call ≡ asked
      → IsDone k v (question_note desk number moment asked keys) (begun_at moment v)
  unfolding begun begun_at done
  question-done v desk number moment asked answers keys is told =
      let same = question-world k (listed []) (begun_at moment v) asked is in
      record { world = same; reply = question-reply k (listed []) answers moment v asked is ∙ told; used = ap (λ (w : World R). answers_of w.calls) same }

  pub asks : Asks k
  unfolding begun begun_at
  asks base v log desk number moment asked answers keys is told sound legal holds named alike covers =
      let n = question_note desk number moment asked keys in
      let over = question-done v desk number moment asked answers keys is told in
      let of : IsOf k (map_of k base log) v n = record {
        named = named;
        cancels = no-cancel k (map_of k base log) v asked is;
        asks = alike;
        covers = covers;
        live = λ out number. sym (ap (λ (w : World R). holders k w number) over.world ∙ same-holders k moment v number);
      } in
      let more = one-more k lawful laws base v (begun_at moment v) log n sound legal holds of over in
      record { legal = more.legal; known = held-alike k (map_of k base (log ++ n ∷ [])) (begun_at moment v) v (λ q. refl) refl more.known }
