-- An event begins at most one put with notification.
use Rattle.std.proofs.Common.{◌≡◌, ℕ, false, [], ◌∷◌, Some, sym, ap, subst}
use Rattle.ioc_notify.specs.Living.{is_live}
use Rattle.ioc_record.specs.RecordRules.{RecordRules}
use Rattle.ioc_record.specs.Laws.{IsLawful}
use Rattle.ioc_store.specs.World.{World, begun_at}
use Rattle.ioc_store.specs.Given.{Answers, listed}
use Rattle.ioc_ledger.specs.Requests.{Requests}
use Rattle.ioc_events.specs.declared.event.Event.{Event}
use Rattle.ioc_events.specs.declared.event.Call.{Call}
use Rattle.ioc_events.specs.declared.event.Call.TheVariants as call
use Rattle.ioc_events.specs.Holding.{Begins}
use Rattle.ioc_events.specs.Calls.{called}
use Rattle.ioc_events.specs.StepRules.{Calls, does_event, shows_field, tells_if_live, keeps_its_link, takes_link, posts_event, interrupts}
use Rattle.ioc_events.proofs.Beginning.{step-begins}
use Rattle.ioc_journal.specs.declared.entry.Note.{Note}
use Rattle.ioc_journal.specs.Account.{number_given}
use Rattle.ioc_journal.specs.Legal.{entry_of, done, map_of, Fits}
use Rattle.ioc_journal.specs.EventLaws.{EventLaws}
use Rattle.ioc_journal.specs.Laws.{OneMayBegin}
use Rattle.ioc_journal.proofs.Lists.{legal-right, map-join}
use Rattle.ioc_journal.proofs.LiveFew.{gone}
use Rattle.ioc_journal.proofs.Doing.{counted-on, done-counted}

module _ {R : Type 0} (k : RecordRules R) where
  module _ (lawful : IsLawful k) (laws : EventLaws k) where
    -- The number that a call begins is the one that its event gives.
    call-gives : (answers : Answers) {w after : World R} {made : Call} {requests : Requests} → Calls k answers w made after requests → (number : ℕ) → Begins made number → number_given made ≡ Some number
    call-gives answers (does_event {event = event} {reply = reply} step) number is = ap (λ (e : Event). number_given (call.Event e reply)) (step-begins k answers number step is).event_is
    call-gives answers (shows_field _) number is = absurd is
    call-gives answers (tells_if_live _) number is = absurd is
    call-gives answers (keeps_its_link _) number is = absurd is
    call-gives answers (takes_link _) number is = absurd is
    call-gives answers posts_event number is = absurd is
    call-gives answers interrupts number is = absurd is

    note-gives : (m : World R) (n : Note) (number : ℕ) → Fits k m n → Begins (entry_of n).call number → number_given (entry_of n).call ≡ Some number
    unfolding done
    note-gives m n number fits is =
        let answers = listed (entry_of n).answers in
        let w = begun_at (entry_of n).moment m in
        let d = called k answers w (entry_of n).call in
        call-gives answers (subst (λ (made : Call). Calls k answers w made d.world d.requests) (sym fits.reply) (laws.allowed answers w (entry_of n).call)) number is

    pub one-may-begin : OneMayBegin k
    one-may-begin base log n number sound legal other isnt =
        let m = map_of k base log in
        let fits = (legal-right k log (n ∷ []) base legal).0 in
        let counted = counted-on k lawful laws log base sound.counted in
        subst (λ (w : World R). is_live number w.live ≡ false) (sym (map-join k log (n ∷ []) base))
        (gone k laws m n fits number counted (done-counted k laws m n counted) isnt (λ (is : Begins (entry_of n).call number). other (note-gives m n number fits is)))
