-- A legal list is a run by the rules of events, and parted and joined records are held.
use Rattle.std.proofs.Common.{List, [], ◌∷◌, ◌++◌, sym, subst}
use Rattle.ioc_record.specs.RecordRules.{RecordRules}
use Rattle.ioc_record.specs.Laws.{IsLawful}
use Rattle.ioc_store.specs.World.{World, begun_at}
use Rattle.ioc_store.specs.Given.{listed}
use Rattle.ioc_events.specs.declared.event.Call.{Call}
use Rattle.ioc_events.specs.Calls.{called}
use Rattle.ioc_events.specs.StepRules.{Calls, Replay, at_the_end, and_then}
use Rattle.ioc_journal.specs.declared.entry.Note.{Note}
use Rattle.ioc_journal.specs.Legal.{entry_of, entries_of, done, map_of, Fits, IsLegal}
use Rattle.ioc_journal.specs.Laws.{Parts, Joins, Replays}
use Rattle.ioc_journal.specs.EventLaws.{EventLaws}
use Rattle.ioc_journal.proofs.Doing.{one-more}
use Rattle.ioc_journal.proofs.Sharing.{falls, gathers}

module _ {R : Type 0} (k : RecordRules R) (lawful : IsLawful k) (laws : EventLaws k) where
  pub parts : Parts k
  parts base v w stay rest log n sound legal holds of is halves closed other_closed =
      let more = one-more k lawful laws base v w log n sound legal holds of is in
      record { legal = more.legal; known = falls k (map_of k base (log ++ n ∷ [])) w stay rest more.known halves closed other_closed }

  pub joins : Joins k
  joins base v o both w log n sound legal holds other_holds halves within of is =
      one-more k lawful laws base both w log n sound legal (gathers k lawful (map_of k base log) both v o holds other_holds halves within) of is

module _ {R : Type 0} (k : RecordRules R) (laws : EventLaws k) where
  calls : (m : World R) (n : Note) → Fits k m n → Calls k (listed (entry_of n).answers) (begun_at (entry_of n).moment m) (entry_of n).call (done k m n).world (done k m n).requests
  unfolding done
  calls m n fits =
      let answers = listed (entry_of n).answers in
      let w = begun_at (entry_of n).moment m in
      let d = called k answers w (entry_of n).call in
      subst (λ (made : Call). Calls k answers w made d.world d.requests) (sym fits.reply) (laws.allowed answers w (entry_of n).call)

  replay : (notes : List Note) (m : World R) → IsLegal k m notes → Replay k m (entries_of notes) (map_of k m notes)
  replay [] m legal = at_the_end
  replay (n ∷ notes) m legal = and_then (calls m n legal.0) legal.0.used (replay notes (done k m n).world legal.1)

  pub replays : Replays k
  replays base log legal = replay log base legal
