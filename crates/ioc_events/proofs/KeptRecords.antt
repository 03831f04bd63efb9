-- No event adds or removes a record.
use Rattle.std.proofs.Common.{ℕ, List, refl, ◌∙◌}
use Rattle.ioc_ledger.specs.Requests.{Requests}
use Rattle.ioc_record.specs.RecordRules.{RecordRules}
use Rattle.ioc_record.specs.Laws.{IsLawful}
use Rattle.ioc_events.specs.declared.event.Event.{Event}
use Rattle.ioc_events.specs.declared.event.Event.TheVariants.{}
use Rattle.ioc_events.specs.declared.reply.Reply.{Reply}
use Rattle.ioc_store.specs.World.{World, Has, IsClosed, Keeps, put}
use Rattle.ioc_store.specs.Given.{Answers}
use Rattle.ioc_store.specs.Scanning.{rewired}
use Rattle.ioc_events.specs.StepRules.{Step, KeepsRecords}
use Rattle.ioc_store.specs.Worlds.{has-put, has-put_back, len-put}
use Rattle.ioc_process.specs.Keeping.{moved-keeps}
use Rattle.ioc_store.specs.ScanLaws.{rewired-either}
use Rattle.ioc_events.proofs.QuietEvents.{step-keeps}

module _ {R : Type 0} (k : RecordRules R) (lawful : IsLawful k) where
  of_keeps : {w w' : World R} → Keeps k w w' → KeepsRecords w w'
  of_keeps keeps = record { has = keeps.has; only = keeps.only; count = keeps.count }

  pub all-kept : (w : World R) → KeepsRecords w w
  all-kept w = record { has = λ n h. h; only = λ n h. h; count = refl }

  kept_on : {w v u : World R} → KeepsRecords w v → KeepsRecords v u → KeepsRecords w u
  kept_on one two = record { has = λ n h. two.has n (one.has n h); only = λ n h. one.only n (two.only n h); count = two.count ∙ one.count }

  put-kept : (w : World R) (s : ℕ) (r : R) → Has w s → KeepsRecords w (put w s r)
  put-kept w s r there = record { has = λ n h. has-put k w s n r h; only = λ n h. has-put_back k w s n r there h; count = len-put k w s r there }

  pub linked-kept : (w : World R) (s : ℕ) (r : R) (before : List ℕ) → Has w s → KeepsRecords w (rewired k before (put w s r) s)
  linked-kept w s r before there =
      let first = put-kept w s r there in
      rewired-either k (KeepsRecords w) before (put w s r) s first (kept_on first (of_keeps (moved-keeps k lawful (put w s r) s (first.has s there))))

  pub step-records : (answers : Answers) {w w' : World R} {event : Event} {reply : Reply} {requests : Requests} → Step k answers w event w' reply requests → IsClosed k w → KeepsRecords w w'
  step-records answers step closed = of_keeps (step-keeps k lawful answers step closed)
