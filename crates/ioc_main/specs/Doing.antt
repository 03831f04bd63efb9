-- What a loaded database does for a command: the effect on its records, and on the pending replies.
use Rattle.std.specs.Prelude.{◌≡◌, List, ℕ, [], ◌∷◌, ◌++◌, Option, Some, None, Result, Ok, Err, OnOk, OnErr}
use Rattle.rec_types.specs.Record.{Record, record_rules}
use Rattle.ioc_values.specs.declared.error.IocError.{IocError}
use Rattle.ioc_values.specs.Words.{refusal_words}
use Rattle.ioc_sim.specs.SeenMachine.{machine_of}
use Rattle.ioc_main.specs.declared.replay.Replay.{Replay}
use Rattle.ioc_main.specs.declared.session.PendingOutput.{PendingOutput}
use Rattle.ioc_commands.specs.Commands.{Command}
use Rattle.ioc_main.specs.Coming.{Stands}
use Rattle.ioc_main.specs.Replay.{Answered, carried_out}

-- The effect of a command on a loaded database.
abbrev pub effect_on : Replay → Command → Answered Record
effect_on r command = carried_out record_rules r.names (machine_of r.machine) command

-- Holds if what a line names is there, or the line of its refusal follows the pending replies.
abbrev pub FoundOrRefused : {A : Type 0} → Result A IocError → Option A → List ℕ → List ℕ → Type 0
FoundOrRefused named (Some found) before after = (named ≡ Ok found) × (after ≡ before)
FoundOrRefused named None before after = (e : IocError) × (named ≡ Err e) × (after ≡ before ++ refusal_words e ++ 10 ∷ [])

-- Holds if a database had this effect, and what is printed for it follows the text `before`, unless
-- allocation failed. The names stay in either case.
abbrev pub Adds : {T E : Type 0} → Answered Record → Result T E → Replay → Replay → List ℕ → List ℕ → Type 0
Adds did result old new before after =
    (new.names ≡ old.names) × OnOk result (machine_of new.machine ≡ did.machine) × OnOk result (after ≡ before ++ did.said)

-- The same for a command whose reply follows the pending replies. If allocation failed, these are
-- as before.
abbrev pub Does : {T E : Type 0} → Answered Record → Result T E → Replay → Replay → List ℕ → List ℕ → Type 0
Does did result old new before after = Adds did result old new before after × OnErr result (after ≡ before)

-- The same for a reply of any length. The replies that were pending are still the beginning.
abbrev pub DoesAtLength : {T E : Type 0} → Answered Record → Result T E → Replay → Replay → PendingOutput → PendingOutput → Type 0
DoesAtLength did result old new before after =
    (new.names ≡ old.names) × OnOk result (machine_of new.machine ≡ did.machine)
    × OnOk result (after.replies ++ after.more.items ≡ before.replies ++ did.said)
    × Stands before.replies after.replies
