-- The laws of a database on which a script works.
use Rattle.std.proofs.Common.{◌≡◌, ℕ, List, [], ◌∷◌, ◌++◌, length, take, refl, sym, ap, ◌∙◌, inl, inr, arith}
use Rattle.std.proofs.lemmas.Bool.{cases_lt, lt-ltb}
use Rattle.std.proofs.lemmas.List.{length-take, take_all}
use Rattle.rec_types.specs.Record.{record_rules}
use Rattle.ioc_main.specs.declared.replay.Replay.{Replay}
use Rattle.ioc_sim.specs.SeenMachine.{machine_of}
use Rattle.ioc_commands.specs.Commands.{Command, cut, command_of}
use Rattle.ioc_main.specs.Replay.{transcript, answered}

-- What is printed for these lines.
abbrev pub printed : Replay → List (List ℕ) → List ℕ
printed s lines = transcript record_rules s.names (machine_of s.machine) lines

pub no-lines : (s : Replay) → printed s [] ≡ []
no-lines s = refl

-- The bytes of a line past its 1,025th have no effect on its command.
cut-command : (line : List ℕ) → command_of (cut line) ≡ command_of line
unfolding command_of cut
cut-command line =
    elim (cases_lt 4097 (length line)) [
      | inl long ↦ rw (
        lt-ltb 1024 (length (take 4097 line)) (omega (arith, length-take 4097 line)),
        lt-ltb 1024 (length line) (omega arith),
      ) refl
      | inr short ↦ rw (take_all 4097 line short) refl
    ]

-- What is printed for this command, and then for these lines.
abbrev printed_from : Replay → List (List ℕ) → Command → List ℕ
printed_from s lines command =
    let did = answered record_rules s.names (machine_of s.machine) command in
    did.said ++ transcript record_rules s.names did.machine lines

pub long-lines : (s : Replay) (a b : List ℕ) (lines : List (List ℕ)) → cut a ≡ cut b → printed s (a ∷ lines) ≡ printed s (b ∷ lines)
long-lines s a b lines e = ap (printed_from s lines) (sym (cut-command a) ∙ ap command_of e ∙ cut-command b)
