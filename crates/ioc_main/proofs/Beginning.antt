-- A run begins with the database of its text.
use Rattle.std.proofs.Common.{◌≡◌, ℕ, List, Option, Some, None, Ok, Err, refl, sym, ap, subst, ◌∙◌}
use Rattle.std.specs.Prelude.{Result, IfSome, IfErr}
use Rattle.std.specs.Io.KnownBytes.{Appends, Keeps}
use Rattle.ioc_names.specs.NameTable.{NameTable}
use Rattle.rec_types.specs.Record.{Record, record_rules}
use Rattle.ioc_dblex.specs.Macros.{Defined}
use Rattle.ioc_dbfile.specs.Loader.{Loading}
use Rattle.ioc_main.specs.declared.fault.ScriptFault.{ScriptFault}
use Rattle.ioc_main.specs.declared.fault.ScriptFault.TheVariants as script
use Rattle.ioc_main.specs.declared.fault.RunFault.{RunFault}
use Rattle.ioc_main.specs.declared.fault.RunFault.TheVariants.{Memory}
use Rattle.ioc_command_line.specs.declared.ending.Stage.TheVariants.{Loading as while_loading}
use Rattle.ioc_main.specs.Faults.{run_fault_of, fault_of}
use Rattle.ioc_values.specs.declared.error.LoadError.{LoadError}
use Rattle.ioc_values.specs.declared.error.LoadError.TheVariants as load
use Rattle.ioc_dbparse.specs.Statements.{Gives}
use Rattle.ioc_dbfile.specs.SeenDatabase.{database_of}
use Rattle.ioc_commands.specs.Commands.{lines_of}
use Rattle.ioc_sim.specs.Machine.{Machine, first_machine}
use Rattle.ioc_main.specs.Replay.{transcript}
use Rattle.ioc_main.specs.Written.{WritesFront, WritesPart, StopsScript}
use Rattle.ioc_main.specs.Transcript.{loaded, transcript_by, transcript_of, IsDatabase, StopsWith}

module _ (macros : List Defined) (text : List ℕ) (database : Loading Record) (names : NameTable) (machine : Machine Record)
    (reads : loaded macros text ≡ Ok database) (named : names ≡ database.names) (is : machine ≡ first_machine record_rules database.records) where
  begins : (given : List ℕ) → transcript_of macros text given ≡ transcript record_rules names machine (lines_of given)
  unfolding transcript_of
  begins given =
      ap (λ x. transcript_by x given) reads ∙ ap (λ (m : Machine Record). transcript record_rules database.names m (lines_of given)) (sym is)
      ∙ ap (λ (n : NameTable). transcript record_rules n machine (lines_of given)) (sym named)

  pub runs_whole : (a w v : Option (List ℕ)) → IfSome a (λ given. Appends w v (transcript record_rules names machine (lines_of given))) → IsDatabase macros text × IfSome a (λ given. Appends w v (transcript_of macros text given))
  runs_whole None w v p = ((database, reads), tt)
  runs_whole (Some given) w v p = ((database, reads), subst (λ (l : List ℕ). Appends w v l) (sym (begins given)) p)

  front : (a w v : Option (List ℕ)) → IfSome a (λ given. WritesFront w (transcript record_rules names machine (lines_of given)) v) → IfSome a (λ given. WritesFront w (transcript_of macros text given) v)
  front None w v p = tt
  front (Some given) w v p = subst (λ (l : List ℕ). WritesFront w l v) (sym (begins given)) p

  part : (a w v : Option (List ℕ)) → IfSome a (λ given. WritesPart w (transcript record_rules names machine (lines_of given)) v) → IfSome a (λ given. WritesPart w (transcript_of macros text given) v)
  part None w v p = tt
  part (Some given) w v p = subst (λ (l : List ℕ). WritesPart w l v) (sym (begins given)) p

  pub runs_stop : (fault : ScriptFault) (a w v : Option (List ℕ)) → IfSome a (λ given. StopsScript fault w (transcript record_rules names machine (lines_of given)) v) → StopsWith (run_fault_of fault) macros text a w v
  runs_stop (script.Read reason) a w v p = ((database, reads), front a w v p)
  runs_stop script.Write a w v p = ((database, reads), part a w v p)
  runs_stop script.Memory a w v p = ((database, reads), front a w v p)

keeps_same : (w : Option (List ℕ)) → Keeps w w
keeps_same None = tt
keeps_same (Some bytes) = refl

-- Allocation failed before the first line.
pub memory_stops : (macros : List Defined) (text : List ℕ) (a w : Option (List ℕ)) → StopsWith (Memory while_loading) macros text a w w
memory_stops macros text a w = keeps_same w

-- Nothing was loaded.
pub load_stops : (e : LoadError) (macros : List Defined) (text : List ℕ) (a w : Option (List ℕ)) → Gives database_of (Err e) (loaded macros text) → StopsWith (fault_of e) macros text a w w
load_stops (load.BadDb fault) macros text a w gives = (gives, keeps_same w)
load_stops load.NoMemory macros text a w gives = memory_stops macros text a w

-- What is true of a fault is true of the run that it ends.
pub err_as : {T : Type 0} {r : Result T RunFault} {fault : RunFault} (P : RunFault → Type 0) → (y : RunFault) × (r ≡ Err y) × (y ≡ fault) → P fault → IfErr r P
err_as P p q = rw (p.1, p.2) q
