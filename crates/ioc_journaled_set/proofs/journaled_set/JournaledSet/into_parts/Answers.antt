use Rattle.std.proofs.Common.{[], Option, refl, sym, ◌∙◌, subst}
use Rattle.crossbeam_utils.specs.Seq.{cell_view}
use Rattle.ioc_journal.specs.declared.cell.View.{View}
use Rattle.ioc_journal.specs.Legal.{map_of}
use Rattle.ioc_journal.specs.Account.{IsHolder, AreRecords, Pass}
use Rattle.ioc_set.specs.SetState.{now_of}
use Rattle.ioc_journaled_set.specs.Holding.{IsHeld}
use Rattle.ioc_journaled_set.specs.SameDevice.{IsDeviceOf}
use Rattle.ioc_journaled_set.proofs.Nothing.{nothing_known}
use Rattle.ioc_journaled_set.proofs.journaled_set.JournaledSet.into_parts.Goals as goal

pub returns-clause-lent : goal.returns-clause-lent
returns-clause-lent g c =
    let k = g.K.RecordKind.rules in
    let base = g.B.JournalName.base in
    let held = subst (λ (o : Option Pass). IsHeld k base (IsDeviceOf g.D.Device.gives g.B.SetsName.devices) g.B.CellName.table o c.self.inside.set) c.in-None.is c.self.invariant.0 in
    let given = c.copy.ensures.given in
    record {
      pass = c.copy.result;
      there = refl;
      owner = record {
        same = given.0 ∙ c.requires.table.0;
        holder = subst (λ (x : View). IsHolder x) (sym given.2) refl;
        records = subst (λ (x : View). AreRecords x.owns) (sym given.2) (λ key has. absurd has);
        covers = λ n there. absurd (held.owner n there);
      };
      holds = nothing_known k (map_of k base []) (map_of k base (cell_view c.copy.result).seen) (now_of c.self.inside.set) held.owner held.holds;
      devices = held.devices;
    }
