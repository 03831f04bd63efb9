use Rattle.std.proofs.Common.{List, [], refl, sym, ◌∙◌, subst}
use Rattle.std.specs.FinMap.{keys}
use Rattle.crossbeam_utils.specs.Seq.{cell_view}
use Rattle.ioc_journal.specs.declared.cell.View.{View}
use Rattle.ioc_journal.specs.Key.{Key, Has}
use Rattle.ioc_journal.specs.KeyLaws.{record_kind}
use Rattle.ioc_journal.specs.Covering.{Cover}
use Rattle.ioc_journal.specs.Account.{IsHolder, AreRecords}
use Rattle.ioc_set.specs.SetState.{SetState, now_of}
use Rattle.ioc_set.specs.Resting.{resting}
use Rattle.ioc_journaled_set.specs.Holding.{IsOwner, KeepsDevices}
use Rattle.ioc_journaled_set.specs.SameDevice.{IsDeviceOf}
use Rattle.ioc_journaled_set.proofs.Keys.{contains_record, there_key}
use Rattle.ioc_engine_core.proofs.holding.hold.Goals as goal

pub claim-pass-requires-clause-fresh : goal.claim-pass-requires-clause-fresh
claim-pass-requires-clause-fresh g c = λ key has. c.requires.fresh key (subst (λ (l : List Key). Has key l) c.requires.keys has)

pub new-requires-clause-devices : goal.new-requires-clause-devices
new-requires-clause-devices g c = subst (λ (h : SetState g.row.K.Denot g.row.D.Denot). KeepsDevices (IsDeviceOf g.D.Device.gives g.B.SetsName.devices) h) (sym c.of-set.ensures) c.requires.devices

pub new-requires-clause-owner : goal.new-requires-clause-owner
new-requires-clause-owner g c =
    let rs = c.args.members.records in
    let given = c.claim-pass.ensures.given in
    let is = given.2 in
    let same = sym c.requires.keys in
    subst (λ (h : SetState g.row.K.Denot g.row.D.Denot). IsOwner g.B.CellName.table c.claim-pass.result.table_id (cell_view c.claim-pass.result) (now_of h)) (sym c.of-set.ensures)
    (record {
      same = given.0 ∙ c.requires.table.1;
      holder = subst (λ (x : View). IsHolder x) (sym is) refl;
      records = subst (λ (x : View). AreRecords x.owns) (sym is) (subst AreRecords same (λ key has. record_kind key (keys rs) has));
      covers = subst (λ (x : View). Cover x.owns (resting rs [] [])) (sym is) (subst (λ (l : List Key). Cover l (resting rs [] [])) same (λ n has. contains_record n (keys rs) (there_key rs n has)));
    })
