use Rattle.ioc_journal_audit.proofs.Relinking.{redone_link}
use Rattle.ioc_journal_audit.proofs.redo.redo_link.Goals as goal

pub returns-clause-redoes : goal.returns-clause-redoes
returns-clause-redoes g c = λ frames empty.
    redone_link g.K.RecordKind.rules c.args.map.now c.run_link-changed.new.store frames empty c.args.number c.args.field c.args.link.now c.in_ok-kept.kept c.run_link-changed.result c.args.done.now _ c.in_ok-kept.ensures
    c.run_link-changed.ensures.done c.run_link-changed.ensures.world c.run_link-changed.ensures.refused c.run_link-changed.ensures.same c.run_link-changed.ensures.given c.are_same_changes.ensures
