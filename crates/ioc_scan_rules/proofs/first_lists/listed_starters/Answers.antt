use Rattle.std.proofs.Common.{subst}
use Rattle.ioc_scan.specs.declared.list_name.ListName.TheVariants.{Start}
use Rattle.ioc_scan.specs.Scanned.{Scanned, InPhaseOrder}
use Rattle.ioc_scan_rules.proofs.StartOrder.{starters_in_order}
use Rattle.ioc_scan_rules.proofs.first_lists.listed_starters.Goals as goal

pub returns-clause-order : goal.returns-clause-order
returns-clause-order g c =
    starters_in_order g.K.RecordKind.rules c.args.records.now c.walk.new.into.items
    (subst (λ (s : Scanned). InPhaseOrder s Start c.walk.new.into.items) c.in_ok-lists.ensures c.in_ok-walk.ensures.order)
