use Rattle.std.proofs.Common.{List, subst, sym}
use Rattle.std.specs.Prelude.{IfSome}
use Rattle.ioc_journal_file.specs.declared.base.BaseItem.{BaseItem}
use Rattle.ioc_journal_audit.specs.declared.items.NextItem.{NextItem}
use Rattle.ioc_journal_audit.specs.BaseItems.{TakesItem}
use Rattle.ioc_journal_audit.proofs.Itemizing.{ItemsSoFar, one_more_item, all_items}
use Rattle.ioc_journal_audit.proofs.items.read_items.Goals as goal

pub returns-in-Broken : goal.returns-in-Broken
returns-in-Broken g c =
    all_items (g.R.Read.remaining c.args.journal.now) (g.R.Read.remaining c.loop.journal) c.loop.items.items c.loop.invariant
    (subst (λ (x : NextItem). IfSome (g.R.Read.remaining c.loop.journal) (λ rest. TakesItem rest x (g.R.Read.remaining c.next_item.new.journal))) c.in-Broken.is c.in_ok-item.ensures)

pub returns-in-Other : goal.returns-in-Other
returns-in-Other g c =
    all_items (g.R.Read.remaining c.args.journal.now) (g.R.Read.remaining c.loop.journal) c.loop.items.items c.loop.invariant
    (subst (λ (x : NextItem). IfSome (g.R.Read.remaining c.loop.journal) (λ rest. TakesItem rest x (g.R.Read.remaining c.next_item.new.journal))) c.in-Other.is c.in_ok-item.ensures)

pub loop-preserved : goal.loop-preserved
loop-preserved g c =
    subst (λ (items : List BaseItem). ItemsSoFar (g.R.Read.remaining c.args.journal.now) (g.R.Read.remaining c.next_item.new.journal) items) (sym c.in_ok-add_item-in-Item.ensures)
    (one_more_item (g.R.Read.remaining c.args.journal.now) (g.R.Read.remaining c.loop.journal) (g.R.Read.remaining c.next_item.new.journal) c.loop.items.items c.in-Item.item c.loop.invariant
    (subst (λ (x : NextItem). IfSome (g.R.Read.remaining c.loop.journal) (λ rest. TakesItem rest x (g.R.Read.remaining c.next_item.new.journal))) c.in-Item.is c.in_ok-item.ensures))
