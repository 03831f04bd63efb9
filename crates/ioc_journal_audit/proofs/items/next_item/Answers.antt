use Rattle.std.proofs.Common.{◌≡◌, sym, ◌∙◌, rules}
use Rattle.ioc_journal_file.specs.Bases.{item_line}
use Rattle.ioc_journal_audit.proofs.Itemizing.{no_item, item_taken}
use Rattle.ioc_journal_audit.proofs.items.next_item.Goals as goal

pub returns-then-not-begins_item : goal.returns-then-not-begins_item
returns-then-not-begins_item g c =
    no_item (g.R.Read.remaining c.args.journal.now) (g.R.Read.remaining c.first_byte.new.journal) c.in_ok-first_byte.field-0 c.in_ok-first_byte.ensures (sym c.begins_item.ensures ∙ c.if-not-begins_item.true)

pub returns-in-Some : goal.returns-in-Some
returns-in-Some g c =
    let is : c.next_line.new.text.items ≡ item_line c.in-Some.item = search rules in
    item_taken (g.R.Read.remaining c.args.journal.now) (g.R.Read.remaining c.first_byte.new.journal) (g.R.Read.remaining c.next_line.new.journal) c.in_ok-first_byte.field-0 c.in_ok-next_line.field-0 c.next_line.new.text.items c.in-Some.item
    c.in_ok-first_byte.ensures c.in_ok-next_line.ensures is
