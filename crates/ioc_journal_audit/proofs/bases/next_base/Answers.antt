use Rattle.std.proofs.Common.{◌≡◌, sym, ◌∙◌, rules}
use Rattle.ioc_journal_lines.specs.Lines.{base_line}
use Rattle.ioc_journal_audit.proofs.Basing.{no_base, base_taken}
use Rattle.ioc_journal_audit.proofs.bases.next_base.Goals as goal

pub returns-then-not-begins_base : goal.returns-then-not-begins_base
returns-then-not-begins_base g c =
    no_base (g.R.Read.remaining c.args.journal.now) (g.R.Read.remaining c.first_byte.new.journal) c.in_ok-first_byte.field-0 c.in_ok-first_byte.ensures (sym c.begins_base.ensures ∙ c.if-not-begins_base.true)

pub returns-in-Some : goal.returns-in-Some
returns-in-Some g c =
    let is : c.next_line.new.text.items ≡ base_line c.in-Some.saved = search rules in
    base_taken (g.R.Read.remaining c.args.journal.now) (g.R.Read.remaining c.first_byte.new.journal) (g.R.Read.remaining c.next_line.new.journal) c.in_ok-first_byte.field-0 c.in_ok-next_line.field-0 c.next_line.new.text.items c.in-Some.saved
    c.in_ok-first_byte.ensures c.in_ok-next_line.ensures is
