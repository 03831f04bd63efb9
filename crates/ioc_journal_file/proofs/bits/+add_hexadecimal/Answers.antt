use Rattle.ioc_journal_file.proofs.BitsAgain.{digits_next}
use Rattle.ioc_journal_file.proofs.bits.+add_hexadecimal.Goals as goal

pub returns : goal.returns
returns t c = digits_next _ _ _ _ c.args.count c.args.number c.if-count-eq0.false c.in_ok-add_hexadecimal.ensures c.hex_digit.ensures c.in_ok-push.ensures.items
