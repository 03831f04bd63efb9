use Rattle.std.proofs.Common.{◌≡◌, ◌++◌, take}
use Rattle.ioc_site_database.specs.Printing.{on_one_line}
use Rattle.ioc_site_database.proofs.printing.add_on_one_line.Given as goal

abbrev pub invariant-loop-byte : goal.invariant-loop-byte
invariant-loop-byte l = l.out.items ≡ l.fn.out.items ++ on_one_line (take l.byte-index l.text)
