use Rattle.ioc_links.proofs.Parsed.{links_again}
use Rattle.ioc_links.proofs.printing.printed_is_read.Goals as goal

pub returns : goal.returns
returns c = links_again
