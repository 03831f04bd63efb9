use Rattle.ioc_values.proofs.Printed.{printed_again}
use Rattle.ioc_values.proofs.number.printed_is_read.Goals as goal

pub returns : goal.returns
returns c = printed_again
