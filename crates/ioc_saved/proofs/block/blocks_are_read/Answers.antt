use Rattle.ioc_saved.proofs.Blocks.{block_read}
use Rattle.ioc_saved.proofs.block.blocks_are_read.Goals as goal

pub returns : goal.returns
returns c = λ record_type saved typed has. block_read record_type saved typed has
