use Rattle.ioc_scan.proofs.Ordered.{forward}
use Rattle.ioc_scan.proofs.scan_lists.copy_list.Goals as goal

pub range-listed-items-requires : goal.range-listed-items-requires
range-listed-items-requires c = forward c.args.list.now _ _ c.new.ensures.start c.new.ensures.end
