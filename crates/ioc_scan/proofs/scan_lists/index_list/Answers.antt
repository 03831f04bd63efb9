use Rattle.ioc_scan.proofs.scan_lists.index_list.Goals as goal

pub returns-in-Ok-clause-all : goal.returns-in-Ok-clause-all
returns-in-Ok-clause-all c = c.in-Ok.ensures.all c.args.list.now
