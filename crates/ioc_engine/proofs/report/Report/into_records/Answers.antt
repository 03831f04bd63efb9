use Rattle.ioc_engine.proofs.report.Report.into_records.Goals as goal

pub returns : goal.returns
returns g c = c.records_in.ensures
