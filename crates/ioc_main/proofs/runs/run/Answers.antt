use Rattle.std.proofs.Common.{◌≡◌}
use Rattle.std.proofs.lemmas.Result.{err_from_is_err_and}
use Rattle.rec_types.specs.Record.{record_rules}
use Rattle.ioc_dbfile.specs.SeenDatabase.{database_of}
use Rattle.ioc_sim.specs.Machine.{first_machine}
use Rattle.ioc_sim.specs.SeenMachine.{machine_of}
use Rattle.ioc_main.proofs.Beginning.{runs_whole, runs_stop, load_stops, memory_stops, err_as}
use Rattle.ioc_main.proofs.runs.run.Goals as goal

pub returns-in_err-names-clause-err : goal.returns-in_err-names-clause-err
returns-in_err-names-clause-err g c =
    let p = err_from_is_err_and c.from_residual.result c.from_residual.ensures.1 in
    err_as _ p (load_stops c.in_err-names.field-0.0 c.args.macros.now c.args.db.now (g.R.Read.remaining c.args.script) (g.W.Write.contents c.args.out.now) c.in_err-names.ensures)

pub returns-in_err-replay-clause-err : goal.returns-in_err-replay-clause-err
returns-in_err-replay-clause-err g c =
    let p = err_from_is_err_and c.from_residual-in_err-replay.result c.from_residual-in_err-replay.ensures.1 in
    err_as _ p (memory_stops c.args.macros.now c.args.db.now (g.R.Read.remaining c.args.script) (g.W.Write.contents c.args.out.now))

pub returns-in_err-run_whole-clause-err : goal.returns-in_err-run_whole-clause-err
returns-in_err-run_whole-clause-err g c =
    let p = err_from_is_err_and c.from_residual-in_err-run_whole.result c.from_residual-in_err-run_whole.ensures.1 in
    let database = database_of c.in_ok-names.field-0 in
    let same-names = c.in_ok-names.names-is in
    let kept = c.in_ok-replay.ensures.names in
    let named : c.in_ok-replay.replay.names ≡ database.names = cc in
    let machine : machine_of c.in_ok-replay.replay.machine ≡ first_machine record_rules database.records = c.in_ok-replay.ensures.machine in
    err_as _ p (runs_stop c.args.macros.now c.args.db.now database c.in_ok-replay.replay.names (machine_of c.in_ok-replay.replay.machine) c.in_ok-names.ensures named machine c.in_err-run_whole.field-0.0 (g.R.Read.remaining c.args.script) (g.W.Write.contents c.args.out.now) (g.W.Write.contents c.run_whole.new.out) (c.in_err-run_whole.ensures.err tt))

pub returns-clause-ok : goal.returns-clause-ok
returns-clause-ok g c =
    let database = database_of c.in_ok-names.field-0 in
    let same-names = c.in_ok-names.names-is in
    let kept = c.in_ok-replay.ensures.names in
    let named : c.in_ok-replay.replay.names ≡ database.names = cc in
    let machine : machine_of c.in_ok-replay.replay.machine ≡ first_machine record_rules database.records = c.in_ok-replay.ensures.machine in
    runs_whole c.args.macros.now c.args.db.now database c.in_ok-replay.replay.names (machine_of c.in_ok-replay.replay.machine) c.in_ok-names.ensures named machine (g.R.Read.remaining c.args.script) (g.W.Write.contents c.args.out.now) (g.W.Write.contents c.run_whole.new.out) (c.in_ok-run_whole.ensures.ok tt)
