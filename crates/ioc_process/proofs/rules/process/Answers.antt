use Rattle.std.proofs.Common.{Some, ap, sym, subst}
use Rattle.ioc_ledger.specs.Requests.{Request, None}
use Rattle.ioc_process.specs.Processing.{ran}
use Rattle.ioc_process.specs.Rules.{Requested}
use Rattle.ioc_process.specs.RulesAllowed.{ran-allowed}
use Rattle.ioc_process.proofs.rules.process.Goals as goal

pub returns-clause-made : goal.returns-clause-made
returns-clause-made g c = λ answers begins.
    let k = g.S.Record.RecordKind.rules in
    let w = g.S.Store.world c.args.store.now in
    let leaves = c.request_record.ensures.request answers begins in
    let done = ran k answers w c.args.number in
    record {
      requests = Request done.outcome done.requests None;
      rules = subst (λ v. Requested k answers w c.args.number v (Request done.outcome done.requests None)) (sym leaves.world) (ran-allowed k g.met.S.Record.RecordKind.lawful answers w c.args.number);
      outcome = ap (λ o. Some o) leaves.outcome;
      tally = leaves.tally;
    }
