use Rattle.std.proofs.Common.{◌≡◌, length, arith}
use Rattle.ioc_dbparse.proofs.Loads.{filled_so}
use Rattle.ioc_dbparse.proofs.loading.fill_by_text.Goals as goal

pub returns : goal.returns
returns g c =
    let count : c.len-last.result ≡ length c.in_ok-texts.texts.lengths.items = omega (arith, c.len-last.ensures, c.in_ok-texts.texts.lengths.ok.0) in
    rw (← filled_so g.B.Builder.rules c.args.builder.now c.args.macros.now c.in_ok-texts.texts c.args.text.now c.len-last.result c.new-tokens.result c.in_ok-texts.ensures count c.new-tokens.ensures.tokens) c.fill.ensures
