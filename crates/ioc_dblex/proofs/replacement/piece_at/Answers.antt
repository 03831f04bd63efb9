use Rattle.std.proofs.Common.{sym, ◌∙◌}
use Rattle.ioc_dblex.proofs.Pieces.{use_so, run_fits, run_so}
use Rattle.ioc_dblex.proofs.replacement.piece_at.Goals as goal

pub returns-then-begins_use : goal.returns-then-begins_use
returns-then-begins_use c = use_so c.args.macros.now c.args.text.now c.use_at.result c.in-len1-up.len_at_least (sym c.begins_use.ensures ∙ c.if-begins_use.true) c.use_at.ensures

pub split_at-requires : goal.split_at-requires
split_at-requires c = run_fits c.args.text.now _ c.in-len1-up.len_at_least c.split_at_byte.ensures.front

pub returns : goal.returns
returns c =
    run_so c.args.macros.now c.args.text.now _ _ _ c.in-len1-up.len_at_least (sym c.begins_use.ensures ∙ c.if-begins_use.false) c.split_at_byte.ensures.front c.split_at_byte.ensures.back c.split_at.ensures.front
