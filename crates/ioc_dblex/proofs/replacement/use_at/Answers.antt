use Rattle.std.proofs.Common.{ap, sym, ◌∙◌}
use Rattle.ioc_dblex.specs.Macros.{front_of, back_of}
use Rattle.ioc_dblex.proofs.Pieces.{tail, use_found}
use Rattle.ioc_dblex.proofs.replacement.use_at.Goals as goal

pub returns : goal.returns
returns c =
    use_found c.args.macros.now c.args.bytes.now c.split_at_byte.result.0.now c.split_at_byte.result.1.now c.in_ok-value.value.now c.in-len1-up.len_at_least
    (c.split_at_byte.ensures.front ∙ ap (λ k. front_of k (tail c.args.bytes.now)) c.closing_of.ensures)
    (c.split_at_byte.ensures.back ∙ ap (λ k. back_of k (tail c.args.bytes.now)) c.closing_of.ensures)
    c.in-len1-up-closed.len_at_least (sym c.in_ok-value.ensures)
