use Rattle.std.proofs.Common.{List, ℕ, ap, ◌∙◌, arith}
use Rattle.ioc_dblex.specs.Texts.{parts_of}
use Rattle.ioc_dblex.specs.Tokens.{tokens_of}
use Rattle.ioc_dblex.proofs.Turns.{tokens_nil}
use Rattle.ioc_dblex.proofs.Counting.{tokens_count}
use Rattle.ioc_dblex.proofs.tokens.Tokens.new.Goals as goal

pub returns-clause-tokens : goal.returns-clause-tokens
returns-clause-tokens c =
    let end = c.args.texts.now.end in
    tokens_nil 0 (tokens_of end 1 (parts_of c.as_slice-2.result.now c.as_slice.result.now))
    ∙ ap (λ (ns : List ℕ). tokens_of end 1 (parts_of ns c.as_slice.result.now)) c.as_slice-2.ensures.value
    ∙ ap (λ (bs : List ℕ). tokens_of end 1 (parts_of c.args.texts.now.lengths.items bs)) c.as_slice.ensures.value

pub returns-clause-few : goal.returns-clause-few
returns-clause-few c =
    let t = c.args.texts.now in
    let all = returns-clause-tokens c in
    rw all (omega (arith, tokens_count t.end 1 t.lengths.items t.bytes.items, t.fits))
