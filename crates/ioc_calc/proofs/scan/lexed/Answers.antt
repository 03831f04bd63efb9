use Rattle.std.proofs.Common.{drop, ap, sym, ◌∙◌, arith}
use Rattle.ioc_calc.specs.Lexer.{read_by}
use Rattle.ioc_calc.specs.Tokens.{with_front, tokens_from}
use Rattle.ioc_calc.proofs.Turns.{drop_one, from_on}
use Rattle.ioc_calc.proofs.scan.lexed.Goals as goal

pub loop-i-preserved : goal.loop-i-preserved
loop-i-preserved c = record {
  tokens =
      ap (λ xs. with_front (read_by c.read.new.self) (tokens_from c.read.new.self.skip c.read.new.self.operator_is_next xs))
      (sym (drop_one c.loop-i.i c.args.text.now) ∙ ap (drop 1) (sym (from_on c.loop-i.i c.args.text.now)))
      ∙ sym c.in-Ok.ensures.ok
      ∙ ap (λ xs. with_front (read_by c.loop-i.lexer) (tokens_from c.loop-i.lexer.skip c.loop-i.lexer.operator_is_next xs))
      (from_on c.loop-i.i c.args.text.now)
      ∙ c.loop-i.invariant.tokens;
  length = omega arith;
}
