use Rattle.std.proofs.Common.{◌≡◌, ◌≤◌, drop}
use Rattle.ioc_calc.specs.Lexer.{read_by}
use Rattle.ioc_calc.specs.Tokens.{with_front, tokens_from, tokens_of}
use Rattle.ioc_calc.proofs.scan.lexed.Given as goal

abbrev pub invariant-loop-i : goal.invariant-loop-i
invariant-loop-i l = record {
  tokens : with_front (read_by l.lexer) (tokens_from l.lexer.skip l.lexer.operator_is_next (drop l.i l.text)) ≡ tokens_of l.text;
  length : l.lexer.length ≤ l.i;
}
