use Rattle.ioc_double.proofs.Automaton.{read_grammar, grammar_read}
use Rattle.ioc_double.proofs.laws.decimals_are_of_the_grammar.Goals as goal

pub returns : goal.returns
returns c = (read_grammar c.args.text.now, grammar_read c.args.text.now)
