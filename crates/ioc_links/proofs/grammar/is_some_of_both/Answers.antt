use Rattle.std.proofs.Common.{true, false, sym, ◌∙◌, arith}
use Rattle.ioc_links.proofs.Digits.{some_both}
use Rattle.ioc_links.proofs.grammar.is_some_of_both.Goals as goal

pub returns-then-all_of : goal.returns-then-all_of
returns-then-all_of c =
    c.all_of-then-all_of.ensures ∙ sym (some_both c.args.class c.args.front.now c.args.back.now true (grind arith) (sym c.if-all_of.true ∙ c.all_of.ensures))

pub returns-else-all_of : goal.returns-else-all_of
returns-else-all_of c =
    c.if-all_of.false ∙ sym (some_both c.args.class c.args.front.now c.args.back.now false (grind arith) (sym c.if-all_of.false ∙ c.all_of.ensures))
