use Rattle.std.proofs.Common.{rules}
use Rattle.ioc_dblex.specs.SeenToken.{seen}
use Rattle.ioc_dbparse.proofs.Taking.{first_statement}
use Rattle.ioc_dbparse.proofs.statements.statement_at.Goals as goal

pub returns-in_err-token : goal.returns-in_err-token
returns-in_err-token g c =
    rw (first_statement g.B.Builder.rules c.args.turns c.args.last c.args.builder.now (seen c.in-Some.token) c.args.tokens.now c.next.new.self c.in-Some.ensures, c.in_err-token.ensures c.next.new.self) (search rules)

pub returns-in_err-statement_of : goal.returns-in_err-statement_of
returns-in_err-statement_of g c =
    rw (first_statement g.B.Builder.rules c.args.turns c.args.last c.args.builder.now (seen c.in-Some.token) c.args.tokens.now c.next.new.self c.in-Some.ensures, c.in_ok-token.ensures c.next.new.self) (search rules)

pub returns : goal.returns
returns g c =
    rw (first_statement g.B.Builder.rules c.args.turns c.args.last c.args.builder.now (seen c.in-Some.token) c.args.tokens.now c.next.new.self c.in-Some.ensures, c.in_ok-token.ensures c.next.new.self) (search rules)
