-- Reads a number.
use Rattle.std.proofs.Common.{rules, ap, ◌∙◌}
use Rattle.cpn_lex.specs.Token as token
use Rattle.cpn_lex.specs.Token.{tokens_view, kind_view, token_view}
use Rattle.cpn_syntax.proofs.readers.Reader.take_number.Goals as goal

pub returns-in-Number-clause-taken : goal.returns-in-Number-clause-taken
returns-in-Number-clause-taken c = (token_view c.in-Some.token.now, ap kind_view c.in-Number.is ∙ ap token.number (search rules), ap tokens_view c.in-Some.ensures.cases.0)
