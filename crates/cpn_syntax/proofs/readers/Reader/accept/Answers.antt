-- Reads the symbol if it is next, and says whether it was.
use Rattle.std.proofs.Common.{ap}
use Rattle.cpn_lex.specs.Token.{tokens_view, token_view}
use Rattle.cpn_syntax.proofs.readers.Reader.accept.Goals as goal

pub returns-else-not-is_symbol-clause-yes : goal.returns-else-not-is_symbol-clause-yes
returns-else-not-is_symbol-clause-yes c same = (token_view c.in-Some.token.now, c.is_symbol.ensures.yes c.if-not-is_symbol.false, ap tokens_view c.in-Some.ensures.cases.0)
