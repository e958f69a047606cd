-- Reads the symbol, and gives the offset of its token.
use Rattle.std.proofs.Common.{ap, refl}
use Rattle.cpn_lex.specs.Token.{tokens_view, token_view}
use Rattle.cpn_syntax.proofs.readers.Reader.take.Goals as goal

pub returns-else-not-is_symbol-clause-taken : goal.returns-else-not-is_symbol-clause-taken
returns-else-not-is_symbol-clause-taken c = (token_view c.in-Some.token.now, (c.is_symbol.ensures.yes c.if-not-is_symbol.false, refl), ap tokens_view c.in-Some.ensures.cases.0)
