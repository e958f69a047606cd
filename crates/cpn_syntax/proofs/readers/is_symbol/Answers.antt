-- Whether the token is the symbol.
use denote.Enum.Bare.{same_true}
use Rattle.std.proofs.Common.{ap, sym, ◌∙◌}
use Rattle.cpn_lex.specs.Token.{kind_view}
use Rattle.cpn_lex.specs.Token as token
use Rattle.cpn_lex.specs.contracts.symbols.Symbol.{the_type}
use Rattle.cpn_syntax.proofs.readers.is_symbol.Goals as goal

pub returns-in-Symbol-clause-yes : goal.returns-in-Symbol-clause-yes
returns-in-Symbol-clause-yes c = λ same. ap kind_view c.in-Symbol.is ∙ ap token.symbol (same_true the_type _ c.in-Symbol.found c.args.symbol (sym c.eq.ensures ∙ same))
