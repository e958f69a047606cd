-- Reads a name.
use Rattle.std.proofs.Common.{ap, sym, ◌∙◌}
use Rattle.cpn_lex.specs.Token as token
use Rattle.cpn_lex.specs.Token.{tokens_view, kind_view, token_view}
use Rattle.cpn_syntax.proofs.readers.Reader.take_name.Goals as goal

pub returns-in_ok-name-in-Name-clause-taken : goal.returns-in_ok-name-in-Name-clause-taken
returns-in_ok-name-in-Name-clause-taken c = (token_view c.in-Some.token.now, ap kind_view c.in-Name.is ∙ ap token.name (sym (c.in_ok-name-in-Name.ensures.ok ∙ c.as_str.ensures.value)), ap tokens_view c.in-Some.ensures.cases.0)
