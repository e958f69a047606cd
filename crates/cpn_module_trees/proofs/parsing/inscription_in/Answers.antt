-- What the lexer and the parser answer is what the text is parsed as.
use Rattle.std.proofs.Common.{ap}
use Rattle.std.specs.Prelude.{Err}
use Rattle.cpn_lex.specs.Token.{tokens_view}
use Rattle.cpn_syntax.specs.Inscriptions.{Spells}
use Rattle.cpn_trees.specs.Depth.{depth}
use Rattle.cpn_trees.specs.ParsedViews.{inscription_view}
use Rattle.cpn_module_trees.specs.Parsing.{IsParsedAs}
use Rattle.cpn_module_trees.proofs.Parsings.{IsLexedOnce, lexical_refusal, if_unlexed, if_spelled}
use Rattle.cpn_module_trees.proofs.parsing.inscription_in.Goals as goal

pub returns-in-Ok : goal.returns-in-Ok
returns-in-Ok c =
    let once : IsLexedOnce c.as_bytes.result.now = record { one_list = c.lex.ensures.one_list; one_rule = c.lex.ensures.one_rule; not_both = c.lex.ensures.not_both } in
    record {
      parsed = rw (← c.as_bytes.ensures.value) (if_spelled inscription_view (Spells 0) depth c.as_bytes.result.now once (tokens_view c.in-Ok.tokens.items) c.in-Ok.ensures.ok (λ more. let e = c.in-Ok.ensures.too_long.1 more in cc) c.parse_expr.result c.spelled.result c.parse_expr.ensures c.spelled.ensures);
    }

pub returns-in-Err : goal.returns-in-Err
returns-in-Err c =
    let once : IsLexedOnce c.as_bytes.result.now = record { one_list = c.lex.ensures.one_list; one_rule = c.lex.ensures.one_rule; not_both = c.lex.ensures.not_both } in
    record {
      parsed = rw (← c.as_bytes.ensures.value) (if_unlexed inscription_view (IsParsedAs (Spells 0) depth c.as_bytes.result.now) c.unlexed.result c.in-Err.error c.unlexed.ensures (lexical_refusal (Spells 0) depth c.as_bytes.result.now once c.in-Err.error (λ at is. c.in-Err.ensures.bad_byte at (ap Err is)) (λ at is. c.in-Err.ensures.open_string at (ap Err is)) (λ at is. c.in-Err.ensures.number_too_large at (ap Err is)) (λ is. c.in-Err.ensures.too_long.0 (ap Err is), λ more. let e = c.in-Err.ensures.too_long.1 more in cc)));
    }
