-- Up to here the text is the tokens that were read.
use Rattle.std.proofs.Common.{◌-◌, ◌≤◌, length, drop}
use Rattle.cpn_lex.specs.Token.{tokens_view}
use Rattle.cpn_lex.specs.Tokens.{Goes}
use Rattle.cpn_lex.proofs.lexing.tokens_of.Given as goal

abbrev pub invariant-text : goal.invariant-text
invariant-text l = record {
  within : l.at ≤ length l.text;
  goes : Goes 0 l.text (tokens_view l.tokens.items) l.at (drop l.at l.text);
}

abbrev pub decreases-text : goal.decreases-text
decreases-text l = length l.text - l.at
