-- The sum and the tokens of the terms that are left are those of all terms, up to the greatest number.
use Rattle.std.proofs.Common.{◌≡◌, ◌+◌, ◌-◌, ◌^◌, ◌<◌, min, drop}
use Rattle.cpn_definitions.specs.Terms.{tokens_in}
use Rattle.cpn_eval.specs.Terms.{terms_view}
use Rattle.cpn_eval.proofs.amounts.tokens_in.Given as goal

abbrev pub invariant-loop-term : goal.invariant-loop-term
invariant-loop-term l = record {
  total : min (l.tokens + tokens_in (terms_view (drop l.term-index l.terms))) (2 ^ 64 - 1) ≡ min (tokens_in (terms_view l.terms)) (2 ^ 64 - 1);
  small : l.tokens < 2 ^ 64;
}
