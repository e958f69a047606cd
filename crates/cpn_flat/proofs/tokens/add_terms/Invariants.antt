-- The terms so far were added.
use Rattle.std.proofs.Common.{◌≡◌, ◌+◌, ◌≤◌, [], length, take, drop, set, get_or}
use Rattle.cpn_definitions.specs.Marking.{tokens_at}
use Rattle.cpn_definitions.specs.Terms.{most_tokens, tokens_in}
use Rattle.cpn_eval.specs.Terms.{terms_view}
use Rattle.cpn_flat.specs.Values.{tokens_with}
use Rattle.cpn_flat.proofs.tokens.add_terms.Given as goal

abbrev pub invariant-loop-term : goal.invariant-loop-term
invariant-loop-term l = record {
  tokens : l.marking ≡ set l.fn.marking l.place (tokens_with l.timed (terms_view (take l.term-index l.terms)) (get_or l.fn.marking l.place []));
  long : length l.marking ≡ length l.fn.marking;
  few : length (tokens_at l.marking l.place) + tokens_in (terms_view (drop l.term-index l.terms)) ≤ most_tokens;
}
