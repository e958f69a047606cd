-- So many tokens were added.
use Rattle.std.proofs.Common.{◌≡◌, ◌+◌, [], length, replicate, set, get_or}
use Rattle.cpn_definitions.specs.Lists.{with_items}
use Rattle.cpn_definitions.specs.Marking.{token_at, token_cmp, tokens_at}
use Rattle.cpn_core.specs.Views.{value_view}
use Rattle.cpn_flat.proofs.tokens.add_tokens.Given as goal

abbrev pub invariant-loop-token : goal.invariant-loop-token
invariant-loop-token l = record {
  tokens : l.marking ≡ set l.fn.marking l.place (with_items token_cmp (replicate l._token (token_at (value_view l.value) l.stamp)) (get_or l.fn.marking l.place []));
  long : length l.marking ≡ length l.fn.marking;
  number : length (tokens_at l.marking l.place) ≡ length (tokens_at l.fn.marking l.place) + l._token;
}
