-- One token more, at its place in the order.
use Rattle.std.proofs.Common.{◌∙◌, arith}
use Rattle.cpn_definitions.specs.Marking.{token_at}
use Rattle.cpn_core.specs.Views.{value_view}
use Rattle.cpn_flat.proofs.AddedTokens.{one_added, one_longer}
use Rattle.cpn_flat.proofs.tokens.add_tokens.Goals as goal

pub loop-token-preserved : goal.loop-token-preserved
loop-token-preserved c = record {
  tokens = rw (c.in_ok-add.ensures.added, c.in_ok-copy.ensures.same, c.loop-token.invariant.tokens) (one_added c.args.marking.now c.args.place (token_at (value_view c.args.value.now) c.args.stamp) c.requires.in_range c.loop-token._token);
  long = c.in_ok-add.ensures.places ∙ c.loop-token.invariant.long;
  number = (
      let long = c.loop-token.invariant.long in
      let one = one_longer c.loop-token.marking c.args.place (token_at (value_view c.in_ok-copy.field-0) c.args.stamp) (omega (arith, long, c.requires.in_range)) in
      let so_far = c.loop-token.invariant.number in
      rw c.in_ok-add.ensures.added (omega (arith, one, so_far)));
}
