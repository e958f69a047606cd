-- One term more.
use Rattle.std.proofs.Common.{◌∙◌, arith}
use Rattle.cpn_flat.proofs.AddedTokens.{term_added, term_apart}
use Rattle.cpn_flat.proofs.tokens.add_terms.Goals as goal

pub loop-term-preserved : goal.loop-term-preserved
loop-term-preserved c = record {
  tokens = term_added c.args.timed c.args.terms.now c.loop-term.term-index c.term-item.result (omega arith) c.term-item.is c.args.marking.now c.loop-term.marking c.add_tokens.new.marking c.args.place c.stamp_of.result c.requires.in_range c.loop-term.invariant.tokens c.stamp_of.ensures.exact c.in_ok-add_tokens.ensures.added;
  long = c.in_ok-add_tokens.ensures.places ∙ c.loop-term.invariant.long;
  few = (
      let apart = term_apart c.args.terms.now c.loop-term.term-index c.term-item.result (omega arith) c.term-item.is in
      let number = c.in_ok-add_tokens.ensures.number in
      let so_far = c.loop-term.invariant.few in
      omega (arith, apart, number, so_far));
}

pub add_tokens-requires-clause-room : goal.add_tokens-requires-clause-room
add_tokens-requires-clause-room c =
    let apart = term_apart c.args.terms.now c.loop-term.term-index c.term-item.result (omega arith) c.term-item.is in
    let so_far = c.loop-term.invariant.few in
    omega (arith, apart, so_far)
